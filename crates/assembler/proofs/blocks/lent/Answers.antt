use Rattle.std.proofs.Common.{◌≡◌, ℕ, ◌+◌, ◌<◌, List, [], ◌∷◌, ◌++◌, take, get_or, length, refl, sym, ap, ◌∙◌}
use Rattle.std.proofs.lemmas.List.{map-append, take_more, take_all}
use Rattle.std.specs.Borrow.{Bor}
use Rattle.image.specs.Image.{Section, lent_section, lent_sections}
use Rattle.assembler.proofs.blocks.lent.Goals as goal

lent-more : (parts : List (ℕ × Bor (List ℕ))) (blocks : List Section) (i : ℕ) (p : ℕ × Bor (List ℕ)) (s : Section)
    → i < length blocks → s ≡ get_or blocks i s → p.0 ≡ s.address → p.1.now ≡ s.bytes
    → lent_sections parts ≡ take i blocks → lent_sections (parts ++ p ∷ []) ≡ take (i + 1) blocks
lent-more parts blocks i p s l at address bytes so_far =
    let same : lent_section p ≡ s = rw (address, bytes) refl in
    map-append lent_section parts (p ∷ [])
    ∙ ap (λ ss. ss ++ lent_section p ∷ []) so_far
    ∙ ap (λ x. take i blocks ++ x ∷ []) (same ∙ at)
    ∙ sym (take_more blocks i s l)

pub loop-block-preserved : goal.loop-block-preserved
loop-block-preserved c =
    rw c.in_ok-push.ensures.items
    (lent-more c.loop-block.parts.items c.args.blocks.now c.loop-block.block-index _ c.block-item.result
    c.loop-block-test.true c.block-item.is c.address.ensures c.bytes.ensures c.loop-block.invariant)

pub returns : goal.returns
returns c = c.loop-block.invariant ∙ take_all _ _ c.loop-block-test.false
