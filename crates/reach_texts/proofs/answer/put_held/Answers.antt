use Rattle.std.proofs.Common.{◌≡◌, List, ℕ, ◌++◌, ap, ◌∙◌, append_assoc}
use Rattle.std.proofs.lemmas.Result.{on_ok_weaker}
use Rattle.std.specs.Prelude.{codes, string_bytes}
use Rattle.reached.specs.Order.{seen_members}
use Rattle.reach_texts.specs.Text.{capability_in, chain_text}
use Rattle.reach_texts.proofs.Seen.{seen_here}
use Rattle.reach_texts.proofs.answer.put_held.Goals as goal

held_on : (old between new chain letters fields held : List ℕ) → between ≡ old ++ chain
    → new ≡ between ++ (codes " " ++ letters ++ codes " " ++ fields) → held ≡ letters ++ codes " " ++ fields
    → new ≡ old ++ (chain ++ codes " " ++ held)
held_on old between new chain letters fields held e f h =
    rw h (f ∙ ap (λ text. text ++ (codes " " ++ letters ++ codes " " ++ fields)) e ∙ simp append_assoc)

pub returns : goal.returns
returns g c =
    let value = g.C.CapRep.value in
    let xs = seen_members value c.args.members.now in
    on_ok_weaker c.append.result
    (λ e. held_on (string_bytes c.args.text.now) _ _ _ c.as_str.result.now c.as_str-2.result.now _
    (c.in_ok-append_chain.ensures
    ∙ ap (λ way. string_bytes c.args.text.now ++ chain_text c.args.symbols.now c.args.doors.now xs way)
    (c.deref.ensures.value ∙ c.in_ok-way.ensures.way))
    e
    (ap capability_in (seen_here value c.args.members.now c.args.number c.index-members-number.result c.requires.inside
    c.index-members-number.is) ∙ (cc)))
    c.append.ensures.bytes
