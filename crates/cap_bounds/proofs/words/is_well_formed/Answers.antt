use Rattle.std.proofs.Common.{◌↔◌, ◌≡◌, ℕ, Bool, IsTrue, eqb, refl, sym, ap, ◌∙◌}
use Rattle.std.proofs.lemmas.Bool.{eqb-true, eq-eqb}
use Rattle.cap_bounds.specs.Record.{Record, IsWellFormed, IsWordWellFormed, encoded, decoded, record_with}
use Rattle.cap_bounds.specs.CapValue.{CapValue, Cap, word_of}
use Rattle.cap_bounds.proofs.words.is_well_formed.Goals as goal
use Rattle.cap_bounds.proofs.words.is_well_formed.Goals.{After-otype}

-- the record that the body puts together is the one that the word decodes to
meant : (c : After-otype)
    → record_with c.base-base.result c.top-top.result c.address.result c.perms.result c.flag.result c.otype.result ≡ decoded c.args.word
unfolding decoded
meant c = rw (c.base-base.ensures, c.top-top.ensures.value, c.address.ensures, c.perms.ensures, c.flag.ensures, c.otype.ensures) refl

-- a word is its record's canonical word exactly where it is well-formed
canonical : (word n : ℕ) (r : Record) (v : CapValue) → r ≡ decoded word → IsWellFormed r → v ≡ Cap r → n ≡ word_of v → (b : Bool)
    → b ≡ eqb n word → IsTrue b ↔ IsWordWellFormed word
canonical word n r v same well value bits b test =
    let encodes : n ≡ encoded (decoded word) = bits ∙ ap word_of value ∙ ap encoded same in (
      λ t. record { decodes = rw same at well; canonical = sym encodes ∙ eqb-true n word (sym test ∙ t) },
      λ is. test ∙ eq-eqb n word (encodes ∙ is.canonical),
    )

pub returns-in-Some : goal.returns-in-Some
returns-in-Some c =
    let same = meant (goal.at.returns-in-Some c).After-otype in
    canonical c.args.word c.word.result _ _ same
    (c.in-Some.ensures.some.0 refl) c.in-Some.ensures.value c.word.ensures.value c.eq.result c.eq.ensures

pub returns-in-None : goal.returns-in-None
returns-in-None c =
    let same = meant (goal.at.returns-in-None c).After-otype in
    (λ t. absurd cc, λ is. c.in-None.ensures.some.1 (rw (← same) at is.decodes))
