-- A sound value's bits with another type mean the value with that type.
use Rattle.std.proofs.Common.{◌≡◌, ℕ, ◌^◌, ◌<◌, true, refl, ap, ◌∙◌}
use Rattle.cap_format.specs.Word.{with_field}
use Rattle.cap_bounds.specs.CapValue.{CapValue, Cap, Data, IsSound, is_tagged, word_of, value_of}
use Rattle.cap_bounds.specs.Record.{IsWordWellFormed, decoded}
use Rattle.cap_bounds.specs.RecordLaws.{decoded-encoded, encoded-well_formed}
use Rattle.cap_bounds.specs.FieldLaws.{otype-encoded, IsWellFormed-otype}
use Rattle.cap_rights.specs.Opened.{with_type}

pub with_type-well_formed : (v : CapValue) (otype : ℕ) → IsSound v → otype < 2 ^ 18 → is_tagged v ≡ true
    → IsWordWellFormed (with_field (word_of v) 91 18 otype)
with_type-well_formed (Cap r) otype sound fits tagged =
    rw (otype-encoded r sound otype) ((encoded-well_formed _ (IsWellFormed-otype r sound otype fits)).1)
with_type-well_formed (Data n) otype sound fits tagged = cc

pub value_of-with_type : (v : CapValue) (otype : ℕ) → IsSound v → otype < 2 ^ 18
    → value_of (with_field (word_of v) 91 18 otype) (is_tagged v) ≡ with_type v otype
value_of-with_type (Cap r) otype sound fits =
    ap Cap (ap decoded (otype-encoded r sound otype) ∙ decoded-encoded _ (IsWellFormed-otype r sound otype fits))
value_of-with_type (Data n) otype sound fits = refl
