-- A sound value's bits with another field mean the value with that field, and that value is sound.
use Rattle.std.proofs.Common.{◌≡◌, ℕ, ◌^◌, ◌<◌, Bool, true, refl, ap, ◌∙◌, arith}
use Rattle.std.specs.Prelude.{bit_and}
use Rattle.std.proofs.lemmas.Nat.{and_le_l}
use Rattle.base.specs.Bits.{bit}
use Rattle.cap_format.specs.Word.{with_field}
use Rattle.cap_bounds.specs.CapValue.{CapValue, Cap, Data, IsSound, is_tagged, word_of, value_of, value_perms}
use Rattle.cap_bounds.specs.Record.{IsWordWellFormed, decoded}
use Rattle.cap_bounds.specs.RecordLaws.{decoded-encoded, encoded-well_formed}
use Rattle.cap_bounds.specs.FieldLaws.{perms-encoded, flag-encoded, IsWellFormed-perms, IsWellFormed-flag, IsWellFormed-otype}
use Rattle.cap_bounds.specs.SoundLaws.{value_perms-below}
use Rattle.cap_bounds.specs.WordLaws.{bit-small}
use Rattle.cap_rights.specs.Opened.{with_type}
use Rattle.cap_rights.specs.Derivations.{with_perms, with_flag}

-- ---- the bits

pub with_perms-well_formed : (v : CapValue) (perms : ℕ) → IsSound v → perms < 2 ^ 16 → is_tagged v ≡ true
    → IsWordWellFormed (with_field (word_of v) 112 16 perms)
with_perms-well_formed (Cap r) perms sound fits tagged =
    rw (perms-encoded r sound perms) ((encoded-well_formed _ (IsWellFormed-perms r sound perms fits)).1)
with_perms-well_formed (Data n) perms sound fits tagged = cc

pub value_of-with_perms : (v : CapValue) (perms : ℕ) → IsSound v → perms < 2 ^ 16
    → value_of (with_field (word_of v) 112 16 perms) (is_tagged v) ≡ with_perms v perms
value_of-with_perms (Cap r) perms sound fits =
    ap Cap (ap decoded (perms-encoded r sound perms) ∙ decoded-encoded _ (IsWellFormed-perms r sound perms fits))
value_of-with_perms (Data n) perms sound fits = refl

pub with_flag-well_formed : (v : CapValue) (flag : Bool) → IsSound v → is_tagged v ≡ true
    → IsWordWellFormed (with_field (word_of v) 109 1 (bit flag))
with_flag-well_formed (Cap r) flag sound tagged =
    rw (flag-encoded r sound flag) ((encoded-well_formed _ (IsWellFormed-flag r sound flag)).1)
with_flag-well_formed (Data n) flag sound tagged = cc

pub value_of-with_flag : (v : CapValue) (flag : Bool) → IsSound v
    → value_of (with_field (word_of v) 109 1 (bit flag)) (is_tagged v) ≡ with_flag v flag
value_of-with_flag (Cap r) flag sound =
    ap Cap (ap decoded (flag-encoded r sound flag) ∙ decoded-encoded _ (IsWellFormed-flag r sound flag))
value_of-with_flag (Data n) flag sound = refl

-- ---- the values

pub IsSound-with_type : (v : CapValue) (otype : ℕ) → IsSound v → otype < 2 ^ 18 → IsSound (with_type v otype)
IsSound-with_type (Cap r) otype sound fits = IsWellFormed-otype r sound otype fits
IsSound-with_type (Data n) otype sound fits = omega arith

pub IsSound-with_perms : (v : CapValue) (perms : ℕ) → IsSound v → perms < 2 ^ 16 → IsSound (with_perms v perms)
IsSound-with_perms (Cap r) perms sound fits = IsWellFormed-perms r sound perms fits
IsSound-with_perms (Data n) perms sound fits = omega arith

pub IsSound-with_flag : (v : CapValue) (flag : Bool) → IsSound v → IsSound (with_flag v flag)
IsSound-with_flag (Cap r) flag sound = IsWellFormed-flag r sound flag
IsSound-with_flag (Data n) flag sound = omega (arith, bit-small flag)

-- ---- a field in range

-- the permissions with a mask
pub masked_perms-below : (v : CapValue) (mask : ℕ) → IsSound v → bit_and (value_perms v) mask < 2 ^ 16
masked_perms-below v mask sound = omega (arith, and_le_l (value_perms v) mask, value_perms-below v sound)
