-- Derivations of sound values are sound, and what keeps its tag lies within its operand.
use Rattle.std.proofs.Common.{◌≡◌, ℕ, ◌^◌, ◌<◌, Bool, true, false, refl, ap, ◌∙◌, arith, lit<, IsTrue, ◌↔◌}
use Rattle.std.specs.Prelude.{bit_and}
use Rattle.std.specs.Bool.{beq}
use Rattle.std.specs.Int.Bits.{and_self}
use Rattle.std.proofs.lemmas.Nat.{and_comm, and_assoc, mod_below, pow_pos}
use Rattle.std.proofs.lemmas.Bool.{cond_both, and_parts, and_from, leb-true, le-leb, eqb-true, eq-eqb}
use Rattle.base.specs.ObjectType.{unsealed_type, sentry_type}
use Rattle.cap_bounds.specs.CapValue.{CapValue, Cap, Data, IsSound, is_tagged, value_address, value_perms}
use Rattle.cap_bounds.specs.SoundLaws.{value_perms-below, word_of-below}
use Rattle.cap_rights.specs.declared.permission.Permission.TheVariants.{Global}
use Rattle.cap_rights.specs.Permission.{permits}
use Rattle.cap_rights.specs.Opened.{with_type, opened}
use Rattle.cap_rights.specs.Derivations.{tagged_if, with_perms, with_flag, and_perms, set_flags, seal, unsealed_perms, unseal, seal_entry}
use Rattle.cap_rights.specs.Derivations.{is_within, subset}
use Rattle.cap_rights.specs.Within.{IsWithin, IsWithinIfTagged}
use Rattle.cap_rights.specs.FieldLaws.{IsSound-with_type, IsSound-with_perms, IsSound-with_flag, masked_perms-below}

-- ---- soundness

pub IsSound-tagged_if : (may : Bool) (v : CapValue) → IsSound v → IsSound (tagged_if may v)
IsSound-tagged_if true v sound = sound
IsSound-tagged_if false v sound = word_of-below v sound

pub IsSound-and_perms : (v : CapValue) (mask : ℕ) → IsSound v → IsSound (and_perms v mask)
unfolding and_perms
IsSound-and_perms v mask sound = IsSound-tagged_if _ _ (IsSound-with_perms v _ sound (masked_perms-below v mask sound))

pub IsSound-set_flags : (v : CapValue) (flag : Bool) → IsSound v → IsSound (set_flags v flag)
unfolding set_flags
IsSound-set_flags v flag sound = IsSound-tagged_if _ _ (IsSound-with_flag v flag sound)

pub IsSound-seal : (v authority : CapValue) → IsSound v → IsSound (seal v authority)
unfolding seal
IsSound-seal v authority sound =
    IsSound-tagged_if _ _ (IsSound-with_type v _ sound (mod_below (value_address authority) (2 ^ 18) (pow_pos 18)))

pub unsealed_perms-below : (v authority : CapValue) → IsSound v → unsealed_perms v authority < 2 ^ 16
unfolding unsealed_perms
unsealed_perms-below v authority sound =
    cond_both (permits authority Global) _ _ (λ p. p < 2 ^ 16) (λ e. value_perms-below v sound) (λ e. masked_perms-below v 0xfffe sound)

pub IsSound-unseal : (v authority : CapValue) → IsSound v → IsSound (unseal v authority)
unfolding unseal
IsSound-unseal v authority sound =
    IsSound-tagged_if _ _
    (IsSound-with_type _ unsealed_type (IsSound-with_perms v _ sound (unsealed_perms-below v authority sound)) (lit< tt))

pub IsSound-seal_entry : (v : CapValue) → IsSound v → IsSound (seal_entry v)
unfolding seal_entry
IsSound-seal_entry v sound = IsSound-tagged_if _ _ (IsSound-with_type v sentry_type sound (lit< tt))

pub IsSound-opened : (v : CapValue) → IsSound v → IsSound (opened v)
unfolding opened
IsSound-opened v sound = IsSound-with_type v unsealed_type sound (lit< tt)

-- ---- what keeps its tag lies within its operand

-- what `subset` tests beside the tags
pub is_within-IsWithin : (v outer : CapValue) → IsTrue (is_within v outer) ↔ IsWithin v outer
unfolding is_within
is_within-IsWithin v outer = (
  λ t.
      let parts = and_parts _ _ t in
      let bounds = and_parts _ _ parts.0 in
      record { base = leb-true _ _ bounds.0; top = leb-true _ _ bounds.1; perms = eqb-true _ _ parts.1 },
  λ w. and_from _ _ (and_from _ _ (le-leb _ _ w.base) (le-leb _ _ w.top)) (eq-eqb _ _ w.perms),
)

IsWithin-tagged_if : (may : Bool) (v outer : CapValue) → IsWithinIfTagged v outer → IsWithinIfTagged (tagged_if may v) outer
IsWithin-tagged_if true v outer h = h
IsWithin-tagged_if false v outer h = λ t. cc

masked-again : (p m : ℕ) → bit_and (bit_and p m) p ≡ bit_and p m
masked-again p m =
    ap (λ n. bit_and n p) (and_comm p m) ∙ and_assoc p m p ∙ ap (bit_and m) (and_self p) ∙ and_comm m p

pub IsWithin-with_perms : (v : CapValue) (mask : ℕ) → IsWithinIfTagged (with_perms v (bit_and (value_perms v) mask)) v
IsWithin-with_perms (Cap r) mask = λ t. record { base = omega arith; top = omega arith; perms = masked-again r.perms mask }
IsWithin-with_perms (Data n) mask = λ t. cc

pub IsWithin-with_flag : (v : CapValue) (flag : Bool) → IsWithinIfTagged (with_flag v flag) v
IsWithin-with_flag (Cap r) flag = λ t. record { base = omega arith; top = omega arith; perms = and_self r.perms }
IsWithin-with_flag (Data n) flag = λ t. cc

pub IsWithin-with_type : (v : CapValue) (otype : ℕ) → IsWithinIfTagged (with_type v otype) v
IsWithin-with_type (Cap r) otype = λ t. record { base = omega arith; top = omega arith; perms = and_self r.perms }
IsWithin-with_type (Data n) otype = λ t. cc

pub IsWithin-and_perms : (v : CapValue) (mask : ℕ) → IsWithinIfTagged (and_perms v mask) v
unfolding and_perms
IsWithin-and_perms v mask = IsWithin-tagged_if _ _ v (IsWithin-with_perms v mask)

pub IsWithin-set_flags : (v : CapValue) (flag : Bool) → IsWithinIfTagged (set_flags v flag) v
unfolding set_flags
IsWithin-set_flags v flag = IsWithin-tagged_if _ _ v (IsWithin-with_flag v flag)

pub IsWithin-seal : (v authority : CapValue) → IsWithinIfTagged (seal v authority) v
unfolding seal
IsWithin-seal v authority = IsWithin-tagged_if _ _ v (IsWithin-with_type v _)

pub IsWithin-seal_entry : (v : CapValue) → IsWithinIfTagged (seal_entry v) v
unfolding seal_entry
IsWithin-seal_entry v = IsWithin-tagged_if _ _ v (IsWithin-with_type v sentry_type)

-- permissions that lie within the value's
IsWithin-opened_with : (v : CapValue) (perms : ℕ) → bit_and perms (value_perms v) ≡ perms
    → IsWithinIfTagged (with_type (with_perms v perms) unsealed_type) v
IsWithin-opened_with (Cap r) perms among = λ t. record { base = omega arith; top = omega arith; perms = among }
IsWithin-opened_with (Data n) perms among = λ t. cc

unsealed_perms-among : (v authority : CapValue) → bit_and (unsealed_perms v authority) (value_perms v) ≡ unsealed_perms v authority
unfolding unsealed_perms
unsealed_perms-among v authority =
    cond_both (permits authority Global) _ _ (λ p. bit_and p (value_perms v) ≡ p) (λ e. and_self (value_perms v))
    (λ e. masked-again (value_perms v) 0xfffe)

pub IsWithin-unseal : (v authority : CapValue) → IsWithinIfTagged (unseal v authority) v
unfolding unseal
IsWithin-unseal v authority = IsWithin-tagged_if _ _ v (IsWithin-opened_with v _ (unsealed_perms-among v authority))

same_tags : (a b : Bool) → beq a b ≡ true → a ≡ b
same_tags true true h = refl
same_tags false false h = refl
same_tags true false h = cc
same_tags false true h = cc

beq-refl : (a : Bool) → beq a a ≡ true
beq-refl true = refl
beq-refl false = refl

-- `subset` says whether the tags are equal and the second lies within the first
pub subset-IsWithin : (outer v : CapValue) → IsTrue (subset outer v) ↔ ((is_tagged outer ≡ is_tagged v) × IsWithin v outer)
unfolding subset
subset-IsWithin outer v = (
  λ t. let parts = and_parts _ _ t in (same_tags _ _ parts.0, (is_within-IsWithin v outer).0 parts.1),
  λ h. and_from _ _ (rw h.0 (beq-refl (is_tagged v))) ((is_within-IsWithin v outer).1 h.1),
)
