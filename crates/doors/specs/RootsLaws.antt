-- What stands among the roots and the special registers of a state, as lists, is what *authority* calls a root and a special register.
use Rattle.std.proofs.Common.{◌≡◌, ℕ, ◌<◌, true, [], ◌∷◌, length, get_or, zero, suc, sym, ap, ◌∙◌, subst, arith, inl, inr}
use Rattle.std.proofs.lemmas.Bool.{false≢true, cases_lt}
use Rattle.std.proofs.lemmas.List.{get_or_default, get_or_past}
use Rattle.std.proofs.lemmas.List.Elements.{Contains-append_left, Contains-append_right, Contains-append_cases, Contains-get_or}
use Rattle.std.specs.List.{Contains}
use Rattle.cap_bounds.specs.CapValue.{CapValue, is_tagged}
use Rattle.registers.specs.Registers.{null}
use Rattle.steps.specs.State.{State}
use Rattle.authority.specs.Reachable.{IsRoot, in_register, in_pcc, in_ddc, IsSpecial, in_mtcc, in_mtdc, in_mscratchc, in_mepcc}
use Rattle.doors.specs.Roots.{roots_of, specials_of}

pub root_there : (s : State) (v : CapValue) → Contains (roots_of s) v → IsRoot s v
root_there s v there = elim (Contains-append_cases s.registers (s.scrs.pcc ∷ s.scrs.ddc ∷ []) v there) [
  | inl in_registers ↦ in_register in_registers.0 (sym in_registers.2 ∙ get_or_default s.registers in_registers.0 v null in_registers.1)
  | inr last ↦ one_of_two last.0 last.1 last.2
]
  where
    one_of_two : (k : ℕ) → k < 2 → get_or (s.scrs.pcc ∷ s.scrs.ddc ∷ []) k v ≡ v → IsRoot s v
    one_of_two zero below same = in_pcc (sym same)
    one_of_two (suc zero) below same = in_ddc (sym same)
    one_of_two (suc (suc k)) below same = absurd (omega arith)

pub there_root : (s : State) (v : CapValue) → is_tagged v ≡ true → IsRoot s v → Contains (roots_of s) v
there_root s v tagged (in_register n same) = elim (cases_lt n (length s.registers)) [
  | inl below ↦ Contains-append_left s.registers (s.scrs.pcc ∷ s.scrs.ddc ∷ []) v
      (subst (Contains s.registers) (sym same) (Contains-get_or s.registers n null below))
  | inr past ↦ absurd (false≢true (sym (ap is_tagged (same ∙ get_or_past s.registers n null past)) ∙ tagged))
]
there_root s v tagged (in_pcc same) = Contains-append_right s.registers (s.scrs.pcc ∷ s.scrs.ddc ∷ []) v (0, omega arith, sym same)
there_root s v tagged (in_ddc same) = Contains-append_right s.registers (s.scrs.pcc ∷ s.scrs.ddc ∷ []) v (1, omega arith, sym same)

pub special_there : (s : State) (v : CapValue) → Contains (specials_of s.scrs) v → IsSpecial s v
special_there s v there = one_of_four there.0 there.1 there.2
  where
    one_of_four : (k : ℕ) → k < 4 → get_or (specials_of s.scrs) k v ≡ v → IsSpecial s v
    one_of_four zero below same = in_mtcc (sym same)
    one_of_four (suc zero) below same = in_mtdc (sym same)
    one_of_four (suc (suc zero)) below same = in_mscratchc (sym same)
    one_of_four (suc (suc (suc zero))) below same = in_mepcc (sym same)
    one_of_four (suc (suc (suc (suc k)))) below same = absurd (omega arith)

pub there_special : (s : State) (v : CapValue) → IsSpecial s v → Contains (specials_of s.scrs) v
there_special s v (in_mtcc same) = (0, omega arith, sym same)
there_special s v (in_mtdc same) = (1, omega arith, sym same)
there_special s v (in_mscratchc same) = (2, omega arith, sym same)
there_special s v (in_mepcc same) = (3, omega arith, sym same)
