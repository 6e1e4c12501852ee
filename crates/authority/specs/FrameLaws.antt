-- Frames by parts: registers, special registers and memory that hold what they held or what is grounded.
use Rattle.std.proofs.Common.{◌≡◌, ℕ, zero, suc, ◌%◌, ◌*◌, ◌/◌, Bool, true, false, eqb, cond, List, [], ◌∷◌, length, set, ◌⊎◌, inl, inr}
use Rattle.std.proofs.Common.{refl, sym}
use Rattle.std.proofs.Common.{ap, subst, ◌∙◌, None}
use Rattle.std.proofs.lemmas.Bool.{cond_both, cond-false}
use Rattle.base.specs.declared.registers.csr.TheConstants.{MTVEC, MEPC}
use Rattle.base.specs.declared.registers.scr.TheConstants.{DDC, MTCC, MTDC, MSCRATCHC, MEPCC}
use Rattle.cap_bounds.specs.CapValue.{CapValue, IsSound, is_tagged, value_address, word_of}
use Rattle.cap_bounds.specs.SetAddress.{at_address}
use Rattle.cap_rights.specs.Derived.{IsDerivedIfTagged}
use Rattle.cap_rights.specs.DerivedLaws.{derived-self, derived-at_address}
use Rattle.tagged_memory.specs.Memory.{Memory, IsMemory, is_in_ram, data_written, capability_written, place_fault}
use Rattle.special_regs.specs.Scrs.{Scrs}
use Rattle.special_regs.specs.Mtvec.{mtvec_of}
use Rattle.special_regs.specs.Traps.{is_sentry, sentry_opened, aligned, target, returned_scrs}
use Rattle.special_regs.specs.Writes.{views_written, scr_written}
use Rattle.steps.specs.Effect.{moved}
use Rattle.registers.specs.Registers.{register, with_register}
use Rattle.steps.specs.State.{State}
use Rattle.authority.specs.Reachable.{IsRoot, in_register, in_pcc, in_ddc, IsSpecial, in_mtcc, in_mtdc, in_mscratchc, in_mepcc, IsHeldAt}
use Rattle.authority.specs.Reachable.{from_root, from_special}
use Rattle.authority.specs.Authority.{HasSystem}
use Rattle.authority.specs.Grounded.{IsGrounded, IsGroundedIfTagged, IsFramed}
use Rattle.authority.specs.GroundedLaws.{grounded-reachable, grounded-derived}
use Rattle.authority.specs.HeldLaws.{held-data_written, held-capability_written}

-- ---- what a state holds

pub grounded-register : (s : State) (n : ℕ) → IsGroundedIfTagged s (register s.registers n)
grounded-register s n = λ tagged. grounded-reachable s (register s.registers n) (from_root tagged (in_register n refl))

pub grounded-pcc : (s : State) → IsGroundedIfTagged s s.scrs.pcc
grounded-pcc s = λ tagged. grounded-reachable s s.scrs.pcc (from_root tagged (in_pcc refl))

pub grounded-ddc : (s : State) → IsGroundedIfTagged s s.scrs.ddc
grounded-ddc s = λ tagged. grounded-reachable s s.scrs.ddc (from_root tagged (in_ddc refl))

pub grounded-special : (s : State) (v : CapValue) → HasSystem s → IsSpecial s v → IsGroundedIfTagged s v
grounded-special s v has special = λ tagged. grounded-reachable s v (from_special has.reachable has.opens tagged special)

grounded-same : (s : State) (v w : CapValue) → v ≡ w → IsGroundedIfTagged s w → is_tagged v ≡ true → IsGrounded s v
grounded-same s v w same earned tagged = subst (IsGrounded s) (sym same) (earned (sym (ap is_tagged same) ∙ tagged))

-- ---- the parts of a frame

abbrev pub FramesRegisters : State → List CapValue → Type 0
FramesRegisters s registers = (n : ℕ) → IsGroundedIfTagged s (register registers n)

-- the same value, or a grounded one
abbrev pub StaysGrounded : State → CapValue → CapValue → Type 0
StaysGrounded s old v = (v ≡ old) ⊎ IsGroundedIfTagged s v

pub record FramesScrs (s : State) (x : Scrs) : Type 0 where
  pub pcc : IsGroundedIfTagged s x.pcc
  pub ddc : IsGroundedIfTagged s x.ddc
  pub mtcc : StaysGrounded s s.scrs.mtcc x.mtcc
  pub mtdc : StaysGrounded s s.scrs.mtdc x.mtdc
  pub mscratchc : StaysGrounded s s.scrs.mscratchc x.mscratchc
  pub mepcc : StaysGrounded s s.scrs.mepcc x.mepcc

abbrev pub FramesMemory : State → Memory → Type 0
FramesMemory s m = (granule : ℕ) (v : CapValue) → IsHeldAt m granule v → IsHeldAt s.memory granule v ⊎ IsGrounded s v

kept-special : (s : State) (v old new : CapValue) → v ≡ new → (v ≡ old → IsSpecial s v) → is_tagged v ≡ true → StaysGrounded s old new
    → IsSpecial s v ⊎ IsGrounded s v
kept-special s v old new same special tagged (inl kept) = inl (special (same ∙ kept))
kept-special s v old new same special tagged (inr earned) = inr (grounded-same s v new same earned tagged)

module _ (s later : State) (registers : FramesRegisters s later.registers) (scrs : FramesScrs s later.scrs) where
  roots-by : (v : CapValue) → is_tagged v ≡ true → IsRoot later v → IsGrounded s v
  roots-by v tagged (in_register n same) = grounded-same s v (register later.registers n) same (registers n) tagged
  roots-by v tagged (in_pcc same) = grounded-same s v later.scrs.pcc same scrs.pcc tagged
  roots-by v tagged (in_ddc same) = grounded-same s v later.scrs.ddc same scrs.ddc tagged

  specials-by : (v : CapValue) → is_tagged v ≡ true → IsSpecial later v → IsSpecial s v ⊎ IsGrounded s v
  specials-by v tagged (in_mtcc same) = kept-special s v s.scrs.mtcc later.scrs.mtcc same (λ e. in_mtcc e) tagged scrs.mtcc
  specials-by v tagged (in_mtdc same) = kept-special s v s.scrs.mtdc later.scrs.mtdc same (λ e. in_mtdc e) tagged scrs.mtdc
  specials-by v tagged (in_mscratchc same) =
      kept-special s v s.scrs.mscratchc later.scrs.mscratchc same (λ e. in_mscratchc e) tagged scrs.mscratchc
  specials-by v tagged (in_mepcc same) = kept-special s v s.scrs.mepcc later.scrs.mepcc same (λ e. in_mepcc e) tagged scrs.mepcc

  pub framed-by : FramesMemory s later.memory → IsFramed s later
  framed-by memory = record { roots = roots-by; specials = specials-by; granules = memory }

-- ---- registers

pub registers-same : (s : State) → FramesRegisters s s.registers
registers-same s = grounded-register s

each-set : (P : CapValue → Type 0) (registers : List CapValue) (n : ℕ) (v : CapValue) → P v → ((k : ℕ) → P (register registers k))
    → (k : ℕ) → P (register (set registers n v) k)
each-set P [] n v new each k = each k
each-set P (r ∷ rs) zero v new each zero = new
each-set P (r ∷ rs) zero v new each (suc k) = each (suc k)
each-set P (r ∷ rs) (suc n) v new each zero = each 0
each-set P (r ∷ rs) (suc n) v new each (suc k) = each-set P rs n v new (λ k. each (suc k)) k

pub registers-written : (s : State) (rd : ℕ) (v : CapValue) → IsGroundedIfTagged s v
    → FramesRegisters s (with_register s.registers rd v)
unfolding with_register
registers-written s rd v earned =
    cond_both (eqb rd 0) s.registers (set s.registers rd v) (FramesRegisters s) (λ _. registers-same s)
    (λ _. each-set (IsGroundedIfTagged s) s.registers rd v earned (registers-same s))

-- ---- special registers

pub scrs-same : (s : State) → FramesScrs s s.scrs
scrs-same s = record {
  pcc = grounded-pcc s;
  ddc = grounded-ddc s;
  mtcc = inl refl;
  mtdc = inl refl;
  mscratchc = inl refl;
  mepcc = inl refl;
}

-- PCC at another address
pub scrs-moved : (s : State) (x : Scrs) (address : ℕ) → FramesScrs s x → FramesScrs s (moved address x)
scrs-moved s x address frame = record {
  pcc = grounded-derived s (at_address x.pcc address) x.pcc frame.pcc (derived-at_address x.pcc address);
  ddc = frame.ddc;
  mtcc = frame.mtcc;
  mtdc = frame.mtdc;
  mscratchc = frame.mscratchc;
  mepcc = frame.mepcc;
}

-- another PCC
pub scrs-entered : (s : State) (code : CapValue) → IsGroundedIfTagged s code → FramesScrs s (record s.scrs { pcc = code })
scrs-entered s code earned = record {
  pcc = earned;
  ddc = grounded-ddc s;
  mtcc = inl refl;
  mtdc = inl refl;
  mscratchc = inl refl;
  mepcc = inl refl;
}

replaced : (s : State) (may : Bool) (old v : CapValue) → IsGroundedIfTagged s v → StaysGrounded s old (cond may v old)
replaced s true old v earned = inr earned
replaced s false old v earned = inl refl

pub scrs-replaced : (s : State) (number : ℕ) (v : CapValue) → IsGroundedIfTagged s v → FramesScrs s (scr_written number v s.scrs)
unfolding scr_written
scrs-replaced s number v earned = record {
  pcc = grounded-pcc s;
  ddc = cond_both (eqb number DDC) v s.scrs.ddc (IsGroundedIfTagged s) (λ _. earned) (λ _. grounded-ddc s);
  mtcc = replaced s (eqb number MTCC) s.scrs.mtcc v earned;
  mtdc = replaced s (eqb number MTDC) s.scrs.mtdc v earned;
  mscratchc = replaced s (eqb number MSCRATCHC) s.scrs.mscratchc v earned;
  mepcc = replaced s (eqb number MEPCC) s.scrs.mepcc v earned;
}

-- a special register at another address, by code that may use them
at_address-special : (s : State) (v : CapValue) (address : ℕ) → HasSystem s → IsSpecial s v → IsGroundedIfTagged s (at_address v address)
at_address-special s v address has special =
    grounded-derived s (at_address v address) v (grounded-special s v has special) (derived-at_address v address)

pub scrs-views : (s : State) (number value : ℕ) → HasSystem s → FramesScrs s (views_written number value s.scrs)
unfolding views_written
scrs-views s number value has = record {
  pcc = grounded-pcc s;
  ddc = grounded-ddc s;
  mtcc = replaced s (eqb number MTVEC) s.scrs.mtcc (at_address s.scrs.mtcc (mtvec_of value))
      (at_address-special s s.scrs.mtcc (mtvec_of value) has (in_mtcc refl));
  mtdc = inl refl;
  mscratchc = inl refl;
  mepcc = replaced s (eqb number MEPC) s.scrs.mepcc (at_address s.scrs.mepcc (value / 4 * 4))
      (at_address-special s s.scrs.mepcc (value / 4 * 4) has (in_mepcc refl));
}

derived-aligned : (v : CapValue) → IsDerivedIfTagged (aligned v) v
unfolding aligned
derived-aligned v =
    cond_both (eqb (value_address v % 4) 0) v (at_address v (value_address v / 4 * 4)) (λ x. IsDerivedIfTagged x v)
    (λ _. derived-self v) (λ _. derived-at_address v (value_address v / 4 * 4))

-- what is no tagged sentry keeps its seal
target-unopened : (v : CapValue) → is_sentry v ≡ false → target v ≡ aligned v
unfolding sentry_opened
target-unopened v no_sentry = ap aligned (cond-false (is_sentry v) _ v no_sentry)

-- the return to what is no sentry
pub scrs-returned : (s : State) → HasSystem s → is_sentry s.scrs.mepcc ≡ false → FramesScrs s (returned_scrs s.scrs)
scrs-returned s has no_sentry =
    let v : CapValue = s.scrs.mepcc in
    let earned : IsGroundedIfTagged s (aligned v) =
    grounded-derived s (aligned v) v (grounded-special s v has (in_mepcc refl)) (derived-aligned v) in
    scrs-entered s (target v) (subst (IsGroundedIfTagged s) (sym (target-unopened v no_sentry)) earned)

-- ---- memory

pub memory-same : (s : State) → FramesMemory s s.memory
memory-same s = λ granule v here. inl here

pub memory-stored : (s : State) (address : ℕ) (new : List ℕ) → IsMemory s.memory → is_in_ram s.memory address (length new) ≡ true
    → FramesMemory s (data_written s.memory address new)
memory-stored s address new memory inside = λ granule v here. inl (held-data_written s.memory address new memory inside granule v here)

pub memory-value_stored : (s : State) (address : ℕ) (v : CapValue) → IsMemory s.memory → place_fault s.memory address 16 ≡ None
    → IsSound v → IsGroundedIfTagged s v
    → FramesMemory s (capability_written s.memory address (word_of v) (is_tagged v))
memory-value_stored s address v memory none sound earned = λ granule w here.
    elim (held-capability_written s.memory address v memory none sound granule w here) [
      | inl stored ↦ inr (subst (IsGrounded s) (sym stored.value) (earned stored.tagged))
      | inr before ↦ inl before
    ]
