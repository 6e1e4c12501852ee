-- What the checks of a handler's steps come to.
use Rattle.std.proofs.Common.{◌≡◌, ℕ, ◌%◌, ◌/◌, ◌*◌, ◌<◌, ◌+◌, arith, inl, inr, Bool, true, false, List, cond, refl, sym, ap, ◌∙◌}
use Rattle.std.proofs.Common.{Option, None, Some, Result, Ok, Err, subst}
use Rattle.std.proofs.lemmas.Bool.{cases_lt, eq-eqb}
use Rattle.std.specs.Prelude.{IfSome, OnOk, not}
use Rattle.base.specs.declared.registers.csr.TheConstants.{MSTATUS}
use Rattle.base.specs.declared.registers.scr.TheConstants.{PCC}
use Rattle.base.specs.declared.fault.Fault.{Fault}
use Rattle.cap_bounds.specs.CapValue.{CapValue, value_address}
use Rattle.cap_bounds.specs.SetAddress.{at_address}
use Rattle.hart.specs.Setting.{csr_set, scr_set}
use Rattle.isa_rows.specs.declared.kinds.Kind.{Kind}
use Rattle.isa_rows.specs.declared.kinds.Kind.TheVariants as kind
use Rattle.isa_rows.specs.declared.operands.Insn.{Insn}
use Rattle.special_regs.specs.Traps.{aligned, sentry_opened, target}
use Rattle.special_regs.specs.Writes.{views_written}
use Rattle.special_regs.specs.declared.interrupts.Interrupt.{Interrupt}
use Rattle.steps.specs.State.{State}
use Rattle.steps.specs.Step.{fetch, fetched_by, insn_fetched}
use Rattle.policy.specs.Terms.{Terms}
use Rattle.every_run.specs.declared.marks.Marks.{Marks}
use Rattle.every_run.specs.Handled.{BeginsAt, IsDirect, IsFetched, IsHandledAfter, IsOwnCode, LeadsOn, LooksAtExact, is_back, is_on}
use Rattle.every_run.proofs.Handling.{sentry-address}

-- ---- the entry

aligned-direct : (v : CapValue) → value_address v % 4 ≡ 0 → target v ≡ sentry_opened v
unfolding aligned
aligned-direct v direct =
    let w : CapValue = sentry_opened v in
    let same : value_address w % 4 ≡ 0 = ap (λ n. n % 4) (sentry-address v) ∙ direct in
    ap (λ b. cond b w (at_address w (value_address w / 4 * 4))) (eq-eqb (value_address w % 4) 0 same)

pub begins-there : (o : State) → IsDirect o → (p : CapValue) → p ≡ target o.scrs.mtcc
    → BeginsAt o (csr_set MSTATUS 0 (scr_set PCC p o))
unfolding views_written
begins-there o direct p is = record {
  registers = refl;
  pcc = is ∙ aligned-direct o.scrs.mtcc direct;
  mtdc = refl;
  mscratchc = refl;
  memory = refl;
  devices = refl;
}

-- ---- a step

fetched-there : (p : Option Interrupt) (a : State) (r : Result ℕ Fault) → fetch a ≡ r → (insn : Insn)
    → insn_fetched (fetched_by p r) ≡ Some insn → IsFetched a insn
fetched-there (Some interrupt) a r is insn named = cc
fetched-there None a (Ok word) is insn named = record { word = word; read = is; decoded = named }
fetched-there None a (Err f) is insn named = cc

-- what is fetched is the instruction
pub fetched-insn : (p : Option Interrupt) (a : State) (insn : Insn) → insn_fetched (fetched_by p (fetch a)) ≡ Some insn → IsFetched a insn
fetched-insn p a insn named = fetched-there p a (fetch a) refl insn named

module _ (rules : List Terms) (P : CapValue → Type 0) (Known : ℕ → Type 0) (o : State) (marks : Marks) (a : State)
    (own : IsOwnCode rules Known a) where
  -- what the step leads to says how the trap is handled
  pub handled-after : a.devices.halted ≡ None → (next : Option Marks) → LeadsOn P Known o marks a next
      → IsHandledAfter rules P Known o marks a next
  handled-after running None back = is_back own running back
  handled-after running (Some later) on = λ rest. is_on own running on rest

-- ---- the return

-- one register more
pub registers-more : (Q : ℕ → Type 0) (i : ℕ) → ((k : ℕ) → k < i → Q k) → Q i → (k : ℕ) → k < i + 1 → Q k
registers-more Q i before now k below = elim (cases_lt k i) [
  | inl less ↦ before k less
  | inr past ↦ let same : k ≡ i = omega arith in subst Q (sym same) now
]

-- ---- what is asked

pub not-true : (b : Bool) → not b ≡ true → b ≡ false
not-true true is = cc
not-true false is = refl

-- what follows of an option's value
pub some-then : {X : Type 0} (Q R : X → Type 0) (o : Option X) → ((x : X) → Q x → R x) → IfSome o Q → IfSome o R
some-then Q R None all holds = tt
some-then Q R (Some x) all holds = all x holds

-- an instruction of another kind looks at nothing else
pub looks-otherwise : (Known : ℕ → Type 0) (k : Kind) (insn : Insn) (a : State) → (k ≡ kind.Csr → ⊥) → (k ≡ kind.SpecialRw → ⊥)
    → (k ≡ kind.Mret → ⊥) → (k ≡ kind.Capability → ⊥) → (k ≡ kind.Load → ⊥) → (k ≡ kind.LoadCapability → ⊥) → (k ≡ kind.Store → ⊥)
    → (k ≡ kind.StoreCapability → ⊥) → LooksAtExact Known k insn a
looks-otherwise Known kind.Csr insn a csr special mret made load loads store stores = absurd (csr refl)
looks-otherwise Known kind.SpecialRw insn a csr special mret made load loads store stores = absurd (special refl)
looks-otherwise Known kind.Mret insn a csr special mret made load loads store stores = absurd (mret refl)
looks-otherwise Known kind.Capability insn a csr special mret made load loads store stores = absurd (made refl)
looks-otherwise Known kind.Load insn a csr special mret made load loads store stores = absurd (load refl)
looks-otherwise Known kind.LoadCapability insn a csr special mret made load loads store stores = absurd (loads refl)
looks-otherwise Known kind.Store insn a csr special mret made load loads store stores = absurd (store refl)
looks-otherwise Known kind.StoreCapability insn a csr special mret made load loads store stores = absurd (stores refl)
looks-otherwise Known _ insn a csr special mret made load loads store stores = tt

pub on-ok-then : {X E : Type 0} (A B : Type 0) (r : Result X E) → (A → B) → OnOk r A → OnOk r B
on-ok-then A B (Ok x) all holds = all holds
on-ok-then A B (Err e) all holds = tt
