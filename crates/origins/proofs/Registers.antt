-- What a register holds after a step.
use Rattle.std.proofs.Common.{◌≡◌, ℕ, zero, suc, ◌<◌, Bool, true, false, eqb, not, ◌&&◌, List, [], ◌∷◌, length, set, Option, Some, None}
use Rattle.std.proofs.Common.{refl, sym, ap, subst, ◌∙◌, arith, if◌then◌else◌}
use Rattle.std.proofs.lemmas.Bool.{and_from, and_parts, cond_both, both_ways, eq-eqb, eqb-true}
use Rattle.std.proofs.lemmas.List.{get_or-set_other}
use Rattle.cap_bounds.specs.CapValue.{CapValue}
use Rattle.isa_rows.specs.declared.operands.Insn.{Insn}
use Rattle.registers.specs.Registers.{null, register, with_register}
use Rattle.steps.specs.Effect.{applied}
use Rattle.steps.specs.IsState.{IsState}
use Rattle.steps.specs.State.{State}
use Rattle.steps.specs.declared.effect.Effect.{Effect}
use Rattle.steps.specs.declared.effect.Effect.TheVariants.{Trap, Nothing, Write, Unseal, Store, StoreCapability, DeviceLoad, DeviceStore}
use Rattle.steps.specs.declared.effect.Effect.TheVariants.{Jump, Link, Enter, Special, Csr, Return}
use Rattle.origins.specs.Made.{if_written, written_register}
use Rattle.origins.specs.Making.{IsMade}
use Rattle.origins.specs.declared.making.Making.{Making}
use Rattle.origins.proofs.Does.{Carries}

pub some-if : {X : Type 0} (b : Bool) (x m : X) → (if b then Some x else None) ≡ Some m → (b ≡ true) × (x ≡ m)
some-if true x m some = (refl, let both : Some x ≡ Some m = some in cc)
some-if false x m some = cc

pub none-if : {X : Type 0} (b : Bool) (x : X) → ◌≡◌ {A = Option X} (if b then Some x else None) None → b ≡ false
none-if true x none = cc
none-if false x none = refl

set-here : (registers : List CapValue) (n : ℕ) (v : CapValue) → n < length registers → register (set registers n v) n ≡ v
set-here [] n v below = absurd (let h = below in omega arith)
set-here (r ∷ rs) zero v below = refl
set-here (r ∷ rs) (suc n) v below = set-here rs n v (omega arith)

pub written-here : (registers : List CapValue) (rd n : ℕ) (v : CapValue) → length registers ≡ 32 → n < 32
    → (eqb n rd && not (eqb n 0)) ≡ true → register (with_register registers rd v) n ≡ v
unfolding with_register
written-here registers rd n v count below test =
    let both = and_parts (eqb n rd) (not (eqb n 0)) test in
    let same : n ≡ rd = eqb-true n rd both.0 in
    subst (λ m. register (if eqb m 0 then registers else set registers m v) n ≡ v) same
    (cond_both (eqb n 0) registers (set registers n v) (λ xs. register xs n ≡ v)
    (λ none. absurd (let some : not true ≡ true = sym (ap not none) ∙ both.1 in cc))
    (λ _. set-here registers n v (omega arith)))

pub written-other : (registers : List CapValue) (rd n : ℕ) (v : CapValue) → (eqb n rd && not (eqb n 0)) ≡ false
    → register (with_register registers rd v) n ≡ register registers n
unfolding with_register
written-other registers rd n v test =
    cond_both (eqb rd 0) registers (set registers rd v) (λ xs. register xs n ≡ register registers n) (λ _. refl)
    (λ other. get_or-set_other registers rd n v null (λ same.
    let here : eqb n rd ≡ true = eq-eqb n rd same in
    let some : eqb n 0 ≡ false = rw same other in
    both_ways _ test (and_from (eqb n rd) (not (eqb n 0)) here (ap not some))))

-- ---- by effect

module _ (s : State) (is : IsState s) (insn : Insn) (n : ℕ) (below : n < 32) (making m : Making) where
  here : (rd : ℕ) (v : CapValue) → IsMade making s v → if_written n (Some rd) making ≡ Some m
      → IsMade m s (register (with_register s.registers rd v) n)
  here rd v made some =
      let both = some-if (eqb n rd && not (eqb n 0)) making m some in
      subst (λ x. IsMade m s x) (sym (written-here s.registers rd n v is.registers.count below both.0))
      (subst (λ k. IsMade k s v) both.1 made)

  pub register-made : (e : Effect CapValue) → Carries making insn e s → if_written n (written_register e) making ≡ Some m
      → IsMade m s (register (applied e s).registers n)
  unfolding applied
  register-made (Write w) made some = here w.rd w.value made some
  register-made (Unseal w) made some = here w.rd w.value made some
  register-made (DeviceLoad l) made some = here l.rd l.value made some
  register-made (Link l) made some = here l.rd l.link made some
  register-made (Enter e) made some = here e.rd e.link made.0 some
  register-made (Special w) made some = here w.rd w.old made.0 some
  register-made (Csr w) made some = here w.rd w.old made some
  register-made (Trap f) made some = cc
  register-made Nothing made some = cc
  register-made (Store w) made some = cc
  register-made (StoreCapability w) made some = cc
  register-made (DeviceStore w) made some = cc
  register-made (Jump target) made some = cc
  register-made (Return sealed) made some = cc

module _ (s : State) (n : ℕ) (making : Making) where
  pub register-kept : (e : Effect CapValue) → if_written n (written_register e) making ≡ None
      → register (applied e s).registers n ≡ register s.registers n
  unfolding applied
  register-kept (Write w) none = written-other s.registers w.rd n w.value (none-if _ making none)
  register-kept (Unseal w) none = written-other s.registers w.rd n w.value (none-if _ making none)
  register-kept (DeviceLoad l) none = written-other s.registers l.rd n l.value (none-if _ making none)
  register-kept (Link l) none = written-other s.registers l.rd n l.link (none-if _ making none)
  register-kept (Enter e) none = written-other s.registers e.rd n e.link (none-if _ making none)
  register-kept (Special w) none = written-other s.registers w.rd n w.old (none-if _ making none)
  register-kept (Csr w) none = written-other s.registers w.rd n w.old (none-if _ making none)
  register-kept (Trap f) none = refl
  register-kept Nothing none = refl
  register-kept (Store w) none = refl
  register-kept (StoreCapability w) none = refl
  register-kept (DeviceStore w) none = refl
  register-kept (Jump target) none = refl
  register-kept (Return sealed) none = refl
