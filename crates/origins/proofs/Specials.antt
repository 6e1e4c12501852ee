-- What a special register holds after a step.
use Rattle.std.proofs.Common.{◌≡◌, ℕ, ◌*◌, ◌/◌, ◌%◌, Bool, true, false, eqb, not, ◌&&◌, Some, None, refl, sym, ap, subst, ◌∙◌, arith, inl}
use Rattle.std.proofs.Common.{inr, if◌then◌else◌}
use Rattle.std.proofs.lemmas.Bool.{both_ways, cases_Bool, cond_both, eqb-true}
use Rattle.std.proofs.lemmas.Bool.Decides.{nat_tests}
use Rattle.std.specs.Option.{unwrap_or}
use Rattle.base.specs.Registers.{is_scr}
use Rattle.base.specs.declared.fault.Fault.{Fault}
use Rattle.base.specs.declared.registers.csr.TheConstants.{MTVEC, MEPC}
use Rattle.base.specs.declared.registers.scr.TheConstants.{PCC}
use Rattle.cap_bounds.specs.CapValue.{CapValue, Cap, Data, is_sealed, is_tagged, value_address}
use Rattle.cap_bounds.specs.Record.{window_holds}
use Rattle.cap_bounds.specs.SetAddress.{at_address, data_at}
use Rattle.origins.specs.declared.place.Place.TheVariants as place
use Rattle.special_regs.specs.Mtvec.{mtvec_of}
use Rattle.special_regs.specs.Scrs.{Scrs, scr_value}
use Rattle.special_regs.specs.Traps.{aligned, placed_at, sentry_opened}
use Rattle.special_regs.specs.Writes.{scr_written, views_written}
use Rattle.isa_rows.specs.declared.operands.Insn.{Insn}
use Rattle.registers.specs.Registers.{null, register}
use Rattle.steps.specs.Effect.{applied}
use Rattle.steps.specs.Looks.{next_of}
use Rattle.steps.specs.State.{State}
use Rattle.steps.specs.declared.effect.CsrWrite.{CsrWrite}
use Rattle.steps.specs.declared.effect.Effect.{Effect}
use Rattle.steps.specs.declared.effect.SpecialWrite.{SpecialWrite}
use Rattle.steps.specs.declared.effect.Effect.TheVariants.{Trap, Nothing, Write, Unseal, Store, StoreCapability, DeviceLoad, DeviceStore}
use Rattle.steps.specs.declared.effect.Effect.TheVariants.{Jump, Link, Enter, Special, Csr, Return}
use Rattle.origins.specs.Kept.{HoldsTheSame, IsKeptBut, MovesAtMost}
use Rattle.origins.specs.Made.{special_made, other_made, pcc_made, pcc_moved, trap_made}
use Rattle.origins.specs.Making.{IsMade}
use Rattle.origins.specs.Places.{held, pcc, mtcc, mepcc}
use Rattle.origins.specs.declared.making.Making.{Making}
use Rattle.origins.specs.declared.making.Making.TheVariants.{Copied, Moved}
use Rattle.origins.proofs.Does.{Carries}
use Rattle.origins.proofs.Tagged.{same-sentry_opened}
use Rattle.origins.proofs.Becomes.{Becomes, IsWritten, IsNoTrap}

none-of_six : (n : ℕ) → eqb 0 n ≡ false → eqb 1 n ≡ false → eqb 28 n ≡ false → eqb 29 n ≡ false → eqb 30 n ≡ false → eqb 31 n ≡ false
    → is_scr n ≡ true → ⊥
none-of_six n a b c d e f there =
    both_ways (is_scr n) (rw (a, b, c, d, e, f) refl) there

pub scr-cases : (P : ℕ → Type 0) → P 0 → P 1 → P 28 → P 29 → P 30 → P 31 → (n : ℕ) → is_scr n ≡ true → P n
scr-cases P pcc_ ddc_ mtcc_ mtdc_ scratch_ mepcc_ n there =
    elim (cases_Bool (eqb 0 n)) [
      | inl at ↦ subst P (eqb-true 0 n at) pcc_
      | inr a ↦ elim (cases_Bool (eqb 1 n)) [
        | inl at ↦ subst P (eqb-true 1 n at) ddc_
        | inr b ↦ elim (cases_Bool (eqb 28 n)) [
          | inl at ↦ subst P (eqb-true 28 n at) mtcc_
          | inr c ↦ elim (cases_Bool (eqb 29 n)) [
            | inl at ↦ subst P (eqb-true 29 n at) mtdc_
            | inr d ↦ elim (cases_Bool (eqb 30 n)) [
              | inl at ↦ subst P (eqb-true 30 n at) scratch_
              | inr e ↦ elim (cases_Bool (eqb 31 n)) [
                | inl at ↦ subst P (eqb-true 31 n at) mepcc_
                | inr f ↦ absurd (none-of_six n a b c d e f there)
              ]
            ]
          ]
        ]
      ]
    ]

-- ---- another address

pub moved-kept : (v : CapValue) (address : ℕ) → (is_tagged v && not (is_tagged (at_address v address))) ≡ false
    → MovesAtMost v (at_address v address)
unfolding at_address
moved-kept (Data n) address kept = record { tag = refl; fields = λ tagged. cc }
moved-kept (Cap r) address kept =
    cond_both (not (is_sealed (Cap r)) && window_holds r address) (Cap (record r { address = address })) (data_at (Cap r) address)
    (λ w. (true && not (is_tagged w)) ≡ false → MovesAtMost (Cap r) w)
    (λ _ _. record { tag = refl; fields = λ _. record { base = refl; top = refl; perms = refl; flag = refl; otype = refl } })
    (λ _ lost. cc) kept

aligned-placed : (v : CapValue) → aligned (sentry_opened v) ≡ placed_at (value_address v / 4 * 4) (sentry_opened v)
unfolding aligned placed_at
aligned-placed v =
    let w : CapValue = sentry_opened v in
    let same : value_address w ≡ value_address v = (same-sentry_opened v).1 in
    let tests : eqb (value_address w % 4) 0 ≡ eqb (value_address w) (value_address w / 4 * 4) = grind (arith, nat_tests) in
    ap (λ b. if b then w else at_address w (value_address w / 4 * 4)) tests
    ∙ ap (λ a. if eqb (value_address w) (a / 4 * 4) then w else at_address w (a / 4 * 4)) same

eqb-swap : (a b : ℕ) → eqb a b ≡ eqb b a
eqb-swap a b = grind (arith, nat_tests)

module _ (s : State) where
  -- what is replaced where a test holds
  exchanged : (b c : Bool) → b ≡ c → (m : Making) (v old : CapValue) → IsMade m s v
      → Becomes (if b then Some m else None) s (if c then v else old) ((if c then v else old) ≡ old)
  exchanged true true same m v old made = made
  exchanged false false same m v old made = refl
  exchanged true false same m v old made = cc
  exchanged false true same m v old made = cc

  -- ---- traps

  pub trap-special : (f : Fault) (n : ℕ) → is_scr n ≡ true
      → IsWritten (place.Special n) s (applied (Trap f) s) (trap_made (place.Special n) f s)
  unfolding applied held scr_value trap_made
  trap-special f =
      scr-cases (λ n. IsWritten (place.Special n) s (applied (Trap f) s) (trap_made (place.Special n) f s)) refl refl refl refl refl refl

  -- ---- where only PCC is written

  but-pcc : (c : Scrs) (v : CapValue) (n : ℕ) → eqb n PCC ≡ false
      → unwrap_or (scr_value (record c { pcc = v }) n) null ≡ unwrap_or (scr_value c n) null
  unfolding scr_value
  but-pcc c v n other =
      let swapped : eqb 0 n ≡ false = eqb-swap 0 n ∙ other in
      rw swapped refl

  untouched : (n : ℕ) → eqb n PCC ≡ false → (later : State) (v : CapValue) → later.scrs ≡ record s.scrs { pcc = v }
      → HoldsTheSame (place.Special n) s later
  unfolding held
  untouched n other later v same =
      subst (λ b. IsKeptBut b (held (place.Special n) s) (held (place.Special n) later)) (sym other)
      (ap (λ c. unwrap_or (scr_value c n) null) same ∙ but-pcc s.scrs v n other)

  module _ (insn : Insn) where
    -- ---- PCC

    moved-written : (address : ℕ) (later : State) → held pcc later ≡ at_address s.scrs.pcc address
        → IsWritten pcc s later (pcc_moved address s)
    unfolding held scr_value
    moved-written address later same =
        cond_both (is_tagged s.scrs.pcc && not (is_tagged (at_address s.scrs.pcc address))) (Some (Moved pcc address)) None
        (IsWritten pcc s later) (λ _. same)
        (λ kept. subst (λ w. MovesAtMost s.scrs.pcc w) (sym same) (moved-kept s.scrs.pcc address kept))

    pcc-written : (making : Making) (e : Effect CapValue) → Carries making insn e s → IsNoTrap e
        → IsWritten pcc s (applied e s) (pcc_made e insn s)
    unfolding applied held scr_value views_written scr_written
    pcc-written making (Enter e) made plain = ap (λ c. at_address c e.target) made.1
    pcc-written making (Return sealed) made plain = aligned-placed s.scrs.mepcc
    pcc-written making (Jump target) made plain = moved-written target (applied (Jump target) s) refl
    pcc-written making (Link l) made plain = moved-written l.target (applied (Link l) s) refl
    pcc-written making (Trap f) made plain = absurd plain
    pcc-written making Nothing made plain = moved-written (next_of s) (applied Nothing s) refl
    pcc-written making (Write w) made plain = moved-written (next_of s) (applied (Write w) s) refl
    pcc-written making (Unseal w) made plain = moved-written (next_of s) (applied (Unseal w) s) refl
    pcc-written making (Store w) made plain = moved-written (next_of s) (applied (Store w) s) refl
    pcc-written making (StoreCapability w) made plain = moved-written (next_of s) (applied (StoreCapability w) s) refl
    pcc-written making (DeviceLoad l) made plain = moved-written (next_of s) (applied (DeviceLoad l) s) refl
    pcc-written making (DeviceStore w) made plain = moved-written (next_of s) (applied (DeviceStore w) s) refl
    pcc-written making (Special w) made plain = moved-written (next_of s) (applied (Special w) s) refl
    pcc-written making (Csr w) made plain = moved-written (next_of s) (applied (Csr w) s) refl

    -- ---- the others

    exchange-written : (w : SpecialWrite CapValue) → w.value ≡ register s.registers insn.rs1 → (n : ℕ) → is_scr n ≡ true
        → eqb n PCC ≡ false → IsWritten (place.Special n) s (applied (Special w) s) (other_made n (Special w) insn)
    unfolding applied held scr_value scr_written
    exchange-written w copied =
        let each : (n : ℕ) (old : CapValue)
        → Becomes (if eqb n w.number then Some (Copied (place.Register insn.rs1)) else None) s
        (if eqb w.number n then w.value else old) ((if eqb w.number n then w.value else old) ≡ old) =
        λ n old. exchanged (eqb n w.number) (eqb w.number n) (eqb-swap n w.number) (Copied (place.Register insn.rs1)) w.value old copied in
        scr-cases (λ n. eqb n PCC ≡ false → IsWritten (place.Special n) s (applied (Special w) s) (other_made n (Special w) insn))
        (λ e. cc) (λ _. each 1 s.scrs.ddc) (λ _. each 28 s.scrs.mtcc) (λ _. each 29 s.scrs.mtdc) (λ _. each 30 s.scrs.mscratchc)
        (λ _. each 31 s.scrs.mepcc)

    view-written : (w : CsrWrite CapValue) (n : ℕ) → is_scr n ≡ true → eqb n PCC ≡ false
        → IsWritten (place.Special n) s (applied (Csr w) s) (other_made n (Csr w) insn)
    unfolding applied held scr_value views_written
    view-written w =
        scr-cases (λ n. eqb n PCC ≡ false → IsWritten (place.Special n) s (applied (Csr w) s) (other_made n (Csr w) insn))
        (λ e. cc) (λ _. refl)
        (λ _. exchanged (eqb w.number MTVEC) (eqb w.number MTVEC) refl (Moved mtcc (mtvec_of w.value))
        (at_address s.scrs.mtcc (mtvec_of w.value)) s.scrs.mtcc refl)
        (λ _. refl) (λ _. refl)
        (λ _. exchanged (eqb w.number MEPC) (eqb w.number MEPC) refl (Moved mepcc (w.value / 4 * 4))
        (at_address s.scrs.mepcc (w.value / 4 * 4)) s.scrs.mepcc refl)

    other-written : (making : Making) (e : Effect CapValue) → Carries making insn e s → IsNoTrap e → (n : ℕ) → is_scr n ≡ true
        → eqb n PCC ≡ false → IsWritten (place.Special n) s (applied e s) (other_made n e insn)
    unfolding applied
    other-written making (Special w) made plain n there other = exchange-written w made.1 n there other
    other-written making (Csr w) made plain n there other = view-written w n there other
    other-written making (Trap f) made plain n there other = absurd plain
    other-written making (Enter e) made plain n there other = untouched n other (applied (Enter e) s) _ refl
    other-written making (Return sealed) made plain n there other = untouched n other (applied (Return sealed) s) _ refl
    other-written making (Jump target) made plain n there other = untouched n other (applied (Jump target) s) _ refl
    other-written making (Link l) made plain n there other = untouched n other (applied (Link l) s) _ refl
    other-written making Nothing made plain n there other = untouched n other (applied Nothing s) _ refl
    other-written making (Write w) made plain n there other = untouched n other (applied (Write w) s) _ refl
    other-written making (Unseal w) made plain n there other = untouched n other (applied (Unseal w) s) _ refl
    other-written making (Store w) made plain n there other = untouched n other (applied (Store w) s) _ refl
    other-written making (StoreCapability w) made plain n there other = untouched n other (applied (StoreCapability w) s) _ refl
    other-written making (DeviceLoad l) made plain n there other = untouched n other (applied (DeviceLoad l) s) _ refl
    other-written making (DeviceStore w) made plain n there other = untouched n other (applied (DeviceStore w) s) _ refl

    -- ---- all

    pub special-written : (making : Making) (e : Effect CapValue) → Carries making insn e s → IsNoTrap e → (n : ℕ) → is_scr n ≡ true
        → IsWritten (place.Special n) s (applied e s) (special_made n e insn s)
    special-written making e made plain n there =
        cond_both (eqb n PCC) (pcc_made e insn s) (other_made n e insn) (IsWritten (place.Special n) s (applied e s))
        (λ at. subst (λ k. IsWritten (place.Special k) s (applied e s) (pcc_made e insn s)) (sym (eqb-true n PCC at))
        (pcc-written making e made plain))
        (other-written making e made plain n there)
