-- The places that a step makes its values of are there, and a place that is there stays.
use Rattle.std.proofs.Common.{◌≡◌, ℕ, Bool, true, false, eqb, Option, Some, None, not, ◌&&◌, refl, sym, subst, if◌then◌else◌}
use Rattle.std.specs.Prelude.{IfSome}
use Rattle.std.proofs.lemmas.Bool.{cond_both, and_parts}
use Rattle.base.specs.FirstFaultLaws.{first_fault-none}
use Rattle.base.specs.Registers.{special_register}
use Rattle.base.specs.Size.{bytes_of}
use Rattle.base.specs.declared.cause.Cause.TheVariants as cause
use Rattle.base.specs.declared.fault.Fault.{Fault}
use Rattle.base.specs.declared.registers.csr.TheConstants.{MTVEC, MEPC}
use Rattle.base.specs.declared.registers.scr.TheConstants.{PCC, MTCC, MEPCC}
use Rattle.cap_bounds.specs.CapValue.{CapValue, is_tagged}
use Rattle.cap_bounds.specs.SetAddress.{at_address}
use Rattle.cap_checks.specs.FaultLaws.{access_fault-aligned}
use Rattle.cap_checks.specs.Question.{first_false}
use Rattle.cap_checks.specs.declared.access.Access.TheVariants as access
use Rattle.origins.specs.declared.place.Place.{Place}
use Rattle.origins.specs.declared.place.Place.TheVariants as place
use Rattle.special_regs.specs.Refusals.{scr_checks}
use Rattle.tagged_memory.specs.Memory.{touches}
use Rattle.isa_rows.specs.Kind.{kind_of}
use Rattle.isa_rows.specs.OperandLaws.{AreInRange}
use Rattle.isa_rows.specs.declared.kinds.Kind.{Kind}
use Rattle.isa_rows.specs.declared.kinds.Kind.TheVariants as kind
use Rattle.isa_rows.specs.declared.operands.Insn.{Insn}
use Rattle.isa_rows.specs.declared.rows.Row.{Row}
use Rattle.isa_rows.specs.declared.rows.Row.TheVariants as row
use Rattle.steps.specs.AskedLaws.{access_asked-none, register-none}
use Rattle.steps.specs.Accesses.{through_rs1}
use Rattle.steps.specs.Looks.{in_capability_mode, next_of}
use Rattle.steps.specs.MemoryRows.{place_of, authority_of, authority_number_of, capability_at}
use Rattle.steps.specs.State.{State}
use Rattle.steps.specs.Step.{asked, insn_fetched, step_effect, step_fetched}
use Rattle.steps.specs.declared.effect.Effect.{Effect}
use Rattle.steps.specs.declared.effect.Effect.TheVariants.{Trap, Nothing, Write, Unseal, Store, StoreCapability, DeviceLoad, DeviceStore}
use Rattle.steps.specs.declared.effect.Effect.TheVariants.{Jump, Link, Enter, Special, Csr, Return}
use Rattle.steps.specs.declared.event.Event.{Event}
use Rattle.steps.specs.declared.event.Event.TheVariants.{Step, Tick, Byte}
use Rattle.origins.specs.Kept.{AreThere}
use Rattle.origins.specs.Made.{register_making, row_making, link_making, authority_place, insn_made, trap_made, step_made}
use Rattle.origins.specs.Made.{if_written, pcc_moved, view_made, made_at, made_by, made_by_insn, made_unless, written_register}
use Rattle.origins.specs.Places.{IsThere, ddc}
use Rattle.origins.specs.declared.making.Making.{Making}
use Rattle.origins.specs.declared.making.Making.TheVariants.{Number, Linked, Moved}
use Rattle.origins.proofs.Steps.{IsStep, trapped, done, step-effect}

module _ (s : State) (insn : Insn) (range : AreInRange insn) where
  row-there : (r : Row) → AreThere (row_making r insn s) s
  unfolding row_making
  row-there row.CIncOffsetImm = (range.rs1, tt)
  row-there row.CSetBoundsImm = (range.rs1, tt)
  row-there row.CSetBounds = (range.rs1, tt)
  row-there row.CSetBoundsExact = (range.rs1, tt)
  row-there row.CSeal = (range.rs1, range.rs2)
  row-there row.CUnseal = (range.rs1, range.rs2)
  row-there row.CAndPerm = (range.rs1, tt)
  row-there row.CSetFlags = (range.rs1, tt)
  row-there row.CSetOffset = (range.rs1, tt)
  row-there row.CSetAddr = (range.rs1, tt)
  row-there row.CIncOffset = (range.rs1, tt)
  row-there row.CSub = (tt, tt)
  row-there row.CTestSubset = (tt, tt)
  row-there row.CSetEqualExact = (tt, tt)
  row-there row.CGetPerm = (tt, tt)
  row-there row.CGetType = (tt, tt)
  row-there row.CGetBase = (tt, tt)
  row-there row.CGetLen = (tt, tt)
  row-there row.CGetTag = (tt, tt)
  row-there row.CGetSealed = (tt, tt)
  row-there row.CGetOffset = (tt, tt)
  row-there row.CGetFlags = (tt, tt)
  row-there row.Crrl = (tt, tt)
  row-there row.Cram = (tt, tt)
  row-there row.CClearTag = (range.rs1, tt)
  row-there row.CGetAddr = (tt, tt)
  row-there row.CSealEntry = (range.rs1, tt)
  row-there _ = (range.rs1, tt)

  link-there : AreThere (link_making s) s
  link-there =
      cond_both (in_capability_mode s) (Linked (next_of s)) Number (λ m. AreThere m s) (λ _. (refl, tt)) (λ _. (tt, tt))

  authority-there : IsThere (authority_place insn s) s
  authority-there =
      cond_both (through_rs1 insn.row (in_capability_mode s)) (place.Register insn.rs1) ddc (λ p. IsThere p s) (λ _. range.rs1) (λ _. refl)

  pub register-there : (k : Kind) (word : ℕ) → first_false (asked k word insn s) ≡ None → AreThere (register_making k insn s) s
  unfolding register_making asked
  register-there kind.Integer word none = (tt, tt)
  register-there kind.MulDiv word none = (tt, tt)
  register-there kind.Capability word none = row-there insn.row
  register-there kind.Auipc word none =
      cond_both (in_capability_mode s) _ Number (λ m. AreThere m s) (λ _. (refl, tt)) (λ _. (tt, tt))
  register-there kind.Branch word none = (tt, tt)
  register-there kind.Jal word none = link-there
  register-there kind.Jalr word none = link-there
  register-there kind.JalrCap word none = (refl, tt)
  register-there kind.Invoke word none = (range.rs2, tt)
  register-there kind.Load word none = (tt, tt)
  register-there kind.Store word none = (tt, tt)
  register-there kind.LoadCapability word none =
      let both = access_asked-none access.LoadCapability (capability_at cause.LoadAccess (place_of insn s) s) insn s none in
      let aligned = access_fault-aligned (authority_of insn s) (authority_number_of insn s)
      access.LoadCapability (place_of insn s) both.0 in
      ((aligned, both.1), authority-there)
  register-there kind.StoreCapability word none = (tt, tt)
  register-there kind.Csr word none = (tt, tt)
  register-there kind.SpecialRw word none =
      let checks = scr_checks s.scrs insn.rs2 (not (eqb insn.rs1 0)) in
      let each = first_fault-none checks (register-none (special_register insn.rs2) word checks Nothing none) in
      ((and_parts _ _ each.0).0, tt)
  register-there kind.Mret word none = (tt, tt)
  register-there kind.Fence word none = (tt, tt)
  register-there kind.Ecall word none = (tt, tt)
  register-there kind.Ebreak word none = (tt, tt)

  -- ---- by place and effect

  abbrev AllThere : Option Making → Type 0
  AllThere o = IfSome o (λ making. AreThere making s)

  if-there : (b : Bool) (making : Making) → AreThere making s → AllThere (if b then Some making else None)
  if-there true making there = there
  if-there false making there = tt

  written-there : (n : ℕ) (o : Option ℕ) (making : Making) → AreThere making s → AllThere (if_written n o making)
  written-there n (Some rd) making there = if-there (eqb n rd && not (eqb n 0)) making there
  written-there n None making there = tt

  pcc-there : (address : ℕ) → AllThere (pcc_moved address s)
  pcc-there address =
      if-there (is_tagged s.scrs.pcc && not (is_tagged (at_address s.scrs.pcc address))) (Moved (place.Special PCC) address) (refl, tt)

  view-there : (n csr value : ℕ) → AllThere (view_made n csr value)
  view-there n csr value =
      cond_both (eqb n MTCC && eqb csr MTVEC) _ _ AllThere (λ _. (refl, tt)) (λ _. if-there (eqb n MEPCC && eqb csr MEPC) _ (refl, tt))

  module _ (word : ℕ) (none : first_false (asked (kind_of insn.row) word insn s) ≡ None) where
    special-there : (n : ℕ) (e : Effect CapValue) → AllThere (insn_made (place.Special n) e insn s)
    unfolding insn_made
    special-there n (Enter e) = cond_both (eqb n PCC) _ None AllThere (λ _. (range.rs1, tt)) (λ _. tt)
    special-there n (Return sealed) = cond_both (eqb n PCC) _ None AllThere (λ _. (refl, tt)) (λ _. tt)
    special-there n (Jump target) = cond_both (eqb n PCC) _ None AllThere (λ _. pcc-there target) (λ _. tt)
    special-there n (Link l) = cond_both (eqb n PCC) _ None AllThere (λ _. pcc-there l.target) (λ _. tt)
    special-there n (Special w) =
        cond_both (eqb n PCC) _ _ AllThere (λ _. pcc-there (next_of s)) (λ _. if-there (eqb n w.number) _ (range.rs1, tt))
    special-there n (Csr w) =
        cond_both (eqb n PCC) _ _ AllThere (λ _. pcc-there (next_of s)) (λ _. view-there n w.number w.value)
    special-there n (Trap f) = cond_both (eqb n PCC) _ None AllThere (λ _. pcc-there (next_of s)) (λ _. tt)
    special-there n Nothing = cond_both (eqb n PCC) _ None AllThere (λ _. pcc-there (next_of s)) (λ _. tt)
    special-there n (Write w) = cond_both (eqb n PCC) _ None AllThere (λ _. pcc-there (next_of s)) (λ _. tt)
    special-there n (Unseal w) = cond_both (eqb n PCC) _ None AllThere (λ _. pcc-there (next_of s)) (λ _. tt)
    special-there n (Store w) = cond_both (eqb n PCC) _ None AllThere (λ _. pcc-there (next_of s)) (λ _. tt)
    special-there n (StoreCapability w) = cond_both (eqb n PCC) _ None AllThere (λ _. pcc-there (next_of s)) (λ _. tt)
    special-there n (DeviceLoad l) = cond_both (eqb n PCC) _ None AllThere (λ _. pcc-there (next_of s)) (λ _. tt)
    special-there n (DeviceStore w) = cond_both (eqb n PCC) _ None AllThere (λ _. pcc-there (next_of s)) (λ _. tt)

    granule-there : (address : ℕ) (e : Effect CapValue) → AllThere (insn_made (place.Granule address) e insn s)
    unfolding insn_made
    granule-there address (Store w) = if-there (touches w.address (bytes_of w.size) address) Number (tt, tt)
    granule-there address (StoreCapability w) = if-there (eqb address w.address) _ (range.rs2, tt)
    granule-there address (Trap f) = tt
    granule-there address Nothing = tt
    granule-there address (Write w) = tt
    granule-there address (Unseal w) = tt
    granule-there address (DeviceLoad l) = tt
    granule-there address (DeviceStore w) = tt
    granule-there address (Jump target) = tt
    granule-there address (Link l) = tt
    granule-there address (Enter e) = tt
    granule-there address (Special w) = tt
    granule-there address (Csr w) = tt
    granule-there address (Return sealed) = tt

    insn-there : (p : Place) (e : Effect CapValue) → AllThere (insn_made p e insn s)
    unfolding insn_made
    insn-there (place.Register n) e =
        written-there n (written_register e) (register_making (kind_of insn.row) insn s) (register-there (kind_of insn.row) word none)
    insn-there (place.Special n) e = special-there n e
    insn-there (place.Granule address) e = granule-there address e

-- ---- the step

module _ (s : State) where
  abbrev AreAllThere : Option Making → Type 0
  AreAllThere o = IfSome o (λ making. AreThere making s)

  trap-there : (p : Place) (f : Fault) → AreAllThere (trap_made p f s)
  unfolding trap_made
  trap-there (place.Special n) f =
      cond_both (eqb n PCC) _ _ AreAllThere (λ _. (refl, tt)) (λ _. cond_both (eqb n MEPCC) _ None AreAllThere (λ _. (refl, tt)) (λ _. tt))
  trap-there (place.Register n) f = tt
  trap-there (place.Granule address) f = tt

  -- an effect that is no trap is an instruction's
  by-there : (p : Place) (e : Effect CapValue) → ((f : Fault) → AreAllThere (trap_made p f s))
      → AreAllThere (made_by_insn p e (insn_fetched (step_fetched s)) s) → AreAllThere (made_by p e s)
  by-there p (Trap f) trap other = trap f
  by-there p Nothing trap other = other
  by-there p (Write w) trap other = other
  by-there p (Unseal w) trap other = other
  by-there p (Store w) trap other = other
  by-there p (StoreCapability w) trap other = other
  by-there p (DeviceLoad l) trap other = other
  by-there p (DeviceStore w) trap other = other
  by-there p (Jump target) trap other = other
  by-there p (Link l) trap other = other
  by-there p (Enter e) trap other = other
  by-there p (Special w) trap other = other
  by-there p (Csr w) trap other = other
  by-there p (Return sealed) trap other = other

  pub effect-there : (p : Place) (e : Effect CapValue) → IsStep s e → AreAllThere (made_by p e s)
  effect-there p _ (trapped f) = trap-there p f
  effect-there p e (done insn it) =
      by-there p e (trap-there p)
      (subst (λ o. AreAllThere (made_by_insn p e o s)) (sym it.is_decoded) (insn-there s insn it.in_range it.word it.holds p e))

  unless-there : (halted : Option ℕ) (p : Place) → AreAllThere (made_unless halted p s)
  unless-there None p = effect-there p (step_effect s) (step-effect s)
  unless-there (Some number) p = tt

  pub step-there : (p : Place) → AreAllThere (step_made p s)
  unfolding step_made
  step-there p = unless-there s.devices.halted p

  some-there : (o : Option Making) (making : Making) → AreAllThere o → o ≡ Some making → AreThere making s
  some-there (Some k) making there same =
      let both : Some k ≡ Some making = same in
      let equal : k ≡ making = cc in
      subst (λ m. AreThere m s) equal there
  some-there None making there same = cc

  pub event-there : (p : Place) (e : Event) (making : Making) → made_at p e s ≡ Some making → AreThere making s
  event-there p Step making some = some-there (step_made p s) making (step-there p) some
  event-there p Tick making some = cc
  event-there p (Byte b) making some = cc
