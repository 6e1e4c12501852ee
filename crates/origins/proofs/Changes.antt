-- What a place holds after an event, and after events none of which writes it.
use Rattle.std.proofs.Common.{ℕ, ◌<◌, eqb, List, [], ◌∷◌, Option, Some, None, refl, sym, subst}
use Rattle.cap_bounds.specs.CapValue.{CapValue}
use Rattle.origins.specs.declared.place.Place.{Place}
use Rattle.origins.specs.declared.place.Place.TheVariants as place
use Rattle.devices.specs.Devices.{Devices}
use Rattle.base.specs.declared.fault.Fault.{Fault}
use Rattle.base.specs.declared.registers.scr.TheConstants.{PCC}
use Rattle.isa_rows.specs.Kind.{kind_of}
use Rattle.isa_rows.specs.declared.operands.Insn.{Insn}
use Rattle.machine.specs.Run.{run_after}
use Rattle.machine.specs.Stretch.{AreEvents}
use Rattle.steps.specs.AppliedLaws.{IsSoundEffect}
use Rattle.steps.specs.Effect.{applied}
use Rattle.steps.specs.Event.{after}
use Rattle.steps.specs.EventLaws.{IsState-after, step_effect-sound}
use Rattle.steps.specs.IsState.{IsState}
use Rattle.steps.specs.State.{State}
use Rattle.steps.specs.Step.{insn_fetched, step_effect, step_fetched, stepped, stepped_unless}
use Rattle.steps.specs.declared.effect.Effect.{Effect}
use Rattle.steps.specs.declared.effect.Effect.TheVariants.{Trap, Nothing, Write, Unseal, Store, StoreCapability, DeviceLoad, DeviceStore}
use Rattle.steps.specs.declared.effect.Effect.TheVariants.{Jump, Link, Enter, Special, Csr, Return}
use Rattle.steps.specs.declared.event.Event.{Event}
use Rattle.steps.specs.declared.event.Event.TheVariants.{Step, Tick, Byte}
use Rattle.origins.specs.Kept.{HoldsTheSame}
use Rattle.origins.specs.Made.{if_written, insn_made, made_at, made_by, made_by_insn, made_unless, register_making, step_made}
use Rattle.origins.specs.Made.{trap_made}
use Rattle.origins.specs.Made.{written_register}
use Rattle.origins.specs.Places.{IsThere, held}
use Rattle.origins.specs.Search.{NoneDoes}
use Rattle.origins.specs.declared.making.Making.{Making}
use Rattle.origins.specs.declared.search.Sought.TheVariants.{Written}
use Rattle.origins.proofs.Does.{Carries, kind-carries}
use Rattle.origins.proofs.Granules.{granule-written}
use Rattle.origins.proofs.Kept.{but-refl, kept-refl, kept-trans}
use Rattle.origins.proofs.Registers.{register-made, register-kept}
use Rattle.origins.proofs.Specials.{special-written, trap-special}
use Rattle.origins.proofs.Stays.{event-stays}
use Rattle.origins.proofs.Steps.{IsDone, IsStep, trapped, done, step-effect}
use Rattle.origins.proofs.Becomes.{IsNoTrap, IsWritten, both-written, is-kept}

module _ (s : State) where
  kept-devices : (p : Place) (d : Devices) → HoldsTheSame p s (record s { devices = d })
  unfolding held
  kept-devices (place.Special n) d = but-refl (eqb n PCC) _
  kept-devices (place.Register n) d = refl
  kept-devices (place.Granule address) d = refl

  module _ (is : IsState s) where
    register-written : (insn : Insn) (making : Making) (e : Effect CapValue) → Carries making insn e s → (n : ℕ) → n < 32
        → IsWritten (place.Register n) s (applied e s) (if_written n (written_register e) making)
    unfolding held
    register-written insn making e carries n below =
        both-written (place.Register n) s (applied e s) (if_written n (written_register e) making)
        (λ m some. register-made s is insn n below making m e carries some) (λ none. register-kept s n making e none)

    insn-written : (p : Place) → IsThere p s → (e : Effect CapValue) → IsSoundEffect e s → (insn : Insn)
        → Carries (register_making (kind_of insn.row) insn s) insn e s → IsNoTrap e → IsWritten p s (applied e s) (insn_made p e insn s)
    unfolding insn_made
    insn-written (place.Register n) there e sound insn carries plain =
        register-written insn (register_making (kind_of insn.row) insn s) e carries n there
    insn-written (place.Special n) there e sound insn carries plain =
        special-written s insn (register_making (kind_of insn.row) insn s) e carries plain n there
    insn-written (place.Granule address) there e sound insn carries plain =
        granule-written s insn address there (register_making (kind_of insn.row) insn s) e carries sound

    done-written : (p : Place) → IsThere p s → (e : Effect CapValue) → IsSoundEffect e s → (insn : Insn) → IsDone insn e s → IsNoTrap e
        → IsWritten p s (applied e s) (made_by_insn p e (insn_fetched (step_fetched s)) s)
    done-written p there e sound insn it plain =
        subst (λ o. IsWritten p s (applied e s) (made_by_insn p e o s)) (sym it.is_decoded)
        (insn-written p there e sound insn
        (subst (λ x. Carries (register_making (kind_of insn.row) insn s) insn x s) (sym it.does)
        (kind-carries s insn (kind_of insn.row) refl)) plain)

    trap-written : (p : Place) → IsThere p s → (f : Fault) → IsWritten p s (applied (Trap f) s) (trap_made p f s)
    unfolding applied held trap_made
    trap-written (place.Special n) there f = trap-special s f n there
    trap-written (place.Register n) there f = refl
    trap-written (place.Granule address) there f = refl

    -- an effect that is no trap is an instruction's
    by-written : (p : Place) → IsThere p s → (e : Effect CapValue)
        → (IsNoTrap e → IsWritten p s (applied e s) (made_by_insn p e (insn_fetched (step_fetched s)) s))
        → IsWritten p s (applied e s) (made_by p e s)
    by-written p there (Trap f) other = trap-written p there f
    by-written p there Nothing other = other tt
    by-written p there (Write w) other = other tt
    by-written p there (Unseal w) other = other tt
    by-written p there (Store w) other = other tt
    by-written p there (StoreCapability w) other = other tt
    by-written p there (DeviceLoad l) other = other tt
    by-written p there (DeviceStore w) other = other tt
    by-written p there (Jump target) other = other tt
    by-written p there (Link l) other = other tt
    by-written p there (Enter e) other = other tt
    by-written p there (Special w) other = other tt
    by-written p there (Csr w) other = other tt
    by-written p there (Return sealed) other = other tt

    effect-written : (p : Place) → IsThere p s → (e : Effect CapValue) → IsSoundEffect e s → IsStep s e
        → IsWritten p s (applied e s) (made_by p e s)
    effect-written p there _ sound (trapped f) = trap-written p there f
    effect-written p there e sound (done insn it) = by-written p there e (done-written p there e sound insn it)

    unless-written : (p : Place) → IsThere p s → (halted : Option ℕ) → IsWritten p s (stepped_unless halted s) (made_unless halted p s)
    unless-written p there None = effect-written p there (step_effect s) (step_effect-sound s is) (step-effect s)
    unless-written p there (Some number) = kept-refl p s

    pub event-written : (p : Place) → IsThere p s → (e : Event) → IsWritten p s (after e s) (made_at p e s)
    unfolding step_made stepped
    event-written p there Step = unless-written p there s.devices.halted
    event-written p there Tick = kept-devices p _
    event-written p there (Byte b) = kept-devices p _

-- ---- runs

pub none-writes : (events : List Event) (p : Place) (s : State) → IsState s → AreEvents events → IsThere p s → NoneDoes Written p events s
    → HoldsTheSame p s (run_after events s)
none-writes [] p s is are there none = kept-refl p s
none-writes (e ∷ es) p s is are there none =
    kept-trans p s (after e s) (run_after es (after e s)) (is-kept p s (after e s) (made_at p e s) (event-written s is p there e) none.0)
    (none-writes es p (after e s) (IsState-after s is e are.0) are.1 (event-stays s is e p there) none.1)
