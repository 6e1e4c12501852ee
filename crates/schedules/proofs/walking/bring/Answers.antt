use Rattle.std.proofs.Common.{◌≡◌, ℕ, [], List, Bool, refl, sym, subst, ap, ap₂, ◌∙◌}
use Rattle.std.specs.Prelude.{Option, Some, None, map, option_to_list, if◌then◌else◌}
use Rattle.steps.specs.declared.event.Event.{Event}
use Rattle.steps.specs.declared.event.Event.TheVariants.{Byte}
use Rattle.schedules.specs.declared.pace.How.TheVariants.{Done}
use Rattle.schedules.specs.Schedule.{is_halted}
use Rattle.schedules.specs.Walk.{Met}
use Rattle.schedules.proofs.Pieces.{keeps_at_byte, one_met}
use Rattle.schedules.proofs.walking.bring.Goals as goal

abbrev came : Bool → Option ℕ → List Event
came brought byte = if brought then [] else map Byte (option_to_list byte)

pub returns-in-Some-clause-met : goal.returns-in-Some-clause-met
returns-in-Some-clause-met g c =
    let s = c.args.machine.now in
    let b = c.in-Some.byte in
    let same = ap₂ came c.if-position.false (sym c.byte_before.ensures ∙ c.in-Some.is) in
    subst (λ es. Met g.V.Watch.Saw g.V.Watch.Lost g.V.Watch.Barred Done es s c.event.new.self c.args.watch.now c.came.new.self) (sym same)
    (record { state = c.event.ensures.state; all = one_met (Byte b) s; told = c.came.ensures.byte b s c.event.ensures.state })

pub returns-in-Some-clause-halted : goal.returns-in-Some-clause-halted
returns-in-Some-clause-halted g c =
    ap is_halted c.event.ensures.state ∙ keeps_at_byte c.in-Some.byte c.args.machine.now

pub returns-in_default-clause-met : goal.returns-in_default-clause-met
returns-in_default-clause-met g c =
    let s = c.args.machine.now in
    let same = ap₂ came c.if-position.false (sym c.byte_before.ensures ∙ none c.byte_before.result c.in_default.not-Some) in
    subst (λ es. Met g.V.Watch.Saw g.V.Watch.Lost g.V.Watch.Barred Done es s s c.args.watch.now c.args.watch.now) (sym same)
    (record { state = refl; all = refl; told = g.met.V.Watch.starts s c.args.watch.now })
  where
    none : (o : Option ℕ) → ((b : ℕ) → o ≡ Some b → ⊥) → o ≡ None
    none None off = refl
    none (Some b) off = absurd (off b refl)
