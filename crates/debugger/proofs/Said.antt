-- What is said after a command's events.
use Rattle.std.proofs.Common.{◌≡◌, ℕ, Bool, true, false, ◌&&◌, List, [], refl, ap, sym, ◌∙◌}
use Rattle.std.specs.Prelude.{Option, Some, None, is_some}
use Rattle.debug_commands.specs.declared.command.Events.{Events}
use Rattle.debug_commands.specs.declared.command.Events.TheVariants.{Steps, Ticks, Byte, Until, Go, Changed}
use Rattle.debugger.specs.Stops.{Mark}
use Rattle.steps.specs.Event.{outcome}
use Rattle.steps.specs.Outcome.{is_trap, step_outcome, step_outcome_unless}
use Rattle.steps.specs.State.{State}
use Rattle.steps.specs.declared.event.Event.TheVariants.{Step}
use Rattle.sim_run.specs.Stopping.{is_stop as is_trap_met}
use Rattle.sim_run.specs.declared.stopping.StopAt.TheVariants.{Unfetched}
use Rattle.debugger.specs.Reply.{said_after}

-- a halted machine traps no more
none : (halted : Option ℕ) (s : State) → is_some halted ≡ true → is_trap (step_outcome_unless halted s) ≡ false
none None s h = absurd (cc)
none (Some n) s h = refl

pub halted-not-met : (s : State) (halted : Option ℕ) (b : Bool) → halted ≡ s.devices.halted → b ≡ is_some halted → b ≡ true → (c : Bool)
    → false ≡ (is_trap_met Unfetched false s && c)
unfolding is_trap_met step_outcome
halted-not-met s halted b is same on c =
    let off : is_trap (outcome Step s) ≡ false = none s.devices.halted s (sym (ap is_some is) ∙ sym same ∙ on) in
    rw off refl

pub others-say-nothing : (events : Events) (marks : List Mark) (s : State) → ((n : ℕ) → events ≡ Go n → ⊥) → [] ≡ said_after events marks s
others-say-nothing (Steps n) marks s other = refl
others-say-nothing (Ticks n) marks s other = refl
others-say-nothing (Byte b) marks s other = refl
others-say-nothing (Until stop n) marks s other = refl
others-say-nothing (Changed place n) marks s other = refl
others-say-nothing (Go n) marks s other = absurd (other n refl)
