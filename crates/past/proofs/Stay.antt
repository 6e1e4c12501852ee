-- RAM keeps its size over steps.
use Rattle.std.proofs.Common.{◌≡◌, ℕ, zero, suc, length, refl, ◌∙◌}
use Rattle.std.specs.Prelude.{replicate}
use Rattle.steps.specs.Event.{after}
use Rattle.steps.specs.EventLaws.{IsState-after}
use Rattle.steps.specs.IsState.{IsState}
use Rattle.steps.specs.State.{State}
use Rattle.steps.specs.declared.event.Event.TheVariants.{Step}
use Rattle.machine.specs.Run.{run_after}
use Rattle.origins.proofs.Stays.{length-after}

pub steps-size : (n : ℕ) (s : State) → IsState s → length (run_after (replicate n Step) s).memory.bytes ≡ length s.memory.bytes
steps-size zero s is = refl
steps-size (suc n) s is = steps-size n (after Step s) (IsState-after s is Step tt) ∙ length-after s is Step
