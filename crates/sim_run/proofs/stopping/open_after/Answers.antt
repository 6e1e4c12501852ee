use Rattle.std.proofs.Common.{◌≡◌, ap, sym, ◌∙◌}
use Rattle.std.specs.Prelude.{Some, None}
use Rattle.steps.specs.Step.{step_effect}
use Rattle.sim_run.specs.Watched.{trap_in}
use Rattle.sim_run.proofs.Stops.{only-gone, only-opened}
use Rattle.sim_run.proofs.stopping.open_after.Goals as goal

pub returns-in-Some : goal.returns-in-Some
returns-in-Some g c = λ number left passes known.
    let s = c.args.machine.now in
    let is : trap_in (step_effect s) ≡ Some c.in-Some.fault = ap trap_in (sym c.requires.planned.0) ∙ sym c.trap_in.ensures
    ∙ c.in-Some.is in
    only-opened s c.requires.running c.in-Some.fault number left c.args.only c.level_left.result c.pc.result is passes known
    c.level_left.ensures c.pc.ensures

pub returns-in-None : goal.returns-in-None
returns-in-None g c = λ number left passes known.
    let s = c.args.machine.now in
    let is : trap_in (step_effect s) ≡ None = ap trap_in (sym c.requires.planned.0) ∙ sym c.trap_in.ensures ∙ c.in-None.is in
    only-gone s c.requires.running number left c.args.only c.gone_on.result is known c.gone_on.ensures.told
