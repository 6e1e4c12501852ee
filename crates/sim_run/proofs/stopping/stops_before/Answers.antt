use Rattle.std.proofs.Common.{◌≡◌, ap, sym, ◌∙◌}
use Rattle.std.specs.Prelude.{Some, None}
use Rattle.steps.specs.Step.{step_effect}
use Rattle.sim_run.specs.Watched.{trap_in}
use Rattle.sim_run.proofs.Stops.{stop-trapped, stop-untrapped}
use Rattle.sim_run.proofs.stopping.stops_before.Goals as goal

pub returns-in-Some : goal.returns-in-Some
returns-in-Some g c =
    let is : trap_in (step_effect c.args.machine.now) ≡ Some c.in-Some.fault =
    ap trap_in (sym c.requires.planned.0) ∙ sym c.trap_in.ensures ∙ c.in-Some.is in
    stop-trapped c.args.at c.args.is_open c.args.machine.now c.requires.running c.in-Some.fault c.is_asked.result is c.is_asked.ensures

pub returns-in-None : goal.returns-in-None
returns-in-None g c =
    let is : trap_in (step_effect c.args.machine.now) ≡ None =
    ap trap_in (sym c.requires.planned.0) ∙ sym c.trap_in.ensures ∙ c.in-None.is in
    stop-untrapped c.args.at c.args.is_open c.args.machine.now c.requires.running is
