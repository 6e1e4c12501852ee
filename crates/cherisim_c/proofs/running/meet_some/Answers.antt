use Rattle.std.proofs.Common.{◌≡◌, ◌+◌, ◌≤◌, arith, subst}
use Rattle.machine.specs.Run.{run_after}
use Rattle.cherisim_c.specs.Running.{tick_after}
use Rattle.cherisim_c.proofs.Runs.{goes_on_from}
use Rattle.cherisim_c.proofs.running.meet_some.Goals as goal

pub returns-clause-on : goal.returns-clause-on
returns-clause-on c = λ room go.
    let a = c.args.asked.now in
    let met = c.some_steps-met in
    let few : met.result.steps ≤ c.args.left = grind (arith, c.min-most.ensures, met.ensures.few) in
    let short : met.result.steps ≤ c.steps_to_tick.result = grind (arith, c.min-most.ensures, met.ensures.few) in
    goes_on_from a met.result.steps c.args.before c.args.left room met.result.byte c.args.machine.now met.new.machine c.pass.new.machine
    met.ensures.some few (λ j some below. c.steps_to_tick.ensures.alone j some (omega (arith, below, short))) go met.ensures.walks
    met.ensures.state met.ensures.bytes
    (subst (λ n. c.pass.new.machine ≡ run_after (tick_after a (c.args.before + n) met.new.machine) met.new.machine) c.from.ensures
    c.pass.ensures)
