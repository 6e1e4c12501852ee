use Rattle.std.proofs.Common.{◌*◌, ◌≤◌, arith}
use Rattle.std.proofs.lemmas.Nat.{mul-le}
use Rattle.commands.proofs.loading.schedule_of.Goals as goal

pub overflow_mul-steps : goal.overflow_mul-steps
overflow_mul-steps c = let most = c.requires.most_steps in omega (arith, most)

pub returns-clause-some_step : goal.returns-clause-some_step
returns-clause-some_step c =
    let least : 1 * 1 ≤ c.args.request.steps * c.args.request.times =
    mul-le 1 1 c.args.request.steps c.args.request.times c.requires.some_step c.requires.some_times in
    omega (arith, least)

pub returns-clause-range : goal.returns-clause-range
returns-clause-range c =
    let most = c.requires.most_steps in
    record { steps = omega (arith, most); some_gap = c.requires.some_gap; gap = c.requires.most_gap; tick = c.requires.most_tick }
