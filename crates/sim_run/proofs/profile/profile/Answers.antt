use Rattle.std.proofs.Common.{◌≡◌, ⊎_elim, arith}
use Rattle.schedules.specs.Schedule.{scheduled, steps_in}
use Rattle.sim_run.specs.Counts.{CountsMore}
use Rattle.sim_run.specs.Profile.{fetches}
use Rattle.sim_run.proofs.Counting.{all_counted}
use Rattle.std.proofs.lemmas.Bool.{eqb-true}
use Rattle.sim_run.proofs.profile.profile.Goals as goal

pub returns-in-Done : goal.returns-in-Done
returns-in-Done g c =
    let s = c.args.machine.now in
    let walk = c.walk_told-how in
    let events = scheduled c.args.schedule c.args.input.now s in
    let all : (walk.result.steps ≡ steps_in events)
    × CountsMore c.args.symbols.now (fetches events s) c.new.result walk.new.watch.tally =
    ⊎_elim (λ is. let met = rw is at walk.ensures.whole in (met.0.steps, met.0.told.2))
    (λ is. let met = rw is at walk.ensures.whole in (met.0.steps, met.0.told.2)) c.in-Done.is in
    let found =
    all_counted c.args.symbols.now events s c.new.result walk.new.watch.tally walk.result.steps c.new.ensures.empty all.0 all.1 in
    c.profile_of.ensures (fetches events s) found.0 found.1 found.2

pub unreachable-requires : goal.unreachable-requires
unreachable-requires g c =
    let met = rw c.in-Stopped.is at c.walk_told-how.ensures.whole in
    let last = eqb-true c.walk_told-how.new.watch.number 18446744073709551615 met.2 in
    let counted = met.0.met.told.1 in
    let steps = met.0.met.steps in
    let few = met.0.few in
    let most = c.requires.range.steps in
    absurd (omega (arith, last, counted, steps, few, most))
