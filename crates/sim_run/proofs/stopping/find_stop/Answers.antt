use Rattle.std.proofs.Common.{◌≡◌, true, sym, ap, ◌∙◌, ⊎_elim}
use Rattle.std.specs.Prelude.{is_some}
use Rattle.schedules.specs.Schedule.{scheduled}
use Rattle.sim_run.specs.Stopping.{is_stop}
use Rattle.sim_run.proofs.Stops.{all_met, events_found, no_stop, number_found}
use Rattle.sim_run.proofs.stopping.find_stop.Goals as goal

pub returns-in-Done-clause-number : goal.returns-in-Done-clause-number
returns-in-Done-clause-number g c =
    let only = c.walk_told-how.new.watch.only in
    let events = scheduled c.args.schedule c.args.input.now c.args.machine.now in
    ⊎_elim (λ is. let met = rw is at c.walk_told-how.ensures.whole in no_stop c.args.at only events c.args.machine.now met.0.told.1)
    (λ is. let met = rw is at c.walk_told-how.ensures.whole in no_stop c.args.at only events c.args.machine.now met.0.told.1) c.in-Done.is

pub returns-in-Done-clause-events : goal.returns-in-Done-clause-events
returns-in-Done-clause-events g c =
    let only = c.walk_told-how.new.watch.only in
    let events = scheduled c.args.schedule c.args.input.now c.args.machine.now in
    ⊎_elim (λ is. let met = rw is at c.walk_told-how.ensures.whole in all_met c.args.at only events c.args.machine.now met.0.told.1)
    (λ is. let met = rw is at c.walk_told-how.ensures.whole in all_met c.args.at only events c.args.machine.now met.0.told.1) c.in-Done.is

pub returns-in-Stopped-clause-number : goal.returns-in-Stopped-clause-number
returns-in-Stopped-clause-number g c =
    let w = rw c.in-Stopped.is at c.walk_told-how.ensures.whole in
    let b = w.0 in
    let only = c.walk_told-how.new.watch.only in
    let stop : is_stop c.args.at (is_some only) c.walk_told-how.new.machine ≡ true =
    ap (λ at. is_stop at (is_some only) c.walk_told-how.new.machine) (sym b.met.told.0) ∙ w.2 in
    number_found c.args.at only c.args.schedule c.args.input.now c.walk_told-how.result.steps c.args.machine.now
    c.walk_told-how.new.machine b.events b.more b.order b.place b.met.state b.met.all b.met.steps b.met.told.1 stop

pub returns-in-Stopped-clause-events : goal.returns-in-Stopped-clause-events
returns-in-Stopped-clause-events g c =
    let w = rw c.in-Stopped.is at c.walk_told-how.ensures.whole in
    let b = w.0 in
    let only = c.walk_told-how.new.watch.only in
    let stop : is_stop c.args.at (is_some only) c.walk_told-how.new.machine ≡ true =
    ap (λ at. is_stop at (is_some only) c.walk_told-how.new.machine) (sym b.met.told.0) ∙ w.2 in
    events_found c.args.at only c.args.schedule c.args.input.now c.walk_told-how.result.steps c.args.machine.now
    c.walk_told-how.new.machine b.events b.more b.order b.place b.met.state b.met.all b.met.steps b.met.told.1 stop
