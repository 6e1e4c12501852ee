use Rattle.std.proofs.Common.{sym, ap, ◌+◌, ◌∙◌}
use Rattle.schedules.proofs.Cut.{cut_of}
use Rattle.sim_run.proofs.run.run_told.Goals as goal

pub returns-in-Failed-clause-cut : goal.returns-in-Failed-clause-cut
returns-in-Failed-clause-cut g c =
    let e = rw c.in-Failed.is at c.walk_told-how.ensures.whole in
    let name = sym (e.met.told.0 ∙ c.new-output.ensures.same_reference) in
    rw (c.sink-1.given.1 name, sym c.new-output.ensures.value)
    (cut_of _ e.events e.more c.args.machine.now c.walk_told-how.new.machine _ _ _ _ e.order e.met.state e.met.told.1)

pub returns-in-Failed-clause-count : goal.returns-in-Failed-clause-count
returns-in-Failed-clause-count g c =
    let e = rw c.in-Failed.is at c.walk_told-how.ensures.whole in
    let name = sym (e.met.told.0 ∙ c.new-output.ensures.same_reference) in
    ap g.W.Sink.failed (c.sink-1.given.1 name) ∙ e.met.told.1.failed ∙ ap (λ x. g.W.Sink.failed x + 1) c.new-output.ensures.value
