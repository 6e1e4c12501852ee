use Rattle.std.proofs.Common.{◌+◌, [], ◌∷◌, ◌++◌, sym, ap, ◌∙◌, subst}
use Rattle.std.specs.Io.KnownBytes.{Appends}
use Rattle.steps.specs.declared.event.Event.TheVariants.{Step}
use Rattle.machine.specs.Run.{run_sent}
use Rattle.schedules.specs.Schedule.{scheduled}
use Rattle.schedules.specs.Both.{BarredBoth, LostBoth}
use Rattle.sim_run.specs.Trace.{says_of}
use Rattle.sim_run.proofs.TraceCuts.{beginning_from_start, lines_from_start, output_cut}
use Rattle.sim_run.proofs.traced.run_traced.Goals as goal

pub returns-in-Some-clause-lines : goal.returns-in-Some-clause-lines
returns-in-Some-clause-lines g c =
    let met = rw c.in-Halted.is at c.walk_told-how.ensures.whole in
    let saw = met.0.told.0 in
    rw (c.trace-1.given.1 (sym (saw.0 ∙ c.new.ensures.same_reference)))
    (lines_from_start (scheduled c.args.schedule c.args.input.now c.args.machine.now) c.args.machine.now (ap says_of c.new.ensures.form)
    (ap (λ f. f.skipped) c.new.ensures.form) c.new.ensures.number _ (ap g.T.Sink.held c.new.ensures.trace) saw.2.lines)

pub returns-in-Some-clause-count : goal.returns-in-Some-clause-count
returns-in-Some-clause-count g c =
    let met = rw c.in-Halted.is at c.walk_told-how.ensures.whole in
    let told = met.0.told in (
      ap g.W.Sink.failed (c.sink-1.given.1 (sym (told.1.0 ∙ c.new-2.ensures.same_reference))) ∙ told.1.1.failed
          ∙ ap g.W.Sink.failed c.new-2.ensures.value,
      ap g.T.Sink.failed (c.trace-1.given.1 (sym (told.0.0 ∙ c.new.ensures.same_reference))) ∙ told.0.2.failed
          ∙ ap g.T.Sink.failed c.new.ensures.trace,
    )

pub returns-in-Second-clause-cut : goal.returns-in-Second-clause-cut
returns-in-Second-clause-cut g c =
    let e = rw c.in-Failed.is at c.walk_told-how.ensures.whole in
    let told = rw (c.in-Second.is, LostBoth) at e.met.told in
    let lines = lines_from_start e.events c.args.machine.now (ap says_of c.new.ensures.form) (ap (λ f. f.skipped) c.new.ensures.form)
    c.new.ensures.number _ (ap g.T.Sink.held c.new.ensures.trace) told.1.2.lines in
    rw (
      c.sink-1.given.1 (sym (told.0.0 ∙ c.new-2.ensures.same_reference)),
      c.trace-1.given.1 (sym (told.1.0 ∙ c.new.ensures.same_reference)),
      sym c.new-2.ensures.value,
    )
    (output_cut (says_of c.args.form) c.args.form.skipped _ e.events e.more c.args.machine.now c.walk_told-how.new.machine _ _ _ _ _ _
    e.order e.met.state told.0.1 lines)

pub returns-in-Second-clause-count : goal.returns-in-Second-clause-count
returns-in-Second-clause-count g c =
    let e = rw c.in-Failed.is at c.walk_told-how.ensures.whole in
    let told = rw (c.in-Second.is, LostBoth) at e.met.told in (
      ap g.W.Sink.failed (c.sink-1.given.1 (sym (told.0.0 ∙ c.new-2.ensures.same_reference))) ∙ told.0.1.failed
          ∙ ap (λ x. g.W.Sink.failed x + 1) c.new-2.ensures.value,
      ap g.T.Sink.failed (c.trace-1.given.1 (sym (told.1.0 ∙ c.new.ensures.same_reference))) ∙ told.1.2.failed
          ∙ ap g.T.Sink.failed c.new.ensures.trace,
    )

pub returns-in-First-Device-clause-cut : goal.returns-in-First-Device-clause-cut
returns-in-First-Device-clause-cut g c =
    let e = rw c.in-Barred.is at c.walk_told-how.ensures.whole in
    let b = e.0 in
    let told = rw (c.in-First-Device.is, BarredBoth) at b.met.told in
    let lines = beginning_from_start (b.events ++ Step ∷ []) c.args.machine.now (ap says_of c.new.ensures.form)
    (ap (λ f. f.skipped) c.new.ensures.form) c.new.ensures.number _ (ap g.T.Sink.held c.new.ensures.trace) told.0.1.lines in
    let held = subst (λ a. Appends a (g.W.Sink.held c.walk_told-how.new.watch.second.sink.now) (run_sent b.events c.args.machine.now))
    (ap g.W.Sink.held c.new-2.ensures.value) told.1.1.held in
    rw (
      c.sink-1.given.1 (sym (told.1.0 ∙ c.new-2.ensures.same_reference)),
      c.trace-1.given.1 (sym (told.0.0 ∙ c.new.ensures.same_reference)),
    )
    (record { done = b.events; rest = b.more; order = b.order; state = b.met.state; held = held; lines = lines })

pub returns-in-First-Memory-clause-cut : goal.returns-in-First-Memory-clause-cut
returns-in-First-Memory-clause-cut g c =
    let e = rw c.in-Barred.is at c.walk_told-how.ensures.whole in
    let b = e.0 in
    let told = rw (c.in-First-Memory.is, BarredBoth) at b.met.told in
    let lines = beginning_from_start (b.events ++ Step ∷ []) c.args.machine.now (ap says_of c.new.ensures.form)
    (ap (λ f. f.skipped) c.new.ensures.form) c.new.ensures.number _ (ap g.T.Sink.held c.new.ensures.trace) told.0.1.lines in
    let held = subst (λ a. Appends a (g.W.Sink.held c.walk_told-how.new.watch.second.sink.now) (run_sent b.events c.args.machine.now))
    (ap g.W.Sink.held c.new-2.ensures.value) told.1.1.held in
    rw (
      c.sink-1.given.1 (sym (told.1.0 ∙ c.new-2.ensures.same_reference)),
      c.trace-1.given.1 (sym (told.0.0 ∙ c.new.ensures.same_reference)),
    )
    (record { done = b.events; rest = b.more; order = b.order; state = b.met.state; held = held; lines = lines })
