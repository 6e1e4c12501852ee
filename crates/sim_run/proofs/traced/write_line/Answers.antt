use Rattle.std.proofs.Common.{[], ◌∷◌, ◌-◌, ◌<◌, ◌∙◌, sym, ap, subst, arith}
use Rattle.std.proofs.KnownBytes.{Appends-nil}
use Rattle.std.proofs.Math.Nat.{min-eq_left}
use Rattle.std.specs.Io.KnownBytes.{Appends}
use Rattle.std.specs.Prelude.{OnErr, OnOk}
use Rattle.image.specs.Devices.{AppendsBeginning}
use Rattle.steps.specs.declared.event.Event.TheVariants.{Step}
use Rattle.sim_run.specs.LineLaws.{no_lines_past}
use Rattle.sim_run.specs.Trace.{says_of}
use Rattle.sim_run.proofs.WatchedSteps.{one_line}
use Rattle.sim_run.proofs.traced.write_line.Goals as goal

pub returns-then-before-form-clause-ok : goal.returns-then-before-form-clause-ok
returns-then-before-form-clause-ok g c = λ less.
    let below = c.if-before-form.true in
    rw (no_lines_past (says_of c.args.form) (c.args.form.skipped - c.args.before) c.args.before (Step ∷ []) c.args.machine.now
    (omega (arith, below))) (Appends-nil _)

pub returns-clause-ok : goal.returns-clause-ok
returns-clause-ok g c = λ less.
    let one = c.saturating_add.ensures ∙ min-eq_left (omega (arith, less)) in
    let line = ap (λ n. says_of c.args.form n c.args.machine.now) one
    ∙ sym (one_line (says_of c.args.form) c.args.form.skipped c.args.before c.args.machine.now past) in
    subst (λ text. OnOk c.write_step.result (Appends (g.T.Sink.held c.args.trace.now) (g.T.Sink.held c.write_step.new.trace) text))
    line c.write_step.ensures.ok
  where
    past : c.args.before < c.args.form.skipped → ⊥
    past below = let at = c.if-before-form.false in omega (arith, at, below)

pub returns-clause-err : goal.returns-clause-err
returns-clause-err g c = λ less.
    let one = c.saturating_add.ensures ∙ min-eq_left (omega (arith, less)) in
    let line = ap (λ n. says_of c.args.form n c.args.machine.now) one
    ∙ sym (one_line (says_of c.args.form) c.args.form.skipped c.args.before c.args.machine.now past) in
    subst
    (λ text. OnErr c.write_step.result (AppendsBeginning (g.T.Sink.held c.args.trace.now) (g.T.Sink.held c.write_step.new.trace) text))
    line c.write_step.ensures.err
  where
    past : c.args.before < c.args.form.skipped → ⊥
    past below = let at = c.if-before-form.false in omega (arith, at, below)
