use Rattle.std.proofs.Common.{◌∙◌, ap, subst}
use Rattle.std.specs.Prelude.{OnErr}
use Rattle.image.specs.Devices.{AppendsBeginning}
use Rattle.explain.specs.TraceLine.{trace_line}
use Rattle.sim_run.proofs.traced.write_words.Goals as goal

pub returns-clause-err : goal.returns-clause-err
returns-clause-err g c =
    let line = c.as_bytes.ensures.value ∙ c.deref.ensures.0 ∙ c.trace_line-line.ensures
    ∙ ap (trace_line c.args.symbols.now c.args.number) c.hart.ensures.value in
    subst
    (λ text. OnErr c.write_text.result (AppendsBeginning (g.T.Sink.held c.args.trace.now) (g.T.Sink.held c.write_text.new.trace) text))
    line c.write_text.ensures.err
