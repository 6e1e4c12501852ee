use Rattle.std.proofs.Common.{sym, ap, ◌∙◌}
use Rattle.every_run.proofs.Found.{same-value}
use Rattle.every_run.proofs.handler.is_given_back.Goals as goal

pub returns-then-not-marks-clause-same : goal.returns-then-not-marks-clause-same
returns-then-not-marks-clause-same g c = λ same.
    sym (c.mscratchc.ensures ∙ ap (λ x. x.mscratchc) c.scrs.ensures.value)
    ∙ same-value (g.C.CapRep.value c.mscratchc.result) (g.C.CapRep.value c.args.kept) (g.met.C.CapRep.valid c.mscratchc.result)
    (g.met.C.CapRep.valid c.args.kept) (sym c.equal_exact.ensures ∙ same)
