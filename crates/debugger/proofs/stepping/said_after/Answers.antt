use Rattle.debugger.specs.Marked.{seen}
use Rattle.debugger.proofs.Said.{others-say-nothing}
use Rattle.debugger.proofs.stepping.said_after.Goals as goal

pub returns-in_default-clause-text : goal.returns-in_default-clause-text
returns-in_default-clause-text g c =
    others-say-nothing c.args.events (seen g.C.CapRep.value c.args.marks.now) c.args.machine.now (λ n. c.in_default.not-Go n)
