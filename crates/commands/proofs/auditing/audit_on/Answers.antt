use Rattle.std.proofs.Common.{refl, subst}
use Rattle.std.specs.Io.KnownBytes.{Appends}
use Rattle.commands.specs.Auditing.{told_unless}
use Rattle.commands.proofs.auditing.audit_on.Goals as goal

pub returns-clause-ok : goal.returns-clause-ok
returns-clause-ok g c =
    let written = subst
    (λ t. Appends (g.O.Write.contents c.args.output) (g.O.Write.contents c.in_ok-output.output)
    (told_unless c.args.run.now.request.quiet t))
    c.deref.ensures c.in_ok-output.ensures.ok in
    (c.in_ok-audited.audited, c.in_ok-audited.ensures.ok, c.in_ok-trace_run.ensures.ok, refl, written)
