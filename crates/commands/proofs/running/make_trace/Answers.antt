use Rattle.std.proofs.Common.{sym, subst}
use Rattle.commands.specs.Files.{IsNew}
use Rattle.commands.proofs.Filing.{new_in_blocks}
use Rattle.commands.proofs.running.make_trace.Goals as goal

pub returns-in-Ok-clause-empty : goal.returns-in-Ok-clause-empty
returns-in-Ok-clause-empty g c =
    let files = g.F.Folder.files c.args.folder.now in
    new_in_blocks files _ _
    (subst (λ file. IsNew files (g.F.Made.Write.contents file)) (sym c.in-Ok.ensures.inner) c.in_ok-file.ensures.empty)
    c.in-Ok.ensures.empty
