use Rattle.std.proofs.lemmas.Result.{IfErr-weaker, err_from_is_err_and}
use Rattle.program.specs.Debugging.FailsToDebug.{at_keys, at_program, at_talk}
use Rattle.program.proofs.Debugged.{debugged}
use Rattle.program.proofs.debugging.debug_file.Goals as goal

pub returns-clause-ok : goal.returns-clause-ok
returns-clause-ok g c =
    debugged g.O.Write.contents (g.F.Folder.files c.args.folder.now) c.args.name.now c.args.symbols c.args.lines c.args.keys c.args.gap
    c.args.tick (g.I.Read.remaining c.args.input) (g.O.Write.contents c.args.output) c.in_ok-program.program.image
    c.in_ok-typed.typed.items c.debug_image.result c.in_ok-program.program.table _ c.is_some.result c.in_ok-program.ensures.ok
    c.in_ok-typed.ensures.ok c.is_some.ensures c.schedule_asked-schedule.ensures.value c.debug_image.ensures.ok

pub returns-in_err-program-clause-err : goal.returns-in_err-program-clause-err
returns-in_err-program-clause-err g c =
    let p = err_from_is_err_and c.from_residual.result c.from_residual.ensures.1 in
    rw (p.1, p.2) (at_program c.in_err-program.ensures.err)

pub returns-in_err-typed-clause-err : goal.returns-in_err-typed-clause-err
returns-in_err-typed-clause-err g c =
    let p = err_from_is_err_and c.from_residual-in_err-typed.result c.from_residual-in_err-typed.ensures.1 in
    let program = c.in_ok-program in
    rw (p.1, p.2) (at_keys program.program.image program.program.table program.ensures.ok c.in_err-typed.ensures.err)

pub returns-clause-err : goal.returns-clause-err
returns-clause-err g c =
    let program = c.in_ok-program in
    let typed = c.in_ok-typed in
    IfErr-weaker c.debug_image.result _ _
    (λ fault why. at_talk program.program.image program.program.table typed.typed.items program.ensures.ok typed.ensures.ok why)
    c.debug_image.ensures.err
