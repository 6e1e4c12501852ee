use Rattle.std.proofs.Common.{refl, subst}
use Rattle.std.proofs.lemmas.Result.{err_from_is_err_and}
use Rattle.command_line.specs.CommandLine.{IsSound}
use Rattle.program.proofs.Gap.{gap_of}
use Rattle.program.proofs.carrying.carry_out.Goals as goal

pub returns-in_ok-ended-in-Go-clause-ok : goal.returns-in_ok-ended-in-Go-clause-ok
returns-in_ok-ended-in-Go-clause-ok g c =
    let run = c.in_ok-ended-in-Go in
    rw c.in-Go.is (run.ended, refl, refl, (rw c.stop_at.ensures at run.ensures.ok))

pub returns-in_ok-ended-in-Run-clause-ok : goal.returns-in_ok-ended-in-Run-clause-ok
returns-in_ok-ended-in-Run-clause-ok g c =
    let run = c.in_ok-ended-in-Run in
    rw c.in-Run.is (run.ended, refl, refl, (rw c.stop_at-in-Run.ensures at run.ensures.ok))

pub returns-in_ok-count-in-Audit-clause-ok : goal.returns-in_ok-count-in-Audit-clause-ok
returns-in_ok-count-in-Audit-clause-ok g c =
    let audit = c.in_ok-count-in-Audit in
    rw c.in-Audit.is (audit.count, refl, refl, audit.ensures.ok)

pub debug_file-requires : goal.debug_file-requires
debug_file-requires g c =
    let debug = c.in-Debug in
    gap_of debug.image debug.symbols debug.lines debug.typed debug.gap debug.tick debug.quiet (subst IsSound debug.is c.requires)

pub returns-in_ok-ended-in-First-clause-ok : goal.returns-in_ok-ended-in-First-clause-ok
returns-in_ok-ended-in-First-clause-ok g c =
    let first = c.in_ok-ended-in-First in
    rw c.in-First.is (first.ended, refl, refl, first.ensures.ok)

pub returns-in_err-ended-in-First-clause-err : goal.returns-in_err-ended-in-First-clause-err
returns-in_err-ended-in-First-clause-err g c =
    let p = err_from_is_err_and c.from_residual.result c.from_residual.ensures.1 in
    rw (c.in-First.is, p.1, p.2) (c.in_err-ended-in-First.ensures.err, refl)

pub returns-in_err-ended-in-Go-clause-err : goal.returns-in_err-ended-in-Go-clause-err
returns-in_err-ended-in-Go-clause-err g c =
    let p = err_from_is_err_and c.from_residual-in_err-ended-in-Go.result c.from_residual-in_err-ended-in-Go.ensures.1 in
    rw (c.in-Go.is, p.1, p.2) (rw c.stop_at.ensures at c.in_err-ended-in-Go.ensures.err)

pub returns-in_err-ended-in-Run-clause-err : goal.returns-in_err-ended-in-Run-clause-err
returns-in_err-ended-in-Run-clause-err g c =
    let p = err_from_is_err_and c.from_residual-in_err-ended-in-Run.result c.from_residual-in_err-ended-in-Run.ensures.1 in
    rw (c.in-Run.is, p.1, p.2) (rw c.stop_at-in-Run.ensures at c.in_err-ended-in-Run.ensures.err)

pub returns-in_err-count-in-Audit-clause-err : goal.returns-in_err-count-in-Audit-clause-err
returns-in_err-count-in-Audit-clause-err g c =
    let p = err_from_is_err_and c.from_residual-in_err-count-in-Audit.result c.from_residual-in_err-count-in-Audit.ensures.1 in
    rw (c.in-Audit.is, p.1, p.2) c.in_err-count-in-Audit.ensures.err

pub returns-in_ok-shown-in-Prove-clause-ok : goal.returns-in_ok-shown-in-Prove-clause-ok
returns-in_ok-shown-in-Prove-clause-ok g c = rw c.in-Prove.is (c.in_ok-shown-in-Prove.shown, refl, refl, c.in_ok-shown-in-Prove.ensures.ok)

pub returns-in_err-shown-in-Prove-clause-err : goal.returns-in_err-shown-in-Prove-clause-err
returns-in_err-shown-in-Prove-clause-err g c =
    let p = err_from_is_err_and c.from_residual-in_err-shown-in-Prove.result c.from_residual-in_err-shown-in-Prove.ensures.1 in
    rw (c.in-Prove.is, p.1, p.2) (c.in_err-shown-in-Prove.ensures.err, refl)

pub returns-in_ok-assemble_file-in-Asm-clause-ok : goal.returns-in_ok-assemble_file-in-Asm-clause-ok
returns-in_ok-assemble_file-in-Asm-clause-ok g c = rw c.in-Asm.is (refl, refl, refl, c.in_ok-assemble_file-in-Asm.ensures.ok)

pub returns-in_err-assemble_file-in-Asm-clause-err : goal.returns-in_err-assemble_file-in-Asm-clause-err
returns-in_err-assemble_file-in-Asm-clause-err g c =
    let p = err_from_is_err_and c.from_residual-in_err-assemble_file-in-Asm.result c.from_residual-in_err-assemble_file-in-Asm.ensures.1 in
    rw (c.in-Asm.is, p.1, p.2) c.in_err-assemble_file-in-Asm.ensures.err

pub returns-in_ok-image_file-in-Image-clause-ok : goal.returns-in_ok-image_file-in-Image-clause-ok
returns-in_ok-image_file-in-Image-clause-ok g c = rw c.in-Image.is (refl, refl, refl, c.in_ok-image_file-in-Image.ensures.ok)

pub returns-in_err-image_file-in-Image-clause-err : goal.returns-in_err-image_file-in-Image-clause-err
returns-in_err-image_file-in-Image-clause-err g c =
    let p = err_from_is_err_and c.from_residual-in_err-image_file-in-Image.result c.from_residual-in_err-image_file-in-Image.ensures.1 in
    rw (c.in-Image.is, p.1, p.2) c.in_err-image_file-in-Image.ensures.err

pub returns-in_ok-output-in-Dis-clause-ok : goal.returns-in_ok-output-in-Dis-clause-ok
returns-in_ok-output-in-Dis-clause-ok g c = rw c.in-Dis.is (refl, refl, c.in_ok-output-in-Dis.ensures.ok)

pub returns-in_err-output-in-Dis-clause-err : goal.returns-in_err-output-in-Dis-clause-err
returns-in_err-output-in-Dis-clause-err g c =
    let p = err_from_is_err_and c.from_residual-in_err-output-in-Dis.result c.from_residual-in_err-output-in-Dis.ensures.1 in
    rw (c.in-Dis.is, p.1, p.2) (c.in_err-output-in-Dis.ensures.err, refl)

pub returns-in_ok-output-in-Debug-clause-ok : goal.returns-in_ok-output-in-Debug-clause-ok
returns-in_ok-output-in-Debug-clause-ok g c = rw c.in-Debug.is (refl, refl, c.in_ok-output-in-Debug.ensures.ok)

pub returns-in_err-output-in-Debug-clause-err : goal.returns-in_err-output-in-Debug-clause-err
returns-in_err-output-in-Debug-clause-err g c =
    let p = err_from_is_err_and c.from_residual-in_err-output-in-Debug.result c.from_residual-in_err-output-in-Debug.ensures.1 in
    rw (c.in-Debug.is, p.1, p.2) (c.in_err-output-in-Debug.ensures.err, refl)

pub returns-in_ok-output-in-Bounds-clause-ok : goal.returns-in_ok-output-in-Bounds-clause-ok
returns-in_ok-output-in-Bounds-clause-ok g c = rw c.in-Bounds.is (refl, refl, c.in_ok-output-in-Bounds.ensures.ok)

pub returns-in_err-output-in-Bounds-clause-err : goal.returns-in_err-output-in-Bounds-clause-err
returns-in_err-output-in-Bounds-clause-err g c =
    let p = err_from_is_err_and c.from_residual-in_err-output-in-Bounds.result c.from_residual-in_err-output-in-Bounds.ensures.1 in
    rw (c.in-Bounds.is, p.1, p.2) (c.in_err-output-in-Bounds.ensures.err, refl)

pub returns-in_ok-output-in-Word-clause-ok : goal.returns-in_ok-output-in-Word-clause-ok
returns-in_ok-output-in-Word-clause-ok g c = rw c.in-Word.is (refl, refl, c.in_ok-output-in-Word.ensures.ok)

pub returns-in_err-output-in-Word-clause-err : goal.returns-in_err-output-in-Word-clause-err
returns-in_err-output-in-Word-clause-err g c =
    let p = err_from_is_err_and c.from_residual-in_err-output-in-Word.result c.from_residual-in_err-output-in-Word.ensures.1 in
    rw (c.in-Word.is, p.1, p.2) (c.in_err-output-in-Word.ensures.err, refl)
