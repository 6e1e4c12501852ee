use Rattle.std.proofs.Common.{inl, inr, refl}
use Rattle.std.proofs.lemmas.Result.{err_from_is_err_and}
use Rattle.commands.specs.RunFaults.FailsReported.{at_report, at_run}
use Rattle.std.specs.Prelude.{string_bytes}
use Rattle.commands.proofs.Filing.{gains_around}
use Rattle.commands.proofs.reporting.call_image.Goals as goal

pub returns-clause-files : goal.returns-clause-files
returns-clause-files g c =
    let files = g.F.Folder.files in
    let text = string_bytes c.in_ok-text.text in
    let written = c.in_ok-left.ensures.files in
    let last = rw (c.as_bytes.ensures.value, c.in_ok-text.ensures.ok) at c.in_ok-finish_file.ensures.ok in (
      written.0,
      written.1,
      gains_around (files c.args.folder.now) (files c.make_file.new.folder) (files c.run_profiled.new.folder)
          (files c.finish_file.new.folder) _ c.args.name.now _ (g.F.Made.Write.contents c.in_ok-file.file)
          c.in_ok-file.ensures.files c.in_ok-file.ensures.empty written.2 last,
    )

pub returns-in_err-left-clause-err : goal.returns-in_err-left-clause-err
returns-in_err-left-clause-err g c =
    let p = err_from_is_err_and c.from_residual-in_err-left.result c.from_residual-in_err-left.ensures.1 in
    rw (p.1, p.2) (at_run _ c.in_ok-file.ensures.files c.in_err-left.ensures.err)

pub returns-in_err-text-clause-err : goal.returns-in_err-text-clause-err
returns-in_err-text-clause-err g c =
    let p = err_from_is_err_and c.from_residual-in_err-text.result c.from_residual-in_err-text.ensures.1 in
    rw (p.1, p.2) (at_report _ _ c.in_ok-file.ensures.files c.in_ok-left.ensures.files (inl (c.in_err-text.ensures.err, refl)))

pub returns-in_err-finish_file-clause-err : goal.returns-in_err-finish_file-clause-err
returns-in_err-finish_file-clause-err g c =
    let p = err_from_is_err_and c.from_residual-in_err-finish_file.result c.from_residual-in_err-finish_file.ensures.1 in
    rw (p.1, p.2) (at_report _ _ c.in_ok-file.ensures.files c.in_ok-left.ensures.files (inr c.in_err-finish_file.ensures.err))
