use Rattle.std.proofs.lemmas.Result.{err_from_is_err_and}
use Rattle.commands.specs.Programs.IsProgramFault.{at_labels}
use Rattle.commands.proofs.Sources.{named, no_lines, of_bytes}
use Rattle.commands.proofs.programs.program_of_image.Goals as goal

pub returns-in_err-read_table-in-Some-clause-err : goal.returns-in_err-read_table-in-Some-clause-err
returns-in_err-read_table-in-Some-clause-err g c =
    let p = err_from_is_err_and c.from_residual-in_err-read_table-in-Some.result c.from_residual-in_err-read_table-in-Some.ensures.1 in
    let name = c.args.name.now in
    let files = g.F.Folder.files c.args.folder.now in
    let image = c.in_ok-image.image in
    rw (p.1, p.2, c.in-Some.is)
    (at_labels image (of_bytes name files image c.requires c.in_ok-image.ensures.ok)
    (named name files c.in-Some.table _ c.in_err-read_table-in-Some.ensures.err))

pub returns-clause-lines : goal.returns-clause-lines
returns-clause-lines g c =
    no_lines c.args.name.now (g.F.Folder.files c.args.folder.now) c.new-own_lines.result.items c.requires c.new-own_lines.ensures.items
