use Rattle.std.proofs.lemmas.Result.{err_from_is_err_and}
use Rattle.commands.specs.Programs.IsProgramFault.{at_labels}
use Rattle.commands.proofs.Sources.{lines_of_text, named, of_text, out_of_memory, own}
use Rattle.commands.proofs.programs.program_of_text.Goals as goal

pub returns-in_err-labels-in-Some-clause-err : goal.returns-in_err-labels-in-Some-clause-err
returns-in_err-labels-in-Some-clause-err g c =
    let p = err_from_is_err_and c.from_residual-in_err-labels-in-Some.result c.from_residual-in_err-labels-in-Some.ensures.1 in
    let name = c.args.name.now in
    let files = g.F.Folder.files c.args.folder.now in
    let text = c.in_ok-made in
    rw (p.1, p.2, c.in-Some.is)
    (at_labels text.made.assembly.image (of_text name files text.made.assembly.image c.requires text.ensures.correct text.ensures.image)
    (named name files c.in-Some.table _ c.in_err-labels-in-Some.ensures.err))

pub returns-in_err-labels-in-None-clause-err : goal.returns-in_err-labels-in-None-clause-err
returns-in_err-labels-in-None-clause-err g c =
    let p = err_from_is_err_and c.from_residual-in_err-labels-in-None.result c.from_residual-in_err-labels-in-None.ensures.1 in
    let name = c.args.name.now in
    let files = g.F.Folder.files c.args.folder.now in
    let text = c.in_ok-made in
    rw (p.1, p.2, c.in-None.is)
    (at_labels text.made.assembly.image (of_text name files text.made.assembly.image c.requires text.ensures.correct text.ensures.image)
    (own name files text.made.assembly.symbols _ c.requires text.ensures.symbols
    c.in_err-labels-in-None.ensures.err))

pub returns-in_err-own_lines-clause-err : goal.returns-in_err-own_lines-clause-err
returns-in_err-own_lines-clause-err g c =
    let p = err_from_is_err_and c.from_residual-in_err-own_lines.result c.from_residual-in_err-own_lines.ensures.1 in
    let name = c.args.name.now in
    let files = g.F.Folder.files c.args.folder.now in
    let text = c.in_ok-made in
    rw (p.1, p.2, c.in_err-own_lines.ensures.err)
    (at_labels text.made.assembly.image (of_text name files text.made.assembly.image c.requires text.ensures.correct text.ensures.image)
    (out_of_memory name files c.args.symbols c.requires))

pub returns-clause-lines : goal.returns-clause-lines
returns-clause-lines g c =
    lines_of_text c.args.name.now (g.F.Folder.files c.args.folder.now) c.in_ok-made.made.text.items c.in_ok-own_lines.own_lines.items
    c.requires c.in_ok-made.ensures.text c.in_ok-own_lines.ensures.lines
