use Rattle.std.proofs.lemmas.Result.{IfOk-weaker}
use Rattle.commands.specs.Files.{bytes_of}
use Rattle.commands.proofs.Typed.{typed-take}
use Rattle.commands.proofs.loading.typed.Goals as goal

pub returns-in-Some-clause-ok : goal.returns-in-Some-clause-ok
returns-in-Some-clause-ok g c =
    let known = bytes_of c.in-Some.file.now (g.F.Folder.files c.args.folder.now) in
    rw c.in-Some.is (IfOk-weaker c.read_beginning.result _ _ (λ v part. typed-take c.args.schedule c.most_bytes-most.result known v.items
    c.requires.range.some_gap c.most_bytes-most.ensures.unused part) c.read_beginning.ensures.ok)
