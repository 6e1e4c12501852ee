use Rattle.std.proofs.lemmas.Result.{IfErr-weaker, on_ok_weaker}
use Rattle.commands.proofs.Failing.{made_unfinished}
use Rattle.commands.proofs.Filing.{gains_whole}
use Rattle.commands.proofs.files.write_bytes.Goals as goal

pub returns-clause-ok : goal.returns-clause-ok
returns-clause-ok g c =
    on_ok_weaker c.finish_file.result (λ f. gains_whole _ _ _ c.args.name.now _ _ f.0 c.in_ok-file.ensures.files c.in_ok-file.ensures.empty
    f.1 f.2) c.finish_file.ensures.ok

pub returns-clause-err : goal.returns-clause-err
returns-clause-err g c =
    IfErr-weaker c.finish_file.result _ _ (λ fault cut. made_unfinished c.args.name.now _ _ _ fault c.in_ok-file.ensures.files cut)
    c.finish_file.ensures.err
