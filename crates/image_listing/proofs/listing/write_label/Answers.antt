use Rattle.std.proofs.Common.{codes}
use Rattle.std.proofs.KnownBytes.{Appends-trans}
use Rattle.std.proofs.lemmas.Result.{on_ok_weaker, on_err_weaker, err_from_is_err_and}
use Rattle.image.specs.BeginningLaws.{beginning_more, beginning_after}
use Rattle.image_listing.proofs.listing.write_label.Goals as goal

pub returns-in_err-write_all-clause-err : goal.returns-in_err-write_all-clause-err
returns-in_err-write_all-clause-err g c =
    let p = err_from_is_err_and c.from_residual.result c.from_residual.ensures.1 in
    rw p.1 (beginning_more _ _ c.args.name.now (codes ":\n") c.in_err-write_all.ensures.err)

pub returns-clause-ok : goal.returns-clause-ok
returns-clause-ok g c =
    on_ok_weaker c.write_all-2.result
    (λ line. Appends-trans _ _ _ c.args.name.now (codes ":\n") c.in_ok-write_all.ensures.ok line)
    c.write_all-2.ensures.ok

pub returns-clause-err : goal.returns-clause-err
returns-clause-err g c =
    on_err_weaker c.write_all-2.result
    (λ line. beginning_after _ _ _ c.args.name.now (codes ":\n") c.in_ok-write_all.ensures.ok line)
    c.write_all-2.ensures.err
