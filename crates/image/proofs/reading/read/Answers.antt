use Rattle.std.proofs.Common.{◌++◌}
use Rattle.std.proofs.KnownBytes.{Consumes-trans}
use Rattle.std.proofs.lemmas.Result.{err_from_is_err_and}
use Rattle.image.proofs.Ending.{value_stopped, value_more, value_read}
use Rattle.image.proofs.reading.read.Goals as goal

pub returns-in_err-image-clause-value : goal.returns-in_err-image-clause-value
returns-in_err-image-clause-value g c =
    let p = err_from_is_err_and c.from_residual.result c.from_residual.ensures.1 in
    rw (p.1, p.2) (value_stopped _ _ _ c.in_err-image.ensures.part)

pub returns-in_err-end-clause-beginning : goal.returns-in_err-end-clause-beginning
returns-in_err-end-clause-beginning g c =
    let first = c.in_ok-image.ensures.part in
    let second = c.in_err-end.ensures.beginning in
    (first.0 ++ second.0, Consumes-trans _ _ _ first.0 second.0 first.1 second.1)

pub returns-in_err-end-clause-value : goal.returns-in_err-end-clause-value
returns-in_err-end-clause-value g c =
    let p = err_from_is_err_and c.from_residual-in_err-end.result c.from_residual-in_err-end.ensures.1 in
    rw (p.1, p.2) (value_more _ _ _ _ c.in_ok-image.ensures.part c.in_err-end.ensures.more)

pub returns-clause-value : goal.returns-clause-value
returns-clause-value g c = value_read _ _ _ c.in_ok-image.ensures.part c.in_ok-end.ensures.ok
