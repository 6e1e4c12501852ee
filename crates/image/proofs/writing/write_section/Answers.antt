use Rattle.std.proofs.Common.{length}
use Rattle.std.proofs.KnownBytes.{Appends-trans}
use Rattle.std.proofs.lemmas.Result.{err_from_is_err_and, on_ok_weaker, on_err_weaker}
use Rattle.image.specs.Grammar.{span_bytes}
use Rattle.image.specs.BeginningLaws.{beginning_more, beginning_after}
use Rattle.image.proofs.writing.write_section.Goals as goal

pub returns-in_err-write_all-clause-err : goal.returns-in_err-write_all-clause-err
returns-in_err-write_all-clause-err g c =
    let p = err_from_is_err_and c.from_residual.result c.from_residual.ensures.1 in
    let s = c.args.section.now in
    let first = rw c.span_of.ensures at c.in_err-write_all.ensures.err in
    rw p.1 (beginning_more _ _ (span_bytes s.address (length s.bytes)) s.bytes first)

pub returns-clause-ok : goal.returns-clause-ok
returns-clause-ok g c =
    let s = c.args.section.now in
    let first = rw c.span_of.ensures at c.in_ok-write_all.ensures.ok in
    on_ok_weaker c.write_all-2.result
    (λ second. Appends-trans _ _ _ (span_bytes s.address (length s.bytes)) s.bytes first
    (rw c.bytes.ensures at second)) c.write_all-2.ensures.ok

pub returns-clause-err : goal.returns-clause-err
returns-clause-err g c =
    let s = c.args.section.now in
    let first = rw c.span_of.ensures at c.in_ok-write_all.ensures.ok in
    on_err_weaker c.write_all-2.result
    (λ second. beginning_after _ _ _ (span_bytes s.address (length s.bytes)) s.bytes first
    (rw c.bytes.ensures at second)) c.write_all-2.ensures.err
