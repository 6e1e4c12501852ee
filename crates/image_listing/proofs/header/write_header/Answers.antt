use Rattle.std.proofs.KnownBytes.{Appends-trans}
use Rattle.std.proofs.lemmas.Result.{on_ok_weaker, on_err_weaker, err_from_is_err_and}
use Rattle.std.specs.List.{flat_map}
use Rattle.image.specs.BeginningLaws.{beginning_more, beginning_after}
use Rattle.image_listing.specs.Header.{capability_line, header_line}
use Rattle.image_listing.proofs.header.write_header.Goals as goal

pub returns-in_err-write_all-clause-err : goal.returns-in_err-write_all-clause-err
returns-in_err-write_all-clause-err g c =
    let p = err_from_is_err_and c.from_residual.result c.from_residual.ensures.1 in
    let image = c.args.image.now in
    let here = rw (c.as_bytes.ensures.value, c.deref.ensures.0, c.header_line.ensures) at c.in_err-write_all.ensures.err in
    rw p.1 (beginning_more _ _ (header_line image) (flat_map capability_line image.capabilities) here)

pub returns-clause-ok : goal.returns-clause-ok
returns-clause-ok g c =
    let image = c.args.image.now in
    let here = rw (c.as_bytes.ensures.value, c.deref.ensures.0, c.header_line.ensures) at c.in_ok-write_all.ensures.ok in
    on_ok_weaker c.write_capabilities.result
    (λ rest. Appends-trans _ _ _ (header_line image) (flat_map capability_line image.capabilities) here
    (rw c.capabilities.ensures.value at rest))
    c.write_capabilities.ensures.ok

pub returns-clause-err : goal.returns-clause-err
returns-clause-err g c =
    let image = c.args.image.now in
    let here = rw (c.as_bytes.ensures.value, c.deref.ensures.0, c.header_line.ensures) at c.in_ok-write_all.ensures.ok in
    on_err_weaker c.write_capabilities.result
    (λ rest. beginning_after _ _ _ (header_line image) (flat_map capability_line image.capabilities) here
    (rw c.capabilities.ensures.value at rest))
    c.write_capabilities.ensures.err
