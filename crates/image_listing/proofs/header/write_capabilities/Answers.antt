use Rattle.std.proofs.Common.{suc, ◌<◌, length, take, drop, subst, rules, add-one}
use Rattle.std.specs.List.{flat_map}
use Rattle.std.specs.Io.KnownBytes.{Appends}
use Rattle.std.proofs.KnownBytes.{Appends-trans}
use Rattle.std.proofs.lemmas.Result.{err_from_is_err_and}
use Rattle.image.specs.Devices.{AppendsBeginning}
use Rattle.image.specs.BeginningLaws.{beginning_more, beginning_after, cut_at}
use Rattle.image_listing.specs.Header.{capability_line}
use Rattle.image_listing.proofs.Listed.{next_item}
use Rattle.image_listing.proofs.header.write_capabilities.Goals as goal

pub returns-in_err-write_all-clause-err : goal.returns-in_err-write_all-clause-err
returns-in_err-write_all-clause-err g c =
    let p = err_from_is_err_and c.from_residual.result c.from_residual.ensures.1 in
    let cs = c.args.capabilities.now in
    let k = c.loop-capability.capability-index in
    let below : k < length cs = c.loop-capability-test.true in
    let before = flat_map capability_line (take k cs) in
    let line = rw (c.as_bytes.ensures.value, c.deref.ensures.0, c.capability_line.ensures) at c.in_err-write_all.ensures.err in
    let here = beginning_after _ _ _ before _ c.loop-capability.invariant.written line in
    rw p.1 (subst (AppendsBeginning _ _) (cut_at capability_line cs k _ below)
    (beginning_more _ _ _ (flat_map capability_line (drop (suc k) cs)) here))

pub loop-capability-preserved : goal.loop-capability-preserved
loop-capability-preserved g c = record {
  written =
      let cs = c.args.capabilities.now in
      let k = c.loop-capability.capability-index in
      let below : k < length cs = c.loop-capability-test.true in
      let line = rw (c.as_bytes.ensures.value, c.deref.ensures.0, c.capability_line.ensures) at c.in_ok-write_all.ensures.ok in
      rw (add-one k)
      (subst (Appends _ _) (next_item capability_line cs k _ below)
      (Appends-trans _ _ _ (flat_map capability_line (take k cs)) _ c.loop-capability.invariant.written line));
  count = search rules;
}
