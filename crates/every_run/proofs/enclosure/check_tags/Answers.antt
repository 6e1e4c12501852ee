use Rattle.std.proofs.Common.{get_or, arith}
use Rattle.std.proofs.lemmas.List.{get_or_default}
use Rattle.reach.specs.declared.range.Range.{Range}
use Rattle.policy.proofs.Runs.{places-more}
use Rattle.every_run.proofs.Checked.{HasNoTagIn, holds-each, tags-known}
use Rattle.every_run.proofs.enclosure.check_tags.Goals as goal

pub loop-range-preserved : goal.loop-range-preserved
loop-range-preserved c =
    let none : Range = record { from = 0; to = 0 } in
    let i = c.loop-range.range-index in
    places-more (HasNoTagIn c.args.memory.now) c.args.any.now i (get_or c.args.any.now i none) c.loop-range-test.true
    (get_or_default c.args.any.now i none (get_or c.args.any.now i none) c.loop-range-test.true) c.in_default.ensures c.loop-range.invariant

pub returns : goal.returns
returns c =
    tags-known c.args.memory.now c.args.any.now
    (holds-each (HasNoTagIn c.args.memory.now) c.args.any.now c.loop-range.range-index (omega arith) c.loop-range.invariant)
