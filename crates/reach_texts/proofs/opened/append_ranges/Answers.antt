use Rattle.std.proofs.Common.{arith, ◌∙◌}
use Rattle.reach_texts.specs.Summary.{range_line, ranges_text}
use Rattle.reach_texts.proofs.RangeLines.{after_line, lines_of, named_lines}
use Rattle.reach_texts.proofs.opened.append_ranges.Goals as goal

pub returns : goal.returns
unfolding ranges_text
returns g c =
    named_lines c.append_or_none.result _ _ c.as_str.result.now c.as_str-2.result.now _ _ (c.as_str.ensures.value ∙ c.right_name.ensures)
    (c.as_str-2.ensures.value
    ∙ lines_of (range_line c.args.symbols.now c.args.right) c.args.right g.C.CapRep.value c.args.members.now c.in_ok-found.found.items
    c.deref-range-items.result.now c.loop-range.range-index _ c.in_ok-found.ensures.exact c.deref-range-items.ensures.value (omega arith)
    c.loop-range.invariant)
    c.append_or_none.ensures

pub loop-range-preserved : goal.loop-range-preserved
loop-range-preserved g c =
    after_line (range_line c.args.symbols.now c.args.right) _ c.loop-range.range-index _ _ _ _ (omega arith)
    c.in_ok-append_range.ensures c.loop-range.invariant
