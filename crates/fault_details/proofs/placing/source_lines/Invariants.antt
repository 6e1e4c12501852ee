use Rattle.std.proofs.Common.{◌≡◌, ◌++◌, drop}
use Rattle.std.specs.List.{flat_map}
use Rattle.fault_details.specs.SourceLines.{source_line, source_lines}
use Rattle.fault_details.proofs.placing.source_lines.Given as goal

abbrev pub invariant-loop-one : goal.invariant-loop-one
invariant-loop-one l = record {
  made : l.made.items ++ flat_map (source_line l.name l.text) (drop l.one-index l.placed) ≡ source_lines l.name l.text l.placed;
  text : l.lines ≡ l.text;
}
