use Rattle.std.proofs.Common.{◌≡◌, ◌+◌, ◌-◌, ◌≤◌, length, drop}
use Rattle.assembler.specs.Places.{lines_of}
use Rattle.assembler.proofs.further.after_lines.Given as goal

abbrev pub invariant-loop : goal.invariant-loop
invariant-loop l = record {
  lines : drop l.count (lines_of l.text) ≡ drop (l.count - l.counter) (lines_of l.rest);
  shorter : l.counter + length l.rest ≤ length l.text;
}
