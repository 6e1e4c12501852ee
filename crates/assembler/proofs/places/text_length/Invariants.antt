use Rattle.std.proofs.Common.{◌≡◌, ◌+◌, ◌≤◌, length, drop}
use Rattle.asm_lines.specs.Statement.{text_bytes, text_bytes_from}
use Rattle.assembler.proofs.places.text_length.Given as goal

abbrev pub invariant-loop-byte : goal.invariant-loop-byte
invariant-loop-byte l = record {
  value : l.count + length (text_bytes_from l.is_escaped (drop l.byte-index l.between)) ≡ length (text_bytes l.between);
  bound : l.count ≤ l.byte-index;
}
