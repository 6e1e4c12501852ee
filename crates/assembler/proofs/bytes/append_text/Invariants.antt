use Rattle.std.proofs.Common.{◌≡◌, ◌++◌, drop}
use Rattle.asm_lines.specs.Statement.{text_bytes, text_bytes_from}
use Rattle.assembler.proofs.bytes.append_text.Given as goal

abbrev pub invariant-loop-byte : goal.invariant-loop-byte
invariant-loop-byte l =
    l.bytes.items ++ text_bytes_from l.is_escaped (drop l.byte-index l.between) ≡ l.fn.bytes.items ++ text_bytes l.between
