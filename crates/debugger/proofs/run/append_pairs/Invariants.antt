use Rattle.std.proofs.Common.{◌≡◌, ◌+◌, ◌*◌, ◌≤◌, ◌++◌, drop}
use Rattle.std.specs.Prelude.{string_bytes, string_len, string_capacity}
use Rattle.std.specs.List.{flat_map}
use Rattle.texts.specs.Hex.{hex_of}
use Rattle.debugger.proofs.run.append_pairs.Given as goal

abbrev pub invariant-loop-byte : goal.invariant-loop-byte
invariant-loop-byte l = record {
  bytes : string_bytes l.text ++ flat_map (hex_of 2) (drop l.byte-index l.bytes) ≡ string_bytes l.fn.text ++ flat_map (hex_of 2) l.bytes;
  len : string_len l.text ≤ string_len l.fn.text + 2 * l.byte-index;
  room : string_capacity l.fn.text ≤ string_capacity l.text;
}
