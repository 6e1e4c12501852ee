use Rattle.std.proofs.Common.{◌≡◌, ◌++◌, drop}
use Rattle.std.specs.Prelude.{string_bytes, codes}
use Rattle.std.specs.List.{flat_map}
use Rattle.texts.specs.Hex.{hex_of}
use Rattle.debugger.proofs.ram.append_byte_line.Given as goal

abbrev pub invariant-loop-byte : goal.invariant-loop-byte
invariant-loop-byte l =
    string_bytes l.text ++ flat_map (λ b. codes " " ++ hex_of 2 b) (drop l.byte-index l.bytes)
    ≡ string_bytes l.fn.text ++ (hex_of 16 l.address ++ codes ":" ++ flat_map (λ b. codes " " ++ hex_of 2 b) l.bytes)
