use Rattle.std.proofs.Common.{◌≡◌, ◌+◌, ◌++◌, map, length}
use Rattle.std.specs.List.{flat_map}
use Rattle.std.specs.Option.{option_map, option_map_or}
use Rattle.asm_lines.specs.Text.{pieces_of, pieces_left}
use Rattle.assembler.specs.Bytes.{value_bytes}
use Rattle.assembler.specs.Sound.{AreKnown}
use Rattle.assembler.specs.Values.{asked_value}
use Rattle.assembler.proofs.bytes.append_values.Given as goal

abbrev pub invariant-loop-rest : goal.invariant-loop-rest
invariant-loop-rest l = record {
  placed : l.bytes.items ++ flat_map (value_bytes l.labels l.here l.size) (pieces_left (option_map (λ t. t.now) l.rest))
      ≡ l.fn.bytes.items ++ flat_map (value_bytes l.labels l.here l.size) (pieces_of l.operands);
  known : AreKnown l.labels l.here (map (asked_value l.size) (pieces_left (option_map (λ t. t.now) l.rest)));
}

abbrev pub decreases-loop-rest : goal.decreases-loop-rest
decreases-loop-rest l = option_map_or (λ t. length t.now + 1) l.rest 0
