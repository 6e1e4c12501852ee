use Rattle.std.proofs.Common.{◌≡◌, ◌+◌, length}
use Rattle.std.specs.Option.{option_map, option_map_or}
use Rattle.asm_lines.specs.Text.{pieces_of, pieces_left}
use Rattle.assembler.specs.Checks.{any_passes}
use Rattle.assembler.proofs.checks.Test.any_passes.Given as goal

abbrev pub invariant-loop-rest : goal.invariant-loop-rest
invariant-loop-rest l =
    any_passes l.self l.labels l.here (pieces_of l.operands)
    ≡ any_passes l.self l.labels l.here (pieces_left (option_map (λ t. t.now) l.rest))

abbrev pub decreases-loop-rest : goal.decreases-loop-rest
decreases-loop-rest l = option_map_or (λ t. length t.now + 1) l.rest 0
