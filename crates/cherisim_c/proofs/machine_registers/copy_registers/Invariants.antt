use Rattle.std.proofs.Common.{◌≡◌, ℕ, ◌<◌, slice_index_or}
use Rattle.c_types.specs.declared.types.CheriCap.{CheriCap}
use Rattle.c_types.specs.Words.{capability_of}
use Rattle.registers.specs.Registers.{register}
use Rattle.cherisim_c.proofs.machine_registers.copy_registers.Given as goal

-- the registers so far
abbrev pub invariant-loop-n : goal.invariant-loop-n
invariant-loop-n l = (k : ℕ) (d : CheriCap) → k < l.n → capability_of (slice_index_or l.values k d) ≡ register l.machine.registers k
