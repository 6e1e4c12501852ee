use Rattle.std.proofs.Common.{◌≡◌}
use Rattle.tagged_memory.specs.Memory.{bytes_at}
use Rattle.debugger.proofs.ram.bytes_at.Given as goal

abbrev pub invariant-loop-i : goal.invariant-loop-i
invariant-loop-i l = l.bytes.items ≡ bytes_at l.memory l.address l.i
