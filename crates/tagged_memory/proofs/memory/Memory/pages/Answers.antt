use Rattle.std.proofs.Common.{subst, rules}
use Rattle.tagged_memory.specs.Memory.{IsMemory}
use Rattle.tagged_memory.proofs.Sound.{sound}
use Rattle.tagged_memory.proofs.memory.Memory.pages.Goals as goal

pub returns-clause-sound : goal.returns-clause-sound
returns-clause-sound c = subst IsMemory c.self.view_is (sound _ _ c.self.invariant)

pub returns-clause-value : goal.returns-clause-value
returns-clause-value c = search rules
