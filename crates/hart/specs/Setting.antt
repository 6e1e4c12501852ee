-- What is set from outside between two events, as a debugger sets it: nothing is counted, and no authority is asked.
use Rattle.std.specs.Prelude.{ℕ, ◌==◌, if◌then◌else◌, List}
use Rattle.base.specs.declared.registers.scr.TheConstants.{PCC}
use Rattle.cap_bounds.specs.CapValue.{CapValue, word_of, is_tagged}
use Rattle.tagged_memory.specs.Memory.{data_written, capability_written}
use Rattle.special_regs.specs.Scrs.{Scrs}
use Rattle.special_regs.specs.Writes.{csrs_written, views_written, scr_written}
use Rattle.steps.specs.State.{State}

-- a special capability register is replaced, PCC too
abbrev pub scrs_set : ℕ → CapValue → Scrs → Scrs
scrs_set n v s = if n == PCC then record s { pcc = v } else scr_written n v s

abbrev pub scr_set : ℕ → CapValue → State → State
scr_set n v s = record s { scrs = scrs_set n v s.scrs }

-- a control and status register is written, as an instruction writes it
abbrev pub csr_set : ℕ → ℕ → State → State
csr_set n value s = record s { scrs = views_written n value s.scrs; csrs = csrs_written n value s.csrs }

-- bytes of RAM are written, and the granules that they touch lose their tags
abbrev pub bytes_set : ℕ → List ℕ → State → State
bytes_set address bytes s = record s { memory = data_written s.memory address bytes }

-- a granule of RAM is written, with the value's tag
abbrev pub cap_set : ℕ → CapValue → State → State
cap_set address v s = record s { memory = capability_written s.memory address (word_of v) (is_tagged v) }
