-- The root capability, from which all others derive: every permission, over the whole address space.
use Rattle.std.specs.Prelude.{ℕ, ◌^◌, Bool}
use Rattle.cap_bounds.specs.Record.{Record, record_with}
use Rattle.base.specs.ObjectType.{unsealed_type}
use Rattle.cap_bounds.specs.CapValue.{CapValue, Cap}

-- root's record with an address and a flag
abbrev pub root_record : ℕ → Bool → Record
root_record address flag = record_with 0 (2 ^ 64) address 0xffff flag unsealed_type

abbrev pub root : ℕ → Bool → CapValue
root address flag = Cap (root_record address flag)
