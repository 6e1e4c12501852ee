-- Steps for C while RAM has some bytes, or a place holds what it holds.
use Rattle.std.specs.Prelude.{ℕ, Bool, not, ◌&&◌, nat_lt, if◌then◌else◌, List, length, Option, None, Some, is_none, bytes_eq}
use Rattle.cap_bounds.specs.CapValue.{CapValue}
use Rattle.cap_rights.specs.Derivations.{equal_exact}
use Rattle.origins.specs.Places.{held}
use Rattle.origins.specs.declared.place.Place.{Place}
use Rattle.schedules.specs.Schedule.{is_halted}
use Rattle.steps.specs.State.{State}
use Rattle.tagged_memory.specs.Memory.{bytes_at, fill_fault}
use Rattle.cherisim_c.specs.declared.types.Sent.{Sent}

-- RAM has these bytes from an address on
abbrev pub has_bytes : ℕ → List ℕ → State → Bool
has_bytes address bytes s =
    is_none (fill_fault s.memory address (length bytes)) && bytes_eq (bytes_at s.memory address (length bytes)) bytes

-- One more step is done: some are left, the last sent nothing, the machine isn't halted, and RAM has the bytes.
abbrev pub goes_on : ℕ → Option ℕ → ℕ → List ℕ → State → Bool
goes_on left byte address bytes s = nat_lt 0 left && (is_none byte && (not (is_halted s) && has_bytes address bytes s))

-- the byte that C got, if one was sent
abbrev pub byte_of : Sent → Option ℕ
byte_of sent = if sent.sends then Some sent.byte else None

-- ---- steps while a place holds what it holds

abbrev pub holds : Place → CapValue → State → Bool
holds place v s = equal_exact v (held place s)

-- One more may be done: some are left, the last sent nothing, and the machine isn't halted.
abbrev pub may_step : ℕ → Option ℕ → State → Bool
may_step left byte s = nat_lt 0 left && (is_none byte && not (is_halted s))

-- It is, while the place holds the value.
abbrev pub goes_on_holding : ℕ → Option ℕ → Place → CapValue → State → Bool
goes_on_holding left byte place v s = may_step left byte s && holds place v s
