-- Sections that are being filled.
use Rattle.assembler.specs.Faults.{Assembled, closed, empty_at}
use Rattle.std.specs.Prelude.{ℕ, ◌+◌, Bool, true, ◌&&◌, nat_lt, length}
use Rattle.image.specs.Image.{Section}

-- some byte from a place to an end lies in a section
abbrev pub meets : ℕ → ℕ → Section → Bool
meets from to s = nat_lt from (s.address + length s.bytes) && nat_lt s.address to

-- a section begins
abbrev pub begun_at : ℕ → Assembled → Assembled
begun_at address s = record s { begun = true; done = closed s.done s.current; current = empty_at address }
