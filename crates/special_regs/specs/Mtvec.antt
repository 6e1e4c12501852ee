-- mtvec, a view of MTCC's address whose low two bits are the mode (RISC-V privileged manual, mtvec: MODE 0 direct, 1 vectored).
use Rattle.std.specs.Prelude.{ℕ, ◌*◌, ◌/◌, ◌%◌, Bool, ◌==◌, if◌then◌else◌}

-- vectored: interrupts have entries of their own
abbrev pub is_vectored : ℕ → Bool
is_vectored address = address % 4 == 1

-- what mtvec reads of an address, and keeps of a number: the low two bits are 1 where they were, else 0
unfoldable pub mtvec_of : ℕ → ℕ
mtvec_of n = if is_vectored n then n else n / 4 * 4
