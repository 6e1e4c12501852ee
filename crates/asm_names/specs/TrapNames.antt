-- The names of causes by their numbers, and of the register at fault.
use Rattle.std.specs.Prelude.{ℕ, ◌-◌, true, nat_lt, if◌then◌else◌, List, Option, None, map}
use Rattle.base.specs.Fault.{number_of, cheri_number_of}
use Rattle.asm_names.specs.Registers.{register_name, or_else}
use Rattle.asm_names.specs.SpecialNames.{name_in, scr_name}
use Rattle.asm_names.specs.declared.trap_names.TheConstants.{EXCEPTIONS, INTERRUPTS, CHERI_CAUSES}

-- each cause as mcause holds it, with the bytes of its name; what a capability forbids; and what it is asked for there
abbrev pub exceptions : List (ℕ × List ℕ)
exceptions = map (λ c. (number_of c.0, c.1.now)) EXCEPTIONS

abbrev pub interrupts : List (ℕ × List ℕ)
interrupts = map (λ c. (c.0, c.1.now)) INTERRUPTS

abbrev pub cheri_causes : List (ℕ × List ℕ)
cheri_causes = map (λ c. (cheri_number_of c.0, c.2.now)) CHERI_CAUSES

abbrev pub cheri_asked : List (ℕ × List ℕ)
cheri_asked = map (λ c. (cheri_number_of c.0, c.1.now)) CHERI_CAUSES

unfoldable pub cause_name : ℕ → Option (List ℕ)
cause_name mcause = or_else (name_in exceptions mcause) (name_in interrupts mcause)

unfoldable pub cheri_cause_name : ℕ → Option (List ℕ)
cheri_cause_name number = name_in cheri_causes number

unfoldable pub cheri_asked_name : ℕ → Option (List ℕ)
cheri_asked_name number = name_in cheri_asked number

-- the register at fault: below 32 a capability register, from 32 on a special one
unfoldable pub register_at_fault : ℕ → Option (List ℕ)
register_at_fault number =
    if nat_lt number 32 then register_name true number else (if nat_lt number 64 then scr_name (number - 32) else None)
