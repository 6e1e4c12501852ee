-- One line of each kind of register, by its number.
use Rattle.std.specs.Prelude.{ℕ, Bool, true, not, ◌&&◌, nat_lt, List, [], ◌++◌, None, codes, decimal}
use Rattle.steps.specs.State.{State}
use Rattle.debug_commands.specs.declared.command.Events.{Events}
use Rattle.debug_commands.specs.declared.command.Events.TheVariants.{Steps, Ticks, Byte, Until, Go, Changed}
use Rattle.registers.specs.Registers.{register}
use Rattle.asm_names.specs.Registers.{register_name}
use Rattle.disassembler.specs.Shown.{name_or}
use Rattle.explain.specs.ValueText.{value_line}
use Rattle.debugger.specs.Stepping.{is_at_end, most_sent}
use Rattle.debugger.specs.Stops.{Ends, is_end}
use Rattle.debugger.specs.Reply.{shown_sent}

abbrev pub register_line : State → ℕ → List ℕ
register_line s n = value_line (name_or [] (register_name true n)) (register s.registers n)

-- so many events and what was sent
abbrev pub given_part : ℕ → List ℕ → List ℕ
given_part count bytes = codes "events " ++ decimal count ++ codes " out " ++ shown_sent bytes

-- whether one more step is given without a schedule
abbrev pub goes_on : Ends → ℕ → ℕ → State → Bool
goes_on e left room s = nat_lt 0 left && (not (is_at_end None room s) && not (is_end e s))

-- the most bytes that a command's events send
abbrev pub most_of : Events → ℕ
most_of (Steps n) = n
most_of (Ticks n) = n
most_of (Byte b) = 1
most_of (Until stop n) = most_sent n
most_of (Go n) = most_sent n
most_of (Changed place n) = n
