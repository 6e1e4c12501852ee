-- Addresses as commands write them: a number, a label, or a label with a number added to it or taken away from it.
use Rattle.std.specs.Prelude.{ℕ, ◌-◌, ◌^◌, pos, ℤ, ◌+ℤ◌, List, Option, Some, None, Result, Ok, Err}
use Rattle.std.specs.Option.{option_or}
use Rattle.asm_lines.specs.declared.fault.LineFault.{LineFault}
use Rattle.asm_lines.specs.Number.{Expression, expression_of}
use Rattle.asm_lines.specs.Operand.{ranged}
use Rattle.asm_lines.specs.Words.{read_number}
use Rattle.symbols.specs.Symbols.{Symbol, address_in, address_of}

-- so far from an address, where that is one of 64 bits
abbrev pub moved : ℤ → Option ℕ → Option ℕ
moved offset (Some address) = read_number (ranged (pos 0) (pos (2 ^ 64 - 1)) (Ok (pos address +ℤ offset)))
moved offset None = None

abbrev pub label_address : List Symbol → Option (List ℕ) → Option ℕ
label_address symbols (Some name) = address_of symbols name
label_address symbols None = None

abbrev pub beside_label : List Symbol → Result Expression LineFault → Option ℕ
beside_label symbols (Ok e) = moved e.offset (label_address symbols e.name)
beside_label symbols (Err fault) = None

abbrev pub address_at : List Symbol → List ℕ → Option ℕ
address_at symbols text = option_or (address_in symbols text) (beside_label symbols (expression_of text))
