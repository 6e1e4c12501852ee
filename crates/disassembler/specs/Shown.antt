-- The text of a word: its row's name in the mode, and its operands (unprivileged manual, assembly listings).
use Rattle.std.specs.Prelude.{ℕ, ◌-◌, ◌/◌, ◌%◌, ◌^◌, Bool, true, false, nat_lt, if◌then◌else◌, List, [], ◌∷◌, ◌++◌, Option, Some, None}
use Rattle.std.specs.Prelude.{codes, decimal}
use Rattle.std.specs.Fmt.{signed_decimal}
use Rattle.std.specs.Int.{w64, cast_signed}
use Rattle.std.specs.List.{join_by}
use Rattle.isa_rows.specs.declared.operands.Insn.{Insn}
use Rattle.isa_rows.specs.Decoded.{insn_of}
use Rattle.isa_rows.specs.declared.slots.Naming.{Naming}
use Rattle.isa_rows.specs.declared.slots.Naming.TheVariants.{Integer, Capability, ByMode}
use Rattle.isa_rows.specs.declared.slots.Slot.{Slot}
use Rattle.isa_rows.specs.declared.slots.Slot.TheVariants.{Rd, Rs1, Rs2, Signed, Unsigned, Upper, Small, Csr, Special, Address, Authority}
use Rattle.isa_rows.specs.declared.slots.Slot.TheVariants.{Target}
use Rattle.asm_names.specs.Mnemonic.{mnemonic}
use Rattle.asm_names.specs.Registers.{register_name}
use Rattle.asm_names.specs.SpecialNames.{csr_name, scr_name}
use Rattle.asm_names.specs.Slots.{slots_of}
use Rattle.texts.specs.Hex.{hex_of, short_hex}

-- whether a register is shown as a capability register in a mode
abbrev pub is_capability : Bool → Naming → Bool
is_capability mode Integer = false
is_capability mode Capability = true
is_capability mode ByMode = mode

-- a name, or another text where there is none
abbrev pub name_or : List ℕ → Option (List ℕ) → List ℕ
name_or other None = other
name_or other (Some name) = name

-- a register below 32
abbrev pub shown_register : Bool → Naming → ℕ → List ℕ
shown_register mode naming n = name_or [] (register_name (is_capability mode naming) n)

-- an immediate as a signed number
abbrev pub shown_signed : ℕ → List ℕ
shown_signed imm = signed_decimal (cast_signed w64 imm)

-- the distance to a target, with its sign
abbrev pub shown_target : ℕ → List ℕ
shown_target imm = if nat_lt imm (2 ^ 63) then codes ".+" ++ decimal imm else codes ".-" ++ decimal (2 ^ 64 - imm)

-- one operand
unfoldable pub shown_slot : Bool → Insn → Slot → List ℕ
shown_slot mode i (Rd naming) = shown_register mode naming i.rd
shown_slot mode i (Rs1 naming) = shown_register mode naming i.rs1
shown_slot mode i (Rs2 naming) = shown_register mode naming i.rs2
shown_slot mode i Signed = shown_signed i.imm
shown_slot mode i (Unsigned bits) = decimal i.imm
shown_slot mode i Upper = short_hex (i.imm / 2 ^ 12 % 2 ^ 20)
shown_slot mode i Small = decimal i.rs1
shown_slot mode i Csr = name_or (short_hex i.imm) (csr_name i.imm)
shown_slot mode i Special = name_or (decimal i.rs2) (scr_name i.rs2)
shown_slot mode i (Address naming) = shown_signed i.imm ++ codes "(" ++ shown_register mode naming i.rs1 ++ codes ")"
shown_slot mode i (Authority naming) = codes "(" ++ shown_register mode naming i.rs1 ++ codes ")"
shown_slot mode i (Target bits) = shown_target i.imm

-- the operands, after a space and with a comma and a space between
abbrev pub shown_operands : Bool → Insn → List Slot → List ℕ
shown_operands mode i [] = []
shown_operands mode i (s ∷ ss) = codes " " ++ join_by (shown_slot mode i) (codes ", ") (s ∷ ss)

abbrev pub shown_insn : Bool → Insn → List ℕ
shown_insn mode i = mnemonic mode i.row ++ shown_operands mode i (slots_of i.row)

abbrev pub shown_found : Bool → ℕ → Option Insn → List ℕ
shown_found mode word (Some i) = shown_insn mode i
shown_found mode word None = codes ".word 0x" ++ hex_of 8 word

-- a word in a mode (true: capability mode); one that is no row is shown as a number
abbrev pub shown_word : Bool → ℕ → List ℕ
shown_word mode word = shown_found mode word (insn_of word)

-- a line of a listing for a byte that is no part of a word
abbrev pub byte_line : ℕ → ℕ → List ℕ
byte_line address byte = hex_of 16 address ++ codes " .byte 0x" ++ hex_of 2 byte ++ codes "\n"

-- a line of a listing: an address, the word there, and its text in a mode
abbrev pub word_line : Bool → ℕ → ℕ → List ℕ
word_line mode address word = hex_of 16 address ++ codes " " ++ hex_of 8 word ++ codes " " ++ shown_word mode word ++ codes "\n"
