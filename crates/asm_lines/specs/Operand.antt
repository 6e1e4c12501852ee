-- Operands as they are written, slot by slot, and what they make of an instruction.
use Rattle.std.specs.Prelude.{ℕ, ◌*◌, ◌-◌, ◌%◌, ◌^◌, Bool, true, false, not, ◌&&◌, ◌||◌, ◌==◌, nat_lt, if◌then◌else◌, ℤ, pos, negsuc}
use Rattle.std.specs.Prelude.{int_lt, List, [], ◌∷◌, length, take, slice_index, Option, Some, None, Result, Ok, Err}
use Rattle.std.specs.List.{prefix_len, before_first, after_first}
use Rattle.isa_rows.specs.declared.operands.Insn.{Insn}
use Rattle.isa_rows.specs.Insn.{sign_extended}
use Rattle.isa_rows.specs.declared.slots.Slot.{Slot}
use Rattle.isa_rows.specs.declared.slots.Slot.TheVariants.{Rd, Rs1, Rs2, Signed, Unsigned, Upper, Small, Csr, Special, Address, Authority}
use Rattle.isa_rows.specs.declared.slots.Slot.TheVariants.{Target}
use Rattle.asm_names.specs.Registers.{register_named}
use Rattle.asm_names.specs.SpecialNames.{csr_named, scr_named}
use Rattle.asm_lines.specs.declared.fault.LineFault.{LineFault}
use Rattle.asm_lines.specs.declared.fault.LineFault.TheVariants.{A1, A2, A3, A8, A9}
use Rattle.asm_lines.specs.declared.ranges.Range.{Range}
use Rattle.asm_lines.specs.Ranges.{natural, signed, slot_range}
use Rattle.asm_lines.specs.Text.{trimmed}
use Rattle.asm_lines.specs.Number.{Expression, number_of, expression_of}

-- an instruction that is being written, and its target if it has one
pub record Draft : Type 0 where
  pub insn : Insn
  pub target : Option Expression

-- a whole number modulo 2 ^ 64
abbrev pub wrapped : ℤ → ℕ
wrapped (pos n) = n % 2 ^ 64
wrapped (negsuc n) = 2 ^ 64 - 1 - n % 2 ^ 64

-- a number between two, both included, or A3
abbrev pub ranged : ℤ → ℤ → Result ℤ LineFault → Result ℤ LineFault
ranged low high (Ok n) = if int_lt n low || int_lt high n then Err A3 else Ok n
ranged low high (Err fault) = Err fault

-- a number in a range, or A3
abbrev pub within : Range → Result ℤ LineFault → Result ℤ LineFault
within numbers r = ranged numbers.least numbers.most r

-- a natural number of at most so much, and a signed number of 12 bits
abbrev pub up_to : ℕ → Result ℤ LineFault → Result ℤ LineFault
up_to most r = within (natural most) r

abbrev pub signed_12 : Result ℤ LineFault → Result ℤ LineFault
signed_12 r = within signed r

-- the draft with a part of its instruction set, where the part could be read
abbrev pub with_rd : Draft → Option ℕ → Result Draft LineFault
with_rd d (Some n) = Ok (record d { insn = record d.insn { rd = n } })
with_rd d None = Err A2

abbrev pub with_rs1 : Draft → Option ℕ → Result Draft LineFault
with_rs1 d (Some n) = Ok (record d { insn = record d.insn { rs1 = n } })
with_rs1 d None = Err A2

abbrev pub with_rs2 : Draft → Option ℕ → Result Draft LineFault
with_rs2 d (Some n) = Ok (record d { insn = record d.insn { rs2 = n } })
with_rs2 d None = Err A2

abbrev pub with_imm : Draft → Result ℤ LineFault → Result Draft LineFault
with_imm d (Ok n) = Ok (record d { insn = record d.insn { imm = wrapped n } })
with_imm d (Err fault) = Err fault

abbrev pub with_upper : Draft → Result ℤ LineFault → Result Draft LineFault
with_upper d (Ok n) = Ok (record d { insn = record d.insn { imm = sign_extended 32 (wrapped n * 2 ^ 12) } })
with_upper d (Err fault) = Err fault

abbrev pub with_small : Draft → Result ℤ LineFault → Result Draft LineFault
with_small d (Ok n) = Ok (record d { insn = record d.insn { rs1 = wrapped n } })
with_small d (Err fault) = Err fault

abbrev pub with_special : Draft → Result ℤ LineFault → Result Draft LineFault
with_special d (Ok n) = Ok (record d { insn = record d.insn { rs2 = wrapped n } })
with_special d (Err fault) = Err fault

abbrev pub with_target : Draft → Result Expression LineFault → Result Draft LineFault
with_target d (Ok e) = Ok (record d { target = Some e })
with_target d (Err fault) = Err fault

-- a register that has a name, or else a number
abbrev pub named_or : Option ℕ → Result ℤ LineFault → Result ℤ LineFault
named_or (Some n) r = Ok (pos n)
named_or None r = r

-- what stands before the '(' and, where the text ends with ')', what stands between
abbrev pub before_bracket : List ℕ → List ℕ
before_bracket text = trimmed (before_first (λ b. b == 40) text)

abbrev pub in_brackets : List ℕ → List ℕ
in_brackets text = trimmed (take (length (after_first (λ b. b == 40) text) - 1) (after_first (λ b. b == 40) text))

-- the text has a '(' and ends with ')'
abbrev pub has_brackets : List ℕ → Bool
has_brackets text =
    nat_lt (prefix_len (λ b. not (b == 40)) text) (length text) && (slice_index text (length text - 1) == 41)

-- the number before a bracket: nothing means 0
abbrev pub displacement : List ℕ → Result ℤ LineFault
displacement [] = Ok (pos 0)
displacement (b ∷ bs) = number_of (b ∷ bs)

-- a register and a signed number of 12 bits; what is no operand comes before what is out of range
abbrev pub with_address : Draft → Option ℕ → Result ℤ LineFault → Result Draft LineFault
with_address d (Some n) (Ok imm) = Ok (record d { insn = record d.insn { rs1 = n; imm = wrapped imm } })
with_address d (Some n) (Err fault) = Err fault
with_address d None r = Err A2

-- `imm(rs1)` and `(rs1)`
abbrev pub filled_address : List ℕ → Draft → Result Draft LineFault
filled_address text d =
    if has_brackets text then with_address d (register_named (in_brackets text))
    (signed_12 (displacement (before_bracket text))) else Err A2

abbrev pub filled_authority : List ℕ → Draft → Result Draft LineFault
filled_authority text d =
    if has_brackets text && (length (before_bracket text) == 0) then with_rs1 d (register_named (in_brackets text)) else Err A2

-- a number of a row's operand
abbrev pub slot_number : Slot → List ℕ → Result ℤ LineFault
slot_number s text = within (slot_range s) (number_of text)

-- the draft with one operand more, or what is wrong with the operand
unfoldable pub filled_slot : Slot → List ℕ → Draft → Result Draft LineFault
filled_slot (Rd naming) text d = with_rd d (register_named text)
filled_slot (Rs1 naming) text d = with_rs1 d (register_named text)
filled_slot (Rs2 naming) text d = with_rs2 d (register_named text)
filled_slot Signed text d = with_imm d (slot_number Signed text)
filled_slot (Unsigned bits) text d = with_imm d (slot_number (Unsigned bits) text)
filled_slot Upper text d = with_upper d (slot_number Upper text)
filled_slot Small text d = with_small d (slot_number Small text)
filled_slot Csr text d = with_imm d (named_or (csr_named text) (slot_number Csr text))
filled_slot Special text d = with_special d (named_or (scr_named text) (slot_number Special text))
filled_slot (Address naming) text d = filled_address text d
filled_slot (Authority naming) text d = filled_authority text d
filled_slot (Target bits) text d = with_target d (expression_of text)

-- of two faults of operands A2 is told before A3, else the first
abbrev pub is_A2 : Option LineFault → Bool
is_A2 (Some A1) = false
is_A2 (Some A2) = true
is_A2 (Some A3) = false
is_A2 (Some A8) = false
is_A2 (Some A9) = false
is_A2 None = false

abbrev pub told_fault : Option LineFault → Option LineFault → Option LineFault
told_fault None later = later
told_fault (Some fault) later = if is_A2 later then later else Some fault

-- what could be read stands in the draft, what could not leaves it as it was
abbrev pub draft_after : Draft → Result Draft LineFault → Draft
draft_after d (Ok next) = next
draft_after d (Err fault) = d

abbrev pub fault_of : {A : Type 0} → Result A LineFault → Option LineFault
fault_of (Ok a) = None
fault_of (Err fault) = Some fault

-- the draft with operands for all its slots; other than one operand for each slot is A2
abbrev pub filled_draft : List Slot → List (List ℕ) → Draft → Draft
filled_draft [] pieces d = d
filled_draft (s ∷ ss) [] d = d
filled_draft (s ∷ ss) (p ∷ ps) d = filled_draft ss ps (draft_after d (filled_slot s p d))

abbrev pub filled_fault : List Slot → List (List ℕ) → Draft → Option LineFault
filled_fault [] [] d = None
filled_fault [] (p ∷ ps) d = Some A2
filled_fault (s ∷ ss) [] d = Some A2
filled_fault (s ∷ ss) (p ∷ ps) d = told_fault (fault_of (filled_slot s p d)) (filled_fault ss ps (draft_after d (filled_slot s p d)))
