-- What a statement without a fault has besides its bytes: values that are known, and a word for each of its instructions.
use Rattle.std.specs.Prelude.{◌≡◌, ℕ, ◌<◌, true, ℤ, List, [], ◌∷◌, map, ◌^◌, Option, Some, None}
use Rattle.isa_rows.specs.Insn.{Fits}
use Rattle.asm_lines.specs.Number.{is_in_limits}
use Rattle.asm_lines.specs.Statement.{Statement, instruction, Instruction, row, load, capability_parts}
use Rattle.assembler.specs.Places.{Symbols}
use Rattle.assembler.specs.Values.{value_of, AskedValue, asked_by, asked_part}
use Rattle.image.specs.declared.cap_entry.CapEntry.{CapEntry}
use Rattle.assembler.specs.Bytes.{aimed}
use Rattle.assembler.specs.Capabilities.{capability_in, capability_at}

-- a value in the limits
abbrev pub IsKnown : Option ℤ → Type 0
IsKnown None = ⊥
IsKnown (Some value) = is_in_limits value ≡ true

-- each value of a statement is known
abbrev pub AreKnown : Symbols → ℕ → List AskedValue → Type 0
AreKnown symbols here [] = Unit {0}
AreKnown symbols here (a ∷ others) = IsKnown (value_of symbols here a.expression) × AreKnown symbols here others

abbrev pub IsValued : Symbols → ℕ → Statement → Type 0
IsValued symbols here s = AreKnown symbols here (asked_by s)

-- each instruction of a statement has a word: a row as it is aimed; what la and cla place, for every register
abbrev pub IsEncoded : Symbols → ℕ → Instruction → Type 0
IsEncoded symbols here (row i target) = Fits (aimed symbols here i target)
IsEncoded symbols here (load capability rd value) = rd < 32

-- the values of the operands of .cap are known
abbrev pub ArePartsKnown : Symbols → ℕ → Option (List ℕ) → Type 0
ArePartsKnown symbols here None = Unit {0}
ArePartsKnown symbols here (Some operands) = AreKnown symbols here (map (asked_part operands) capability_parts)

-- the place of a capability has 64 bits, and its permissions and its flag have 32
abbrev pub IsSmall : CapEntry → Type 0
IsSmall c = (c.place < 2 ^ 64) × (c.perms < 2 ^ 32) × (c.flag < 2 ^ 32)

abbrev pub HasSmallParts : Symbols → ℕ → Option (List ℕ) → Type 0
HasSmallParts symbols here None = Unit {0}
HasSmallParts symbols here (Some operands) = IsSmall (capability_at symbols here operands)

abbrev pub IsPutThere : Symbols → ℕ → Statement → Type 0
IsPutThere symbols here s = ArePartsKnown symbols here (capability_in s) × HasSmallParts symbols here (capability_in s)

abbrev pub HasWords : Symbols → ℕ → Statement → Type 0
HasWords symbols here (instruction i) = IsEncoded symbols here i
HasWords symbols here other = Unit {0}
