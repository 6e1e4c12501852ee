-- What the numbers of the parser's answer lie between.
use Rattle.std.specs.Prelude.{ℤ, pos, neg_ℤ, ◌<ℤ◌, ◌<◌, ◌≤◌, ◌^◌, Option, Some, None, ◌≡◌, true}
use Rattle.base.specs.Ram.{most_pages}
use Rattle.asm_lines.specs.Statement.{is_in_bounds}
use Rattle.asm_lines.specs.declared.parsed.Data.{Data as ReadData}
use Rattle.asm_lines.specs.declared.parsed.Expression.{Expression as Written}
use Rattle.asm_lines.specs.declared.parsed.Instruction.TheVariants.{Row, Load}
use Rattle.asm_lines.specs.declared.parsed.Instruction.{Instruction as ReadInstruction}
use Rattle.asm_lines.specs.declared.parsed.Setting.TheVariants.{Pages, Mode, Entry}
use Rattle.asm_lines.specs.declared.parsed.Setting.{Setting as ReadSetting}
use Rattle.asm_lines.specs.declared.parsed.Statement.TheVariants as read
use Rattle.asm_lines.specs.declared.parsed.Statement.{Statement as Read}
use Rattle.asm_lines.specs.Seen.{seen_data}

-- how far an offset goes: a number in its limits, added or taken away
abbrev pub IsOffset : ℤ → Type 0
IsOffset n = (neg_ℤ (pos (2 ^ 64)) <ℤ n) × (n <ℤ pos (2 ^ 64))

abbrev pub HasOffset : Written → Type 0
HasOffset e = IsOffset e.offset

abbrev pub HasTargetOffset : Option Written → Type 0
HasTargetOffset (Some e) = HasOffset e
HasTargetOffset None = Unit {0}

-- what the numbers of a statement lie between
abbrev pub IsInstructionBounded : ReadInstruction → Type 0
IsInstructionBounded (Row i target) = HasTargetOffset target
IsInstructionBounded (Load capability rd value) = (rd < 32) × HasOffset value

abbrev pub IsSettingBounded : ReadSetting → Type 0
IsSettingBounded (Pages n) = n ≤ most_pages
IsSettingBounded (Mode m) = Unit {0}
IsSettingBounded (Entry e) = HasOffset e

abbrev pub IsDataBounded : ReadData → Type 0
IsDataBounded d = is_in_bounds (seen_data d) ≡ true

abbrev pub IsBounded : Read → Type 0
IsBounded (read.Instruction i) = IsInstructionBounded i
IsBounded (read.Setting s) = IsSettingBounded s
IsBounded (read.Origin n) = Unit {0}
IsBounded (read.Data d) = IsDataBounded d

abbrev pub IsBoundedIfAny : Option Read → Type 0
IsBoundedIfAny (Some s) = IsBounded s
IsBoundedIfAny None = Unit {0}
