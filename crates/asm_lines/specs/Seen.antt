-- What the parser's own values, whose texts are lent, say.
use Rattle.std.specs.Borrow.{Bor}
use Rattle.std.specs.Prelude.{ℕ, ℤ, List, Option, Some, None, option_map, Result, Ok, Err}
use Rattle.asm_lines.specs.Number.{Expression, expression}
use Rattle.asm_lines.specs.Operand.{Draft, wrapped}
use Rattle.asm_lines.specs.Statement.{Pattern, Said, Statement, instruction, setting, origin, contents, Instruction, row, load}
use Rattle.asm_lines.specs.Statement.{Setting, pages, mode, entry, Data, item}
use Rattle.asm_lines.specs.declared.fault.LineFault.TheVariants.{A2}
use Rattle.asm_lines.specs.declared.fault.LineFault.{LineFault}
use Rattle.asm_lines.specs.declared.operand.Draft.{Draft as Filled}
use Rattle.asm_lines.specs.declared.parsed.Data.{Data as ReadData}
use Rattle.asm_lines.specs.declared.parsed.Expression.{Expression as Written}
use Rattle.asm_lines.specs.declared.parsed.Instruction.TheVariants.{Row, Load}
use Rattle.asm_lines.specs.declared.parsed.Instruction.{Instruction as ReadInstruction}
use Rattle.asm_lines.specs.declared.parsed.Parsed.{Parsed}
use Rattle.asm_lines.specs.declared.parsed.Setting.TheVariants.{Pages, Mode, Entry}
use Rattle.asm_lines.specs.declared.parsed.Setting.{Setting as ReadSetting}
use Rattle.asm_lines.specs.declared.parsed.Statement.TheVariants as read
use Rattle.asm_lines.specs.declared.parsed.Statement.{Statement as Read}
use Rattle.asm_lines.specs.declared.pattern.Pattern.{Pattern as Held}
use Rattle.asm_lines.specs.declared.statement.Said.{Said as Answer}
use Rattle.asm_lines.specs.Line.{Line}

-- what the parser's answer, whose texts are lent, says
abbrev pub seen_expression : Written → Expression
seen_expression e = expression (option_map (λ name. name.now) e.name) e.offset

abbrev pub seen_result : Result Written LineFault → Result Expression LineFault
seen_result (Ok e) = Ok (seen_expression e)
seen_result (Err fault) = Err fault

abbrev pub seen_data : ReadData → Data
seen_data d = item d.directive d.number d.text.now

abbrev pub seen_instruction : ReadInstruction → Instruction
seen_instruction (Row i target) = row i (option_map seen_expression target)
seen_instruction (Load capability rd value) = load capability rd (seen_expression value)

abbrev pub seen_setting : ReadSetting → Setting
seen_setting (Pages n) = pages n
seen_setting (Mode m) = mode m
seen_setting (Entry e) = entry (seen_expression e)

abbrev pub seen_statement : Read → Statement
seen_statement (read.Instruction i) = instruction (seen_instruction i)
seen_statement (read.Setting s) = setting (seen_setting s)
seen_statement (read.Origin n) = origin n
seen_statement (read.Data d) = contents (seen_data d)

abbrev pub seen_line : Parsed → Line
seen_line p = record { label = option_map (λ name. name.now) p.label; statement = option_map seen_statement p.statement; fault = p.fault }

abbrev pub seen_draft : Filled → Draft
seen_draft d = record { insn = d.insn; target = option_map seen_expression d.target }

abbrev pub seen_filled : Result Filled LineFault → Result Draft LineFault
seen_filled (Ok d) = Ok (seen_draft d)
seen_filled (Err fault) = Err fault

-- a register, or A2
abbrev pub or_A2 : Option ℕ → Result ℕ LineFault
or_A2 (Some n) = Ok n
or_A2 None = Err A2

-- a number modulo 2 ^ 64, or what is wrong with it
abbrev pub wrapped_or : Result ℤ LineFault → Result ℕ LineFault
wrapped_or (Ok n) = Ok (wrapped n)
wrapped_or (Err fault) = Err fault

-- the text that is left, if there is one
abbrev pub seen_rest : Option (Bor (List ℕ)) → Option (List ℕ)
seen_rest rest = option_map (λ text. text.now) rest

abbrev pub seen_pattern : Held → Pattern
seen_pattern p = record { insn = p.insn; slots = p.slots.now }

abbrev pub seen_said : Answer → Said
seen_said s = record { statement = option_map seen_statement s.statement; fault = s.fault }
