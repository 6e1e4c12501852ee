-- What parts and operands that are lent say.
use Rattle.std.specs.Prelude.{◌+◌, ◌<◌, ◌^◌, map, option_map, length}
use Rattle.asm_lines.specs.declared.forms.Operand.{Operand as Named}
use Rattle.asm_lines.specs.declared.forms.Form.{Form as Held}
use Rattle.asm_lines.specs.declared.forms.Form.TheVariants.{Slots, Number, Listed}
use Rattle.asm_lines.specs.declared.parts.Part.{Part as Lent}
use Rattle.asm_lines.specs.declared.parts.Parts.{Parts as AllLent}
use Rattle.asm_lines.specs.Forms.{Form, Operand, form, operand, slot_operand, a_number}
use Rattle.asm_lines.specs.Parts.{Part, Parts, part}

abbrev pub seen_part : Lent → Part
seen_part p = part p.before p.text.now

abbrev pub seen_parts : AllLent → Parts
seen_parts p = record {
  label = option_map seen_part p.label;
  mnemonic = seen_part p.mnemonic;
  operands = seen_part p.operands;
}

-- the bytes of the line up to the end of a part can be counted
abbrev pub HasRoom : Lent → Type 0
HasRoom p = p.before + length p.text.now < 2 ^ 64

abbrev pub seen_operand : Named → Operand
seen_operand o = operand o.word.now o.written

abbrev pub seen_form : Held → Form
seen_form (Slots slots) = form (map slot_operand slots.now)
seen_form (Number r) = a_number r
seen_form (Listed operands repeats) = record { operands = map seen_operand operands.now; repeats = repeats }

abbrev pub seen_split : Named × Held → Operand × Form
seen_split p = (seen_operand p.0, seen_form p.1)
