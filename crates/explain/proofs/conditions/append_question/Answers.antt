use Rattle.explain.specs.WhyText.{question_text}
use Rattle.explain.proofs.conditions.append_question.Goals as goal

pub returns-in-RamOrDevice : goal.returns-in-RamOrDevice
unfolding question_text
returns-in-RamOrDevice g c = rw c.in-RamOrDevice.is c.append_at-in-RamOrDevice.ensures

pub returns-in-Instruction : goal.returns-in-Instruction
unfolding question_text
returns-in-Instruction g c = rw c.in-Instruction.is c.append-in-Instruction.ensures.bytes

pub returns-in-SystemRegister : goal.returns-in-SystemRegister
unfolding question_text
returns-in-SystemRegister g c = rw c.in-SystemRegister.is c.append-in-SystemRegister.ensures.bytes
