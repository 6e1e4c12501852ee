use Rattle.std.proofs.Common.{arith}
use Rattle.std.proofs.lemmas.Grind.{common_steps}
use Rattle.asm_lines.proofs.PartLemmas.{parts_at, parts_none}
use Rattle.asm_lines.proofs.parts.Part.split.Goals as goal

pub returns-then-end-self-clause-parts : goal.returns-then-end-self-clause-parts
returns-then-end-self-clause-parts c = grind (arith, common_steps, parts_at)

pub returns-else-end-self-clause-parts : goal.returns-else-end-self-clause-parts
returns-else-end-self-clause-parts c = grind (arith, common_steps, parts_none)
