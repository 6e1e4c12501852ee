use Rattle.std.proofs.Common.{sym, ◌∙◌}
use Rattle.asm_lines.specs.Seen.{seen_line}
use Rattle.assembler.specs.FaultLaws.{line_fault-by}
use Rattle.assembler.proofs.builder.Builder.line_fault.Goals as goal

pub returns : goal.returns
returns c = c.fault_by.ensures ∙ sym (line_fault-by c.args.labels.now c.args.self.now (seen_line c.args.line.now))
