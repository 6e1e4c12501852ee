use Rattle.std.proofs.Common.{◌∙◌}
use Rattle.asm_lines.specs.Seen.{seen_expression}
use Rattle.assembler.proofs.AskedLemmas.{asked_load}
use Rattle.assembler.proofs.checks.instruction_fault.Goals as goal

pub returns-in-Load : goal.returns-in-Load
returns-in-Load c = λ page_count.
    rw c.in-Load.is
    (c.load_fault.ensures
    ∙ asked_load page_count c.args.labels.now c.args.here c.in-Load.capability c.in-Load.rd (seen_expression c.in-Load.value))
