use Rattle.std.proofs.Common.{◌∙◌}
use Rattle.assembler.proofs.AskedLemmas.{asked_values, asked_parts}
use Rattle.assembler.proofs.checks.data_fault.Goals as goal

pub returns-in-Values : goal.returns-in-Values
returns-in-Values c = λ page_count.
    rw c.in-Values.is
    (c.values_fault.ensures
    ∙ asked_values page_count c.args.labels.now c.args.here c.in-Values.size c.args.item.now.number c.args.item.now.text.now)

pub returns-in-Capability : goal.returns-in-Capability
returns-in-Capability c = λ page_count.
    rw c.in-Capability.is
    (c.parts_fault.ensures
    ∙ asked_parts page_count c.args.labels.now c.args.here c.args.item.now.number c.args.item.now.text.now)
