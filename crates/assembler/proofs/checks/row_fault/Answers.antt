use Rattle.std.proofs.Common.{ap, ◌∙◌}
use Rattle.std.specs.Prelude.{pos, ◌-ℤ◌}
use Rattle.asm_lines.specs.Seen.{seen_expression}
use Rattle.asm_lines.specs.Number.{is_in_limits}
use Rattle.assembler.specs.Values.{value_of, reach_of, is_reached}
use Rattle.assembler.specs.Checks.{value_fault}
use Rattle.assembler.proofs.AskedLemmas.{asked_target}
use Rattle.assembler.proofs.checks.row_fault.Goals as goal

pub returns-in-Some : goal.returns-in-Some
returns-in-Some c =
    let e = seen_expression c.in-Some.target in
    let value = value_of c.args.labels.now c.args.here e in
    λ page_count.
    rw c.in-Some.is
    (c.target_fault.ensures
    ∙ ap (λ r. value_fault is_in_limits (λ v. is_reached r (v -ℤ pos c.args.here)) value)
    (c.reach_of.ensures.value ∙ ap reach_of c.format.ensures)
    ∙ asked_target page_count c.args.labels.now c.args.here c.args.insn.now e)
