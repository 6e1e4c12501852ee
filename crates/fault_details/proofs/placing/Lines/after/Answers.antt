use Rattle.std.proofs.Common.{◌≡◌, ◌+◌, ◌-◌, ap, sym, ◌∙◌, arith}
use Rattle.fault_details.specs.Detail.{after_lines}
use Rattle.fault_details.proofs.SkippedLines.{after_lines-after_lines}
use Rattle.fault_details.proofs.placing.Lines.after.Goals as goal

pub returns-else-count-self : goal.returns-else-count-self
returns-else-count-self c =
    let here = c.self.inside in
    let count = c.args.count in
    let left = count - here.skipped in
    let sum : here.skipped + left ≡ count = omega arith in
    rw (sym c.self.view_is)
    (c.after_lines-else-count-self.ensures ∙ ap (after_lines left) here.follows ∙ after_lines-after_lines here.skipped left here.text.now
    ∙ ap (λ n. after_lines n here.text.now) sum)
