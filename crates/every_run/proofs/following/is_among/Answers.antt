use Rattle.std.proofs.Common.{sym, ap, ◌∙◌, inr}
use Rattle.cap_bounds.specs.CapValue.{is_tagged}
use Rattle.every_run.proofs.Handlers.{not-true}
use Rattle.every_run.proofs.following.is_among.Goals as goal

pub returns-else-is_unknown : goal.returns-else-is_unknown
returns-else-is_unknown g c = λ untagged.
    inr (sym (ap is_tagged c.reg.ensures.value) ∙ (sym c.tag.ensures ∙ not-true c.tag.result untagged))
