use Rattle.std.proofs.Common.{ap, not, ◌∙◌}
use Rattle.cap_bounds.specs.CapValue.{is_tagged}
use Rattle.steps.specs.declared.event.Event.TheVariants.{Step}
use Rattle.origins.specs.Places.{held}
use Rattle.origins.specs.Search.{lost_at}
use Rattle.origins.proofs.Lost.{lost-as}
use Rattle.origins.proofs.search.lose_step.Goals as goal

pub returns-clause-made : goal.returns-clause-made
returns-clause-made g c =
    let s = c.args.machine.now in
    c.if_lost.ensures
    ∙ lost-as c.args.place c.step_made-made.result Step s (not c.is_tagged-gone.result) c.had_tag-had.result
    (ap not (c.is_tagged-gone.ensures ∙ ap (λ later. is_tagged (held c.args.place later)) c.apply.ensures.state))
    c.had_tag-had.ensures
    ∙ ap (λ o. lost_at c.args.place o Step s) c.step_made-made.ensures.value
