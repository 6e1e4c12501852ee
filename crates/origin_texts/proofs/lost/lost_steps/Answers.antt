use Rattle.std.proofs.Common.{◌++◌, ◌∙◌, ap, subst, sym}
use Rattle.std.specs.Prelude.{map, option_copied}
use Rattle.origin_texts.specs.Down.{AreSteps}
use Rattle.origin_texts.specs.Lost.{ending_steps, step_of}
use Rattle.origin_texts.proofs.Losses.{steps_are}
use Rattle.origin_texts.proofs.lost.lost_steps.Goals as goal

pub returns-clause-are : goal.returns-clause-are
returns-clause-are g c =
    let loss = c.in_ok-links.field-0 in
    subst (AreSteps c.args.past.now)
    (sym (c.in_ok-push_ending.ensures
    ∙ ap (λ steps. steps ++ ending_steps loss.ending) (c.in_ok-steps.ensures ∙ ap (map step_of) c.deref.ensures.value)))
    (steps_are c.args.past.now (option_copied c.args.replay) loss c.in_ok-links.ensures.is)
