use Rattle.std.proofs.Common.{◌∙◌, ap, subst}
use Rattle.reach_texts.specs.Asked.{first_that}
use Rattle.cherisim_c.specs.Questions.{IsNeverDone, members_up_to}
use Rattle.cherisim_c.specs.Reaching.{answer_of}
use Rattle.cherisim_c.proofs.answers.ask_up_to.Goals as goal

pub returns-in-Ok-clause-ok : goal.returns-in-Ok-clause-ok
returns-in-Ok-clause-ok c =
    rw c.in-Some.ensures.value
    (λ done. c.in-Ok.ensures.answer ∙ ap (λ s. answer_of (first_that c.args.may (members_up_to c.args.doors s))) c.deref.ensures)

pub returns-in-Ok-clause-law : goal.returns-in-Ok-clause-law
returns-in-Ok-clause-law c =
    rw c.in-Some.ensures.value
    (λ done no. subst (λ s. IsNeverDone c.args.doors c.args.may s) c.deref.ensures (c.in-Ok.ensures.law no))
