use Rattle.std.specs.Prelude.{◌≡◌, None, false, true}
use Rattle.reach.specs.declared.may.May.TheVariants.{Store, Load, Execute, Learn, Keep, Send, Halt, System, Timer, Hold}
use Rattle.reach_texts.specs.Asked.{first_that}
use Rattle.cherisim_c.specs.Questions.{IsNotDone}
use Rattle.cherisim_c.proofs.answers.what_may_not_be_done_is_not_done.Goals as goal

pub returns-clause-stretch : goal.returns-clause-stretch
returns-clause-stretch c = λ may events s xs are run.
    let laws = c.what_code_may_not_do_is_not_done.ensures in
    let learned = c.what_code_may_not_learn_is_not_learned.ensures in
    let kept = c.what_code_may_not_keep_is_not_kept.ensures.run in
    elim may as (λ m. first_that m xs ≡ None → IsNotDone false m events s) [
      | Store address count ↦ λ none. laws.store events s xs address count are run none
      | Load address count ↦ λ none. tt
      | Execute address count ↦ λ none. tt
      | Learn address count ↦ λ none t differs. learned events s t xs address count are run none differs
      | Keep address count ↦ λ none. kept events s xs address count are run none
      | Send ↦ λ none. laws.send events s xs are run none
      | Halt ↦ λ none. laws.halt events s xs are run none
      | System ↦ λ none. (laws.special events s xs are run none, laws.control_and_status events s xs are run none)
      | Timer ↦ λ none. laws.timer events s xs are run none
      | Hold otype ↦ λ none. tt
    ]

pub returns-clause-turn : goal.returns-clause-turn
returns-clause-turn c = λ may events s xs are run.
    let laws = c.what_code_may_not_do_is_not_done_through_doors.ensures in
    let learned = c.what_code_may_not_learn_is_not_learned_through_doors.ensures in
    let kept = c.what_code_may_not_keep_is_not_kept_through_doors.ensures.run in
    elim may as (λ m. first_that m xs ≡ None → IsNotDone true m events s) [
      | Store address count ↦ λ none. laws.store events s xs address count are run none
      | Load address count ↦ λ none. tt
      | Execute address count ↦ λ none. tt
      | Learn address count ↦ λ none t differs. learned events s t xs address count are run none differs
      | Keep address count ↦ λ none. kept events s xs address count are run none
      | Send ↦ λ none. laws.send events s xs are run none
      | Halt ↦ λ none. laws.halt events s xs are run none
      | System ↦ λ none. (laws.special events s xs are run none, laws.control_and_status events s xs are run none)
      | Timer ↦ λ none. laws.timer events s xs are run none
      | Hold otype ↦ λ none. tt
    ]
