use Rattle.steps.specs.declared.event.Event.TheVariants.{Step}
use Rattle.doors.specs.Doors.{IsReachableThroughDoors}
use Rattle.doors.specs.Lent.{IsLeftBehind, lay, kept}
use Rattle.worked.specs.Loan.{borrower, cleared, loan, move, trapped}
use Rattle.worked.proofs.loan.the_loan_is_gone.Goals as goal

pub returns : goal.returns
returns c = λ reachable.
    let tries = c.the_borrower_tries_to_keep_its_loan.ensures in
    let left : IsLeftBehind (IsReachableThroughDoors borrower) borrower.memory trapped.memory loan =
    c.cleared_states_reach_what_was_left_behind.ensures.ending move borrower cleared Step tries.turn loan tries.lent tries.cleared
    reachable in
    elim left [
      | lay granule here before ↦ tries.none_lay granule before
      | kept granule here source member opens ↦ tries.none_keeps granule source member opens
    ]
