use Rattle.worked.proofs.Lending.{is-lent, loan-reached, in-a-turn, tries, none-keeps, none-lay, is-cleared}
use Rattle.worked.proofs.loan.the_borrower_tries_to_keep_its_loan.Goals as goal

pub returns-clause-lent : goal.returns-clause-lent
returns-clause-lent c = is-lent

pub returns-clause-reached : goal.returns-clause-reached
returns-clause-reached c = loan-reached

pub returns-clause-turn : goal.returns-clause-turn
returns-clause-turn c = in-a-turn

pub returns-clause-moved : goal.returns-clause-moved
returns-clause-moved c = tries.moved

pub returns-clause-trap : goal.returns-clause-trap
returns-clause-trap c = tries.trap

pub returns-clause-cause : goal.returns-clause-cause
returns-clause-cause c = tries.cause

pub returns-clause-none_keeps : goal.returns-clause-none_keeps
returns-clause-none_keeps c = none-keeps

pub returns-clause-none_lay : goal.returns-clause-none_lay
returns-clause-none_lay c = none-lay

pub returns-clause-cleared : goal.returns-clause-cleared
returns-clause-cleared c = is-cleared
