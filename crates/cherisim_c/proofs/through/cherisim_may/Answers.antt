use Rattle.cherisim_c.proofs.Reaches.{of_asked}
use Rattle.cherisim_c.proofs.through.cherisim_may.Goals as goal

pub returns-in-Some-clause-law : goal.returns-in-Some-clause-law
returns-in-Some-clause-law c =
    let asked = c.ask_up_to in
    of_asked c.args.machine.now.machine asked.result asked.new.answer c.in-Some.may c.args.question.now c.may_of.result c.may_of.ensures
    c.in-Some.is asked.ensures.law
