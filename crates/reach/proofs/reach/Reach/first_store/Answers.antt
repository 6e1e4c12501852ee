use Rattle.reach.proofs.reach.Reach.first_store.Goals as goal

pub returns-clause-none : goal.returns-clause-none
returns-clause-none g c = rw (← c.members.ensures) c.first.ensures.none
