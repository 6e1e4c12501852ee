use Rattle.origins.proofs.Last.{last-found, last-none}
use Rattle.origins.proofs.laws.the_last_is_found.Goals as goal

pub returns-clause-found : goal.returns-clause-found
returns-clause-found c = last-found

pub returns-clause-none : goal.returns-clause-none
returns-clause-none c = last-none
