use Rattle.worked.proofs.Confining.{confined}
use Rattle.worked.proofs.Counting.{begins-again, counts, plain, stretch}
use Rattle.worked.proofs.counter.the_counter_is_confined.Goals as goal

pub returns-clause-confined : goal.returns-clause-confined
returns-clause-confined c = confined

pub returns-clause-plain : goal.returns-clause-plain
returns-clause-plain c = plain

pub returns-clause-stretch : goal.returns-clause-stretch
returns-clause-stretch c = stretch

pub returns-clause-counts : goal.returns-clause-counts
returns-clause-counts c = counts

pub returns-clause-goes_round : goal.returns-clause-goes_round
returns-clause-goes_round c = begins-again
