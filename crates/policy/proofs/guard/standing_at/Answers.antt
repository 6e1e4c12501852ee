use Rattle.policy.specs.Terms.{terms}
use Rattle.policy.proofs.guard.standing_at.Goals as goal

pub returns-then-each_stays_away : goal.returns-then-each_stays_away
returns-then-each_stays_away c = λ s hold same. (
  hold,
  same,
  record {
    guard = terms c.in-Some.guard.now;
    there = c.in-Some.ensures.there;
    applied = c.in-Some.ensures.applied;
    away = c.each_stays_away.ensures c.if-each_stays_away.true;
  },
)
