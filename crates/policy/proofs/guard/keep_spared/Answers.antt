use Rattle.std.proofs.lemmas.Bool.{true≢false}
use Rattle.policy.specs.Terms.{terms}
use Rattle.policy.proofs.guard.keep_spared.Goals as goal

pub returns-in-Some : goal.returns-in-Some
returns-in-Some c = λ k below marked.
    let both = c.keep_out_of_reach.ensures k below marked in (
      both.0,
      record {
        guard = terms c.in-Some.guard.now;
        there = c.in-Some.ensures.there;
        applied = c.in-Some.ensures.applied;
        out = both.1;
      },
    )

pub returns-in-None : goal.returns-in-None
returns-in-None c = λ k below marked. absurd (true≢false (c.take_all.ensures k marked).0)
