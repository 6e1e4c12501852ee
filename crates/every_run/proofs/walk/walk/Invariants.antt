use Rattle.policy.specs.Terms.{terms_of}
use Rattle.every_run.specs.Known.{IsOutside}
use Rattle.every_run.specs.Lasting.{AlwaysHoldFrom}
use Rattle.every_run.proofs.walk.walk.Given as goal

abbrev pub invariant-loop-steps : goal.invariant-loop-steps
invariant-loop-steps g l = AlwaysHoldFrom (IsOutside l.any) (terms_of l.rules) l.hart
    → AlwaysHoldFrom (IsOutside l.any) (terms_of l.rules) l.fn.hart
