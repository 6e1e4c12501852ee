use Rattle.std.proofs.Common.{◌≡◌, take}
use Rattle.policy.specs.Terms.{terms_of}
use Rattle.policy.proofs.in_force.copies.Given as goal

abbrev pub invariant-loop-rule : goal.invariant-loop-rule
invariant-loop-rule l = terms_of l.copies.items ≡ terms_of (take l.rule-index l.rules)
