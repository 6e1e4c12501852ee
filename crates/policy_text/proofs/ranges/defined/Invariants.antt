use Rattle.std.proofs.Common.{◌≡◌, drop}
use Rattle.policy_text.specs.Policy.{defined}
use Rattle.policy_text.specs.Seen.{seen_names}
use Rattle.policy_text.proofs.ranges.defined.Given as goal

-- the ranges of the name are those among the definitions that are left
abbrev pub invariant-loop-definition : goal.invariant-loop-definition
invariant-loop-definition l =
    defined (seen_names (drop l.definition-index l.definitions)) l.name ≡ defined (seen_names l.definitions) l.name
