use Rattle.std.proofs.Common.{arith}
use Rattle.std.proofs.lemmas.List.{length-map}
use Rattle.reached.specs.Links.{values}
use Rattle.reach.specs.First.{HoldsOfNone}
use Rattle.policy.specs.Rule.{BreaksRule}
use Rattle.policy.specs.Terms.{terms, terms_of}
use Rattle.every_run.proofs.Checked.{mapped-more, holds-each}
use Rattle.every_run.proofs.breach.check_breaches.Goals as goal

pub loop-rule-preserved : goal.loop-rule-preserved
loop-rule-preserved g c =
    mapped-more terms c.args.rules.now c.loop-rule.rule c.index-rules-rule.result (omega arith) c.index-rules-rule.is
    (λ rule. HoldsOfNone (BreaksRule rule) (values g.C.CapRep.value c.args.members.now)) c.in_default.ensures c.loop-rule.invariant

pub returns : goal.returns
returns g c =
    holds-each (λ rule. HoldsOfNone (BreaksRule rule) (values g.C.CapRep.value c.args.members.now)) (terms_of c.args.rules.now)
    c.loop-rule.rule (omega (arith, length-map c.args.rules.now terms)) c.loop-rule.invariant
