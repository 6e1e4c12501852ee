use Rattle.std.proofs.Common.{sym, ◌∙◌, arith}
use Rattle.std.proofs.lemmas.Bool.{false≢true}
use Rattle.std.proofs.lemmas.List.{length-map}
use Rattle.policy.specs.Terms.{terms, terms_of}
use Rattle.policy.specs.Watch.{Applies}
use Rattle.every_run.proofs.Checked.{mapped-more, holds-each}
use Rattle.every_run.proofs.step.check_rules.Goals as goal

pub loop-rule-preserved : goal.loop-rule-preserved
loop-rule-preserved c =
    mapped-more terms c.args.rules.now c.loop-rule.rule c.index-rules-rule.result (omega arith) c.index-rules-rule.is
    (λ rule. Applies rule c.args.at → ⊥) (λ about. false≢true (sym c.if-applies.false ∙ c.applies.ensures.1 about)) c.loop-rule.invariant

pub returns : goal.returns
returns c =
    holds-each (λ rule. Applies rule c.args.at → ⊥) (terms_of c.args.rules.now) c.loop-rule.rule
    (omega (arith, length-map c.args.rules.now terms)) c.loop-rule.invariant
