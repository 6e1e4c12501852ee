use Rattle.std.proofs.Common.{◌≡◌, false, arith}
use Rattle.std.proofs.lemmas.List.{length-map}
use Rattle.policy.specs.Terms.{terms, terms_of}
use Rattle.every_run.proofs.Checked.{any-none, mapped-more, holds-each}
use Rattle.every_run.proofs.proving.first_lending.Goals as goal

pub loop-place-preserved : goal.loop-place-preserved
loop-place-preserved c =
    mapped-more terms c.args.rules.now c.loop-place.place c.index-rules-place.result (omega arith) c.index-rules-place.is
    (λ rule. rule.or_caller ≡ false) (c.if-rule.false) c.loop-place.invariant

pub returns : goal.returns
returns c =
    any-none (λ rule. rule.or_caller) (terms_of c.args.rules.now)
    (holds-each (λ rule. rule.or_caller ≡ false) (terms_of c.args.rules.now) c.loop-place.place
    (omega (arith, length-map c.args.rules.now terms)) c.loop-place.invariant)
