use Rattle.std.proofs.Common.{subst, arith, below_more}
use Rattle.registers.specs.Registers.{register}
use Rattle.policy.specs.Terms.{terms}
use Rattle.policy.proofs.Certificates.{KeepsTagged}
use Rattle.policy.proofs.certificate.registers_keep.Goals as goal

pub loop-n-preserved : goal.loop-n-preserved
loop-n-preserved g c =
    let rule = (terms c.args.rule.now) in
    below_more (λ n. KeepsTagged rule (register c.args.hart.now.registers n)) c.loop-n.n c.loop-n.invariant
    (subst (KeepsTagged rule) c.reg.ensures.value (c.keeps.ensures c.if-not-keeps.false))

pub returns : goal.returns
returns g c = λ _ n below. c.loop-n.invariant n (omega arith)
