use Rattle.std.proofs.Common.{arith, sym, ◌∙◌}
use Rattle.policy.specs.Terms.{terms}
use Rattle.policy.specs.Tests.{breaks}
use Rattle.policy_audit.proofs.Firsts.{found, later, none}
use Rattle.policy_audit.proofs.part.first_breaking.Goals as goal

pub loop-number-preserved : goal.loop-number-preserved
loop-number-preserved g c =
    let inside = c.loop-number-test.true in
    record {
      within = omega (arith, inside);
      before = later g.C.CapRep.value (breaks (terms c.args.rule.now) c.args.ban) c.args.members.now c.loop-number.number
          c.index-members-number.result inside (sym c.breaks.ensures ∙ c.if-breaks.false) c.loop-number.invariant.before;
    }

pub returns-then-breaks-clause-first : goal.returns-then-breaks-clause-first
returns-then-breaks-clause-first g c =
    found g.C.CapRep.value (breaks (terms c.args.rule.now) c.args.ban) c.args.members.now c.loop-number.number c.index-members-number.result
    c.loop-number-test.true (sym c.breaks.ensures ∙ c.if-breaks.true) c.loop-number.invariant.before

pub returns-clause-first : goal.returns-clause-first
returns-clause-first g c =
    none g.C.CapRep.value (breaks (terms c.args.rule.now) c.args.ban) c.args.members.now c.loop-number.number
    (omega (arith, c.loop-number-test.false)) c.loop-number.invariant.before
