use Rattle.std.proofs.Common.{arith}
use Rattle.reach.proofs.Merging.{opened-more, opened-no_more, opened-all, filled-push}
use Rattle.reach.proofs.spans.opened.Goals as goal

pub loop-member-preserved-in_default : goal.loop-member-preserved-in_default
loop-member-preserved-in_default g c = record {
  filled = c.loop-member.invariant.filled;
  same = opened-no_more c.args.right (λ m. g.C.CapRep.value m.cap) c.args.members.now c.loop-member.member-index c.member-item.result
      (omega arith) c.member-item.is c.loop-member.ranges.items c.loop-member.invariant.same c.in_default.ensures.none;
}

pub loop-member-preserved : goal.loop-member-preserved
loop-member-preserved g c = record {
  filled = filled-push c.loop-member.ranges.items c.push.new.self.items c.in-Some.range c.in_ok-push.ensures.items
      c.loop-member.invariant.filled c.in-Some.ensures.filled;
  same = opened-more c.args.right (λ m. g.C.CapRep.value m.cap) c.args.members.now c.loop-member.member-index c.member-item.result
      (omega arith) c.member-item.is c.loop-member.ranges.items c.loop-member.invariant.same c.in-Some.range c.push.new.self.items
      c.in_ok-push.ensures.items c.in-Some.ensures.some;
}

pub returns-clause-same : goal.returns-clause-same
returns-clause-same g c =
    opened-all c.args.right (λ m. g.C.CapRep.value m.cap) c.args.members.now c.loop-member.member-index (omega arith)
    c.loop-member.ranges.items c.loop-member.invariant.same
