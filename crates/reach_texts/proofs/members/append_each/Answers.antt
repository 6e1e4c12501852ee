use Rattle.std.proofs.Common.{arith}
use Rattle.reach_texts.proofs.Numbered.{after}
use Rattle.reach_texts.specs.Summary.{said_of}
use Rattle.reach_texts.proofs.members.append_each.Goals as goal

pub loop-number-preserved : goal.loop-number-preserved
loop-number-preserved g c =
    let inside = c.loop-number-test.true in
    record {
      within = omega (arith, inside);
      lines = after g.C.CapRep.value (said_of c.args.said c.args.symbols.now) c.args.members.now c.loop-number.number
          c.index-members-number.result _ _ _ inside c.index-members-number.is c.in_ok-append_said.ensures c.loop-number.invariant.lines;
    }
