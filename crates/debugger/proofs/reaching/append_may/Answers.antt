use Rattle.std.proofs.Common.{sym, subst}
use Rattle.reached.specs.Chain.{AreInOrder}
use Rattle.debugger.proofs.reaching.append_may.Goals as goal

pub put_answer-requires-clause-order : goal.put_answer-requires-clause-order
put_answer-requires-clause-order g c = subst AreInOrder (sym c.members-members.ensures) c.in_ok-reach-in-Stretch.ensures.order
