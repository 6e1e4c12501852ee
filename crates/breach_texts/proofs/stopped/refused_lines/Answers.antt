use Rattle.std.proofs.Common.{sym, subst}
use Rattle.reached.specs.Chain.{AreInOrder}
use Rattle.breach_texts.proofs.stopped.refused_lines.Goals as goal

pub put_breach-requires-clause-order : goal.put_breach-requires-clause-order
put_breach-requires-clause-order g c = subst AreInOrder (sym c.members.ensures) c.in_ok-reach.ensures.order
