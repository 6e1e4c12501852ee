use Rattle.debugger.proofs.Begins.{none_kept}
use Rattle.debugger.proofs.session.Session.begun.Goals as goal

pub invariant_of-result : goal.invariant_of-result
invariant_of-result g c = record {
  past = c.requires;
  anchored = none_kept c.args.past c.args.replay;
}
