use Rattle.std.proofs.Common.{◌∙◌, sym, ap}
use Rattle.past.specs.Given.{count_of}
use Rattle.past.specs.Position.{beginning}
use Rattle.past.proofs.InOrder.{length-events_of}
use Rattle.past.proofs.past.Past.count.Goals as goal

pub returns-clause-events : goal.returns-clause-events
returns-clause-events c =
    λ replay. c.self.invariant ∙ ap (λ past. count_of past.given) c.self.view_is
    ∙ sym (length-events_of c.args.self.now.given (beginning replay))
