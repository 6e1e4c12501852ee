use Rattle.std.proofs.Common.{◌∙◌, ◌+◌, sym, ap, ap₂}
use Rattle.past.specs.Given.{count_of}
use Rattle.past.proofs.InOrder.{count_of-append}
use Rattle.past.proofs.past.Past.push.Goals as goal

pub invariant_of-self-2 : goal.invariant_of-self-2
invariant_of-self-2 c =
    ap₂ (λ a b. a + b) c.self.invariant c.count_of_one.ensures
    ∙ sym (count_of-append c.self.inside.given.items c.args.given) ∙ ap count_of (sym c.in_ok-push.ensures.items)
