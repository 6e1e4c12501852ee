use Rattle.std.proofs.Common.{rules, subst, sym, ◌∙◌}
use Rattle.origin_texts.specs.Asked.{AreAskedThere}
use Rattle.origin_texts.proofs.There.{asked-there}
use Rattle.origin_texts.proofs.told.tell_loss.Goals as goal

pub append_conditions-requires : goal.append_conditions-requires
append_conditions-requires g c = (
  search rules,
  subst (λ l. AreAskedThere l c.args.machine.now) (sym (c.deref.ensures.value ∙ c.in_ok-asked.ensures))
      (asked-there c.args.link.found.making c.args.machine.now c.requires.sources),
)
