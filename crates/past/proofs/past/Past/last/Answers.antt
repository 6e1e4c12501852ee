use Rattle.std.proofs.Common.{rules, ◌∙◌, ap, sym, subst}
use Rattle.hart.specs.Opening.{opening}
use Rattle.origins.specs.Places.{IsThere}
use Rattle.past.proofs.past.Past.last.Goals as goal

pub last_of-found-requires : goal.last_of-found-requires
last_of-found-requires g c = (
  search rules,
  subst (IsThere c.args.place)
      (sym (c.in_ok-machine.ensures.ok ∙ ap (λ past. opening past.image) c.self.view_is)) c.requires,
)
