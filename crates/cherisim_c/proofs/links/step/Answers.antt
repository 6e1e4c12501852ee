use Rattle.std.proofs.Common.{sym, subst}
use Rattle.origins.specs.Places.{IsThere}
use Rattle.steps.specs.declared.event.Event.TheVariants.{Step}
use Rattle.cherisim_c.proofs.links.step.Goals as goal

pub returns-clause-there : goal.returns-clause-there
returns-clause-there g c =
    subst (IsThere c.args.place) (sym c.event.ensures.state)
    (c.steps_write_what_is_made.ensures.there c.args.place Step c.args.machine.now c.hart.ensures.state c.requires)
