use Rattle.steps.specs.declared.event.Event.TheVariants.{Step}
use Rattle.origins.proofs.Stays.{stays-as}
use Rattle.origins.proofs.search.apply.Goals as goal

pub returns-clause-there : goal.returns-clause-there
returns-clause-there g c =
    stays-as c.args.machine.now c.apply.new.self Step c.args.place c.hart.ensures.state c.requires.there c.apply.ensures.state
