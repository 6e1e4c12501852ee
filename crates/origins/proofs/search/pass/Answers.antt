use Rattle.origins.proofs.Stays.{stays-as}
use Rattle.origins.proofs.search.pass.Goals as goal

pub returns-clause-there : goal.returns-clause-there
returns-clause-there g c =
    stays-as c.args.machine.now c.event.new.self c.args.event c.args.place c.hart.ensures.state c.requires c.event.ensures.state
