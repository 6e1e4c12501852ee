use Rattle.std.proofs.Common.{rules}
use Rattle.steps.specs.declared.event.Event.TheVariants.{Step}
use Rattle.origins.proofs.Stays.{stays-as}
use Rattle.origin_texts.proofs.link.source_text.Goals as goal

pub held-requires : goal.held-requires
held-requires g c = (
  search rules,
  stays-as c.args.machine.now c.apply-2.new.self Step c.args.place c.held-before.ensures.state c.requires.there
      c.apply-2.ensures.state,
)
