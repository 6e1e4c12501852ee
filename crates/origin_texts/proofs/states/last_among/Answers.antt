use Rattle.std.specs.Prelude.{option_copied}
use Rattle.origin_texts.proofs.Facts.{early_if}
use Rattle.origin_texts.proofs.states.last_among.Goals as goal

pub returns-clause-early : goal.returns-clause-early
returns-clause-early g c =
    early_if c.args.sought c.args.place c.args.events c.args.past.now (option_copied c.args.replay) c.in-Ok.found c.in-Ok.ensures.found
