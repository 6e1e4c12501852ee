use Rattle.symbols.proofs.LabelTexts.{label_text}
use Rattle.symbols.proofs.labels.name_text.Goals as goal

pub unreachable-requires : goal.unreachable-requires
unreachable-requires c = c.in-Err.ensures.cases.0 (label_text c.args.name.now c.requires)
