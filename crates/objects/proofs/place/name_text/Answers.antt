use Rattle.objects.proofs.LabelTexts.{label_text}
use Rattle.objects.proofs.place.name_text.Goals as goal

pub unreachable-requires : goal.unreachable-requires
unreachable-requires c = c.in-Err.ensures.cases.0 (label_text c.args.name.now c.requires)
