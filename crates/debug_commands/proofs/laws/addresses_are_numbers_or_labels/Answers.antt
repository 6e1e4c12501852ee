use Rattle.std.proofs.Common.{refl, ap, ◌∙◌}
use Rattle.std.specs.Option.{option_or}
use Rattle.asm_lines.specs.Number.{expression_of}
use Rattle.symbols.specs.Symbols.{address_of}
use Rattle.debug_commands.specs.Address.{beside_label}
use Rattle.debug_commands.proofs.Labels.{or_none, label_is_read}
use Rattle.debug_commands.proofs.Offsets.{label-alone, none-beside}
use Rattle.debug_commands.proofs.laws.addresses_are_numbers_or_labels.Goals as goal

pub returns-clause-number : goal.returns-clause-number
returns-clause-number c = λ symbols text n e. rw e refl

pub returns-clause-unlabelled : goal.returns-clause-unlabelled
returns-clause-unlabelled c = λ text. ap (option_or _) (none-beside (expression_of text)) ∙ or_none _ ∙ or_none _

pub returns-clause-label : goal.returns-clause-label
returns-clause-label c = λ symbols text h.
    ap (λ found. option_or found (beside_label symbols (expression_of text))) (label_is_read symbols text h)
    ∙ label-alone symbols text h (address_of symbols text) refl
