use Rattle.std.proofs.Common.{length}
use Rattle.asm_lines.specs.SeenParts.{seen_form}
use Rattle.fault_details.proofs.reasons.+append_words.Given as goal

abbrev pub decreases-append_words : goal.decreases-append_words
decreases-append_words l = length (seen_form l.form).operands
