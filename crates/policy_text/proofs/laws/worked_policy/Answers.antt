use Rattle.std.proofs.Common.{refl}
use Rattle.asm_lines.specs.Number.{number_of}
use Rattle.policy_text.specs.Policy.{range_of, ranges_in, device_named, part_named, rule_of, definition_of, line_of}
use Rattle.policy_text.proofs.laws.worked_policy.Goals as goal

pub returns : goal.returns
unfolding range_of ranges_in device_named part_named rule_of definition_of line_of number_of
returns c = refl
