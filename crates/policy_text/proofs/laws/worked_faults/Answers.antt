use Rattle.std.proofs.Common.{refl}
use Rattle.asm_lines.specs.Number.{number_of}
use Rattle.policy_text.specs.Policy.{range_of, ranges_in, device_named, part_named, rule_of, definition_of, line_of}
use Rattle.policy_text.proofs.laws.worked_faults.Goals as goal

pub returns-clause-form : goal.returns-clause-form
unfolding range_of ranges_in device_named part_named rule_of definition_of line_of number_of
returns-clause-form c = refl

pub returns-clause-unknown : goal.returns-clause-unknown
unfolding range_of ranges_in device_named part_named rule_of definition_of line_of number_of
returns-clause-unknown c = refl

pub returns-clause-device : goal.returns-clause-device
unfolding range_of ranges_in device_named part_named rule_of definition_of line_of number_of
returns-clause-device c = refl

pub returns-clause-twice : goal.returns-clause-twice
unfolding range_of ranges_in device_named part_named rule_of definition_of line_of number_of
returns-clause-twice c = refl

pub returns-clause-number : goal.returns-clause-number
unfolding range_of ranges_in device_named part_named rule_of definition_of line_of number_of
returns-clause-number c = refl

pub returns-clause-empty : goal.returns-clause-empty
unfolding range_of ranges_in device_named part_named rule_of definition_of line_of number_of
returns-clause-empty c = refl

pub returns-clause-no_part : goal.returns-clause-no_part
unfolding range_of ranges_in device_named part_named rule_of definition_of line_of number_of
returns-clause-no_part c = refl

pub returns-clause-part_twice : goal.returns-clause-part_twice
unfolding range_of ranges_in device_named part_named rule_of definition_of line_of number_of
returns-clause-part_twice c = refl

pub returns-clause-malformed : goal.returns-clause-malformed
unfolding range_of ranges_in device_named part_named rule_of definition_of line_of number_of
returns-clause-malformed c = refl

pub returns-clause-label : goal.returns-clause-label
unfolding range_of ranges_in device_named part_named rule_of definition_of line_of number_of
returns-clause-label c = refl

pub returns-clause-over : goal.returns-clause-over
unfolding range_of ranges_in device_named part_named rule_of definition_of line_of number_of
returns-clause-over c = refl

pub returns-clause-first_word : goal.returns-clause-first_word
unfolding range_of ranges_in device_named part_named rule_of definition_of line_of number_of
returns-clause-first_word c = refl

pub returns-clause-first_part : goal.returns-clause-first_part
unfolding range_of ranges_in device_named part_named rule_of definition_of line_of number_of
returns-clause-first_part c = refl

pub returns-clause-first_line : goal.returns-clause-first_line
unfolding range_of ranges_in device_named part_named rule_of definition_of line_of number_of
returns-clause-first_line c = refl

pub returns-clause-or_whom : goal.returns-clause-or_whom
unfolding range_of ranges_in device_named part_named rule_of definition_of line_of number_of
returns-clause-or_whom c = refl

pub returns-clause-or_twice : goal.returns-clause-or_twice
unfolding range_of ranges_in device_named part_named rule_of definition_of line_of number_of
returns-clause-or_twice c = refl
