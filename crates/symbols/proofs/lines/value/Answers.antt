use Rattle.std.proofs.Common.{arith, ◌+◌}
use Rattle.std.proofs.lemmas.Grind.{common_steps}
use Rattle.std.proofs.lemmas.Int.Digits.{digits_value_more}
use Rattle.std.proofs.lemmas.Str.Parse.{digits_value-take-le}
use Rattle.symbols.proofs.lines.value.Goals as goal

pub returns-in_err-checked_mul : goal.returns-in_err-checked_mul
returns-in_err-checked_mul c =
    let whole = digits_value-take-le 16 c.args.digits.now (c.loop-digit.digit-index + 1) (omega arith) in
    let more = digits_value_more 16 c.args.digits.now c.loop-digit.digit-index (omega arith) in
    grind (arith, common_steps, whole, more)

pub returns-in_err-value : goal.returns-in_err-value
returns-in_err-value c =
    let whole = digits_value-take-le 16 c.args.digits.now (c.loop-digit.digit-index + 1) (omega arith) in
    let more = digits_value_more 16 c.args.digits.now c.loop-digit.digit-index (omega arith) in
    grind (arith, common_steps, whole, more)

pub loop-digit-preserved : goal.loop-digit-preserved
loop-digit-preserved c = grind (arith, common_steps, digits_value_more)
