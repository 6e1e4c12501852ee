use Rattle.std.proofs.Common.{◌≡◌, ◌≤◌, [], true, ap, sym, arith}
use Rattle.std.proofs.lemmas.Option.{slice_get_past}
use Rattle.asm_names.specs.Registers.{capability_names}
use Rattle.disassembler.specs.LengthLaws.{register_name_short}
use Rattle.disassembler.specs.Shown.{name_or}
use Rattle.debugger.proofs.stops.name_of.Goals as goal

pub returns-then-number-lt32-clause-short : goal.returns-then-number-lt32-clause-short
returns-then-number-lt32-clause-short c =
    let short = register_name_short true c.args.number c.register_name.result.now c.register_name.ensures in
    omega (arith, short)

pub returns-else-number-lt32-clause-text : goal.returns-else-number-lt32-clause-text
returns-else-number-lt32-clause-text c =
    let past : 32 ≤ c.args.number = omega (arith, c.if-number-lt32.false) in
    sym (ap (name_or []) (slice_get_past capability_names c.args.number past))
