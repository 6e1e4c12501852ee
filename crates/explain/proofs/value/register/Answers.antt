use Rattle.std.proofs.Common.{[], sym, ap, arith}
use Rattle.std.proofs.lemmas.Option.{slice_get_past}
use Rattle.asm_names.specs.Registers.{capability_names}
use Rattle.disassembler.specs.LengthLaws.{register_name_short}
use Rattle.disassembler.specs.Shown.{name_or}
use Rattle.std.specs.Prelude.{true, ◌≤◌}
use Rattle.explain.proofs.value.register.Goals as goal

pub returns-then-n-lt32-clause-short : goal.returns-then-n-lt32-clause-short
returns-then-n-lt32-clause-short c = register_name_short true c.args.n _ c.register_name.ensures

-- no register has this number
pub returns-else-n-lt32-clause-name : goal.returns-else-n-lt32-clause-name
returns-else-n-lt32-clause-name c =
    let past : 32 ≤ c.args.n = omega (arith, c.if-n-lt32.false) in
    sym (ap (name_or []) (slice_get_past capability_names c.args.n past))
