use Rattle.std.proofs.Common.{true, rules, arith}
use Rattle.disassembler.specs.LengthLaws.{register_name_short}
use Rattle.origin_texts.proofs.place.place_text.Goals as goal

pub text-requires : goal.text-requires
text-requires c =
    let short = register_name_short true c.in-Register.number _ c.register_name.ensures in
    (search rules, (search rules, omega (arith, short)))
