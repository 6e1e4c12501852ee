use Rattle.std.proofs.Common.{◌∙◌, sym}
use Rattle.debug_commands.proofs.Specials.{named_is_special}
use Rattle.debug_commands.proofs.operands.register_in.Goals as goal

pub returns-in-Some-scr_named-clause-limits : goal.returns-in-Some-scr_named-clause-limits
returns-in-Some-scr_named-clause-limits c =
    named_is_special c.args.text.now c.in-Some-scr_named.number (sym c.scr_named.ensures.value ∙ c.in-Some-scr_named.is)
