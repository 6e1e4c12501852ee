use Rattle.std.proofs.Common.{rules}
use Rattle.debug_commands.proofs.table.help_text.Goals as goal

pub returns : goal.returns
returns c = search rules
