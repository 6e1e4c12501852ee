use Rattle.std.proofs.Common.{rules}
use Rattle.debug_commands.specs.Command.{command_of}
use Rattle.debug_commands.proofs.table.command_of.Goals as goal

pub returns-in-None-clause-value : goal.returns-in-None-clause-value
unfolding command_of
returns-in-None-clause-value c = search rules
