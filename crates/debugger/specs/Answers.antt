-- The answer to a line.
use Rattle.std.specs.Prelude.{◌≡◌, ℕ, List, Ok, string_bytes}
use Rattle.debugger.specs.declared.reply.Reply.{Reply}
use Rattle.debugger.specs.declared.reply.Reply.TheVariants.{Text, Quit}
use Rattle.debug_commands.specs.declared.command.Command.{Command}
use Rattle.debugger.specs.SessionState.{SessionState}
use Rattle.debugger.specs.Reply.{Answer, told, ended, answer_to, command_in}

abbrev pub seen_reply : Reply → Answer
seen_reply (Text text) = told (string_bytes text)
seen_reply Quit = ended

-- the line writes a command that may be done, and this is what it is answered with
pub record IsAnswer (line : List ℕ) (s : SessionState) (answer : Answer) : Type 0 where
  pub command : Command
  pub is_written : command_in line s ≡ Ok command
  pub is_its_answer : answer ≡ answer_to command s
