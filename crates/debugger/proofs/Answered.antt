-- A command that was done, and its answer; or that was refused.
use Rattle.std.proofs.Common.{◌≡◌, ℕ, List, Result, Ok, Err, ◌⊎◌, ⊎_elim, inl, inr, sym, ap, ◌∙◌}
use Rattle.std.specs.Prelude.{IfOk, IfErr, OnOk}
use Rattle.debug_commands.specs.declared.fault.DebugFault.{DebugFault}
use Rattle.debug_commands.specs.declared.fault.DebugFault.TheVariants.{B4}
use Rattle.debugger.specs.declared.reply.Reply.{Reply}
use Rattle.debug_commands.specs.declared.command.Command.{Command}
use Rattle.debugger.specs.SessionState.{SessionState}
use Rattle.debug_commands.specs.Command.{command_of}
use Rattle.debugger.specs.Reply.{admitted, allowed, answer_to, command_in, session_after, state_after, state_by, with_stop}
use Rattle.debugger.specs.Answers.{seen_reply, IsAnswer}

module _ (line : List ℕ) (s now : SessionState) (command : Command) (same : s ≡ now)
    (value : Ok command ≡ allowed (command_of now.symbols line) now.past now.machine) where
  written : command_in line s ≡ with_stop command now
  written = ap (command_in line) same ∙ ap (λ r. admitted r now) (sym value)

  pub answered : (result : Result Reply DebugFault) → OnOk result (with_stop command now ≡ Ok command)
      → IfOk result (λ reply. seen_reply reply ≡ answer_to command now) → IfOk result (λ reply. IsAnswer line s (seen_reply reply))
  answered (Ok reply) stop answer = record {
    command = command;
    is_written = written ∙ stop;
    is_its_answer = answer ∙ ap (answer_to command) (sym same);
  }
  answered (Err fault) stop answer = tt

  pub stands_after : (result : Result Reply DebugFault) (new : SessionState) → OnOk result (with_stop command now ≡ Ok command)
      → OnOk result (new ≡ session_after command now) → OnOk result (new ≡ state_after line s)
  stands_after (Ok reply) new stop is =
      is ∙ ap (session_after command) (sym same) ∙ sym (ap (λ r. state_by r s) (written ∙ stop))
  stands_after (Err fault) new stop is = tt

  pub refused : (result : Result Reply DebugFault) → IfErr result (λ fault. (fault ≡ B4) ⊎ (with_stop command now ≡ Err fault))
      → IfErr result (λ fault. (fault ≡ B4) ⊎ (command_in line s ≡ Err fault))
  refused (Ok reply) either = tt
  refused (Err fault) either = ⊎_elim (λ lacking. inl lacking) (λ is. inr (written ∙ is)) either
