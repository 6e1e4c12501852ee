-- A line that is refused: what is left of the session, and of the sink where the refusal was not written.
use Rattle.std.proofs.Common.{◌≡◌, ℕ, false, List, Option, None, Err, ◌⊎◌, refl, ◌∙◌, ⊎_elim}
use Rattle.std.specs.Prelude.{◌≢◌}
use Rattle.debug_commands.specs.declared.fault.DebugFault.{DebugFault}
use Rattle.debug_commands.specs.declared.fault.DebugFault.TheVariants.{B4}
use Rattle.debugger.specs.declared.fault.TalkFault.{TalkFault}
use Rattle.debugger.specs.declared.fault.TalkFault.TheVariants.{Read, Write, Memory}
use Rattle.debugger.specs.SessionState.{SessionState}
use Rattle.debugger.specs.Reply.{command_in, state_after}
use Rattle.debugger.specs.Conversation.{fault_text, reply_to, is_last}
use Rattle.debugger.specs.Heard.{FailsToRefuse, FailsToReply}
use Rattle.debugger.specs.Standing.{standing_with}

-- it is no command, unless memory was lacking
pub refused-is : (fault : DebugFault) (line : List ℕ) (s : SessionState) → fault ≢ B4
    → (fault ≡ B4) ⊎ (command_in line s ≡ Err fault) → command_in line s ≡ Err fault
refused-is fault line s other either = ⊎_elim (λ lacking. absurd (other lacking)) (λ is. is) either

pub refused-state : (fault : DebugFault) (line : List ℕ) (s : SessionState) → command_in line s ≡ Err fault → s ≡ state_after line s
refused-state fault line s is = rw is refl

pub refused-last : (fault : DebugFault) (line : List ℕ) (s : SessionState) → command_in line s ≡ Err fault → false ≡ is_last line s
refused-last fault line s is = rw is refl

pub refused-text : (fault : DebugFault) (line : List ℕ) (s : SessionState) → command_in line s ≡ Err fault
    → fault_text fault ≡ reply_to line s
refused-text fault line s is = rw is refl

pub refused-reply : (cut : TalkFault) (fault : DebugFault) (line : List ℕ) (s u : SessionState) (old new : Option (List ℕ))
    → FailsToRefuse cut fault old new → (fault ≡ B4) ⊎ (command_in line s ≡ Err fault) → u ≡ s
    → FailsToReply cut line (standing_with s None old) (standing_with u None new)
refused-reply Read fault line s u old new refuses either same = refuses
refused-reply Write fault line s u old new refuses either same =
    let is = refused-is fault line s refuses.0 either in
    (rw (← refused-text fault line s is) refuses.1, same ∙ refused-state fault line s is)
refused-reply Memory fault line s u old new refuses either same = (refuses.1, same)
