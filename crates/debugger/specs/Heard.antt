-- What the parts of a conversation do: a reply to one line, and the lines heard so far.
use Rattle.std.specs.Prelude.{◌≡◌, ◌≢◌, ◌⊎◌, ℕ, ◌<◌, Bool, true, false, List, All, ◌++◌, length, take, Option, IfSome}
use Rattle.std.specs.Io.KnownBytes.{Appends, Consumes, IsAtEnd}
use Rattle.image.specs.Devices.{AppendsBeginning}
use Rattle.debug_commands.specs.declared.fault.DebugFault.{DebugFault}
use Rattle.debug_commands.specs.declared.fault.DebugFault.TheVariants.{B4}
use Rattle.debugger.specs.declared.fault.TalkFault.{TalkFault}
use Rattle.debugger.specs.declared.fault.TalkFault.TheVariants.{Read, Write, Memory}
use Rattle.debugger.specs.Reply.{state_after}
use Rattle.debugger.specs.Standing.{Standing}
use Rattle.debugger.specs.Conversation.{fault_text, reply_to}
use Rattle.debugger.specs.Talk.{most_heard, is_feed, fed, replies, state_after_all, goes_on, IsTold}

-- what is left where a refusal was not written: a beginning of its text, or nothing of one for lack of memory
abbrev pub FailsToRefuse : TalkFault → DebugFault → Option (List ℕ) → Option (List ℕ) → Type 0
FailsToRefuse Read fault held_old held_new = ⊥
FailsToRefuse Write fault held_old held_new = (fault ≢ B4) × AppendsBeginning held_old held_new (fault_text fault)
FailsToRefuse Memory fault held_old held_new = (fault ≡ B4) × (held_new ≡ held_old)

-- what is left where a line was not answered (the source was not asked for anything)
abbrev pub FailsToReply : TalkFault → List ℕ → Standing → Standing → Type 0
FailsToReply Read line old new = ⊥
FailsToReply Write line old new = AppendsBeginning old.held new.held (reply_to line old.state) × (new.state ≡ state_after line old.state)
FailsToReply Memory line old new = (new.held ≡ old.held) × (new.state ≡ old.state)

-- no byte of a text ends a line
abbrev pub IsInLine : List ℕ → Type 0
IsInLine text = All (λ b. is_feed b ≡ false) text

-- So many bytes were heard: whole lines that were answered and did not end the conversation, and then a part of a line, whose
-- beginning is kept.
pub record IsHeard (n : ℕ) (line : List ℕ) (old new : Standing) : Type 0 where
  pub lines : List (List ℕ)
  pub part : List ℕ
  pub read : Consumes old.left new.left (fed lines ++ part)
  pub count : length (fed lines ++ part) ≡ n
  pub in_lines : All IsInLine lines
  pub in_line : IsInLine part
  pub goes_on : goes_on lines old.state ≡ true
  pub text : Appends old.held new.held (replies lines old.state)
  pub state : new.state ≡ state_after_all lines old.state
  pub kept : line ≡ take 256 part

-- as many bytes were heard as a conversation hears
pub record IsHeardToEnd (line : List ℕ) (old new : Standing) : Type 0 where
  pub count : ℕ
  pub heard : IsHeard count line old new
  pub end : (count ≡ most_heard) ⊎ ((count < most_heard) × IsAtEnd new.left)

-- the conversation is over, or all that it hears was heard but its last line is not answered yet
abbrev pub Hears : Bool → List ℕ → Standing → Standing → Type 0
Hears true kept old new = IfSome old.left (λ input. IsTold input old new)
Hears false kept old new = IsHeardToEnd kept old new
