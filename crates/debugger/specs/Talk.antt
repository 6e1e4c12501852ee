-- A conversation over a source and a sink: what was read, what was written, and where the machine stands.
use Rattle.std.specs.Prelude.{◌≡◌, ◌⊎◌, ℕ, ◌-◌, ◌^◌, ◌+◌, ◌<◌, ◌==◌, length, not, ◌&&◌, Bool, true, List, All, [], ◌∷◌, ◌++◌, take, drop}
use Rattle.std.specs.Prelude.{Option, Some, Result, Err}
use Rattle.std.specs.List.{before_first, flat_map}
use Rattle.std.specs.Io.KnownBytes.{Appends, Consumes, IsAtEnd}
use Rattle.image.specs.Devices.{AppendsBeginning}
use Rattle.debugger.specs.declared.fault.TalkFault.{TalkFault}
use Rattle.debugger.specs.declared.fault.TalkFault.TheVariants.{Read, Write, Memory}
use Rattle.debugger.specs.Reply.{state_after}
use Rattle.debugger.specs.SessionState.{SessionState}
use Rattle.debugger.specs.Standing.{Standing}
use Rattle.debugger.specs.Conversation.{reply_to, is_last, conversation, state_after_conversation, unread}

-- The most bytes that a conversation hears; then it ends as at the end of the input.
abbrev pub most_heard : ℕ
most_heard = 2 ^ 64 - 1

abbrev pub heard : List ℕ → List ℕ
heard input = take most_heard input

-- The whole conversation over an input: its text was written, the machine stands after its lines, and the rest is unread.
pub record IsTold (input : List ℕ) (old new : Standing) : Type 0 where
  pub text : Appends old.held new.held (conversation (heard input) old.state)
  pub state : new.state ≡ state_after_conversation (heard input) old.state
  pub rest : new.left ≡ Some (unread (heard input) old.state ++ drop most_heard input)

-- ---- a conversation that was cut short

abbrev pub is_feed : ℕ → Bool
is_feed b = b == 10

-- lines as they stand in the input, each with its line feed
abbrev pub fed : List (List ℕ) → List ℕ
fed lines = flat_map (λ line. line ++ 10 ∷ []) lines

-- what lines are answered, where the machine stands after them, and whether none of them ends the conversation
abbrev pub replies : List (List ℕ) → SessionState → List ℕ
replies [] s = []
replies (line ∷ lines) s = reply_to line s ++ replies lines (state_after line s)

abbrev pub state_after_all : List (List ℕ) → SessionState → SessionState
state_after_all [] s = s
state_after_all (line ∷ lines) s = state_after_all lines (state_after line s)

abbrev pub goes_on : List (List ℕ) → SessionState → Bool
goes_on [] s = true
goes_on (line ∷ lines) s = not (is_last line s) && goes_on lines (state_after line s)

-- a line: no line feed stands in it
abbrev pub IsLine : List ℕ → Type 0
IsLine line = before_first is_feed line ≡ line

-- Whole lines that did not end the conversation were read, and then this much more.
pub record IsRead (lines : List (List ℕ)) (more : List ℕ) (old new : Standing) : Type 0 where
  pub read : Consumes old.left new.left (fed lines ++ more)
  pub are_lines : All IsLine lines
  pub goes_on : goes_on lines old.state ≡ true

-- What stands after a line: its line feed; or nothing, where the input is at its end or as much was heard as a conversation hears.
abbrev pub Ends : List (List ℕ) → List ℕ → List ℕ → Option (List ℕ) → Type 0
Ends lines line past left =
    (past ≡ 10 ∷ []) ⊎ ((past ≡ []) × (0 < length line) × ((length (fed lines ++ line) ≡ most_heard) ⊎ IsAtEnd left))

-- Somewhere in a line: the replies to the lines before were written, and the machine stands after those lines.
pub record IsCutInLine (old new : Standing) : Type 0 where
  pub lines : List (List ℕ)
  pub part : List ℕ
  pub is_read : IsRead lines part old new
  pub is_in_line : IsLine part
  pub text : Appends old.held new.held (replies lines old.state)
  pub state : new.state ≡ state_after_all lines old.state

-- Before the reply to a line: the replies to the lines before were written, and the machine stands after those lines.
pub record IsCutBeforeReply (old new : Standing) : Type 0 where
  pub lines : List (List ℕ)
  pub line : List ℕ
  pub past : List ℕ
  pub is_read : IsRead lines (line ++ past) old new
  pub is_line : IsLine line
  pub ends : Ends lines line past new.left
  pub text : Appends old.held new.held (replies lines old.state)
  pub state : new.state ≡ state_after_all lines old.state

-- In the reply to a line: a beginning of the replies was written, and the machine stands after that line.
pub record IsCutInReply (old new : Standing) : Type 0 where
  pub lines : List (List ℕ)
  pub line : List ℕ
  pub past : List ℕ
  pub is_read : IsRead lines (line ++ past) old new
  pub is_line : IsLine line
  pub ends : Ends lines line past new.left
  pub text : AppendsBeginning old.held new.held (replies lines old.state ++ reply_to line (state_after_all lines old.state))
  pub state : new.state ≡ state_after line (state_after_all lines old.state)

-- what a fault leaves
abbrev pub LeavesOff : TalkFault → Standing → Standing → Type 0
LeavesOff Read old new = IsCutInLine old new
LeavesOff Write old new = IsCutInReply old new
LeavesOff Memory old new = IsCutBeforeReply old new

-- The count of the source's failures rises by one where the answer is Read, that of the sink's where it is Write, and else both stay.
abbrev pub CountsReads : {T : Type 0} → ℕ → ℕ → Result T TalkFault → Type 0
CountsReads old new (Err Read) = new ≡ old + 1
CountsReads old new other = new ≡ old

abbrev pub CountsWrites : {T : Type 0} → ℕ → ℕ → Result T TalkFault → Type 0
CountsWrites old new (Err Write) = new ≡ old + 1
CountsWrites old new other = new ≡ old
