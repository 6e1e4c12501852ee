-- A conversation: the replies to the lines of an input, up to `quit` or its end.
use Rattle.std.specs.Prelude.{ℕ, Bool, true, false, List, [], ◌∷◌, ◌++◌, length, Result, Ok, Err, codes, if◌then◌else◌, ◌==◌}
use Rattle.std.specs.List.{slice_split, join_by}
use Rattle.debug_commands.specs.declared.fault.DebugFault.{DebugFault}
use Rattle.debug_commands.specs.declared.fault.DebugFault.TheVariants.{B1, B2, B3, B4}
use Rattle.debug_commands.specs.declared.command.Command.{Command}
use Rattle.debugger.specs.SessionState.{SessionState}
use Rattle.debugger.specs.Reply.{Answer, told, ended, answer_to, command_in, state_after}

-- what a refusal prints (B4 ends the conversation and prints nothing)
abbrev pub fault_text : DebugFault → List ℕ
fault_text B1 = codes "fault B1\n"
fault_text B2 = codes "fault B2\n"
fault_text B3 = codes "fault B3\n"
fault_text B4 = []

abbrev pub answer_text : Answer → List ℕ
answer_text (told text) = text
answer_text ended = []

abbrev pub reply_by : Result Command DebugFault → SessionState → List ℕ
reply_by (Ok command) s = answer_text (answer_to command s)
reply_by (Err fault) s = fault_text fault

-- the text that a line is answered with
abbrev pub reply_to : List ℕ → SessionState → List ℕ
reply_to line s = reply_by (command_in line s) s

abbrev pub is_end : Answer → Bool
is_end (told text) = false
is_end ended = true

abbrev pub ends_by : Result Command DebugFault → SessionState → Bool
ends_by (Ok command) s = is_end (answer_to command s)
ends_by (Err fault) s = false

-- whether a line ends the conversation
abbrev pub is_last : List ℕ → SessionState → Bool
is_last line s = ends_by (command_in line s) s

-- The lines of an input: between line feeds; an empty rest after the last line feed is no line.
abbrev pub replies_to : List (List ℕ) → SessionState → List ℕ
replies_to [] s = []
replies_to (line ∷ []) s = if length line == 0 then [] else reply_to line s
replies_to (line ∷ next ∷ rest) s = reply_to line s ++ (if is_last line s then [] else replies_to (next ∷ rest) (state_after line s))

abbrev pub state_after_lines : List (List ℕ) → SessionState → SessionState
state_after_lines [] s = s
state_after_lines (line ∷ []) s = if length line == 0 then s else state_after line s
state_after_lines (line ∷ next ∷ rest) s = if is_last line s then s else state_after_lines (next ∷ rest) (state_after line s)

abbrev pub conversation : List ℕ → SessionState → List ℕ
conversation input s = replies_to (slice_split (λ b. b == 10) input) s

abbrev pub state_after_conversation : List ℕ → SessionState → SessionState
state_after_conversation input s = state_after_lines (slice_split (λ b. b == 10) input) s

-- what a conversation leaves unread: what follows the line that ended it
abbrev pub unread_lines : List (List ℕ) → SessionState → List ℕ
unread_lines [] s = []
unread_lines (line ∷ []) s = []
unread_lines (line ∷ next ∷ rest) s =
    if is_last line s then join_by (λ l. l) (10 ∷ []) (next ∷ rest) else unread_lines (next ∷ rest) (state_after line s)

abbrev pub unread : List ℕ → SessionState → List ℕ
unread input s = unread_lines (slice_split (λ b. b == 10) input) s
