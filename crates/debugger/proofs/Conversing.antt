-- Whole lines that do not end a conversation, and the piece after them.
use Rattle.std.proofs.Common.{◌≡◌, ℕ, ◌<◌, Bool, true, false, List, [], ◌∷◌, ◌++◌, All, length, take, Result, Ok, Err, refl, sym, ap, ◌∙◌}
use Rattle.std.proofs.Common.{append_assoc, append-nil, take_all, arith}
use Rattle.std.specs.Prelude.{not, ◌&&◌, ◌==◌, nat_lt, if◌then◌else◌}
use Rattle.std.proofs.lemmas.Bool.{false≢true}
use Rattle.std.proofs.lemmas.Bool.Decides.{nat_tests}
use Rattle.std.proofs.lemmas.List.{length-take-le}
use Rattle.std.proofs.lemmas.List.Splits.{length-slice_split}
use Rattle.std.specs.List.{slice_split, join_by}
use Rattle.symbols.specs.Symbols.{Symbol}
use Rattle.debug_commands.specs.declared.fault.DebugFault.{DebugFault}
use Rattle.debug_commands.specs.declared.fault.DebugFault.TheVariants.{B2}
use Rattle.debug_commands.specs.declared.command.Command.{Command}
use Rattle.debug_commands.specs.declared.command.Command.TheVariants.{Gives, Shows, Recalls, Back, Sets, Quit}
use Rattle.debug_commands.specs.Command.{command_of}
use Rattle.debugger.specs.SessionState.{SessionState}
use Rattle.debugger.specs.Reply.{answer_to, command_in, session_after, state_by, state_after}
use Rattle.debugger.specs.Conversation.{reply_to, is_end, ends_by, is_last, replies_to, state_after_lines, unread_lines, conversation}
use Rattle.debugger.specs.Conversation.{state_after_conversation, unread}
use Rattle.debugger.specs.Talk.{is_feed, fed, replies, state_after_all, goes_on}
use Rattle.debugger.specs.Heard.{IsInLine}
use Rattle.debugger.proofs.Pieces.{pieces_at_end, pieces_at_feed, joined}

-- ---- a line of which a beginning is kept

long : (symbols : List Symbol) (line : List ℕ) → nat_lt 255 (length line) ≡ true → command_of symbols line ≡ Err B2
unfolding command_of
long symbols line h = rw h refl

kept_at : (symbols : List Symbol) (line : List ℕ) (b : Bool) → nat_lt 255 (length line) ≡ b
    → command_of symbols (take 256 line) ≡ command_of symbols line
kept_at symbols line true h =
    let len : length (take 256 line) ≡ 256 = length-take-le 256 line (grind (arith, nat_tests)) in
    long symbols (take 256 line) (ap (λ n. nat_lt 255 n) len) ∙ sym (long symbols line h)
kept_at symbols line false h = ap (command_of symbols) (take_all 256 line (grind (arith, nat_tests)))

pub kept_command : (symbols : List Symbol) (line : List ℕ) → command_of symbols (take 256 line) ≡ command_of symbols line
kept_command symbols line = kept_at symbols line (nat_lt 255 (length line)) refl

-- ---- the line that ends a conversation

last_command : (c : Command) (s : SessionState) → is_end (answer_to c s) ≡ true → session_after c s ≡ s
last_command (Gives events) s h = absurd (false≢true h)
last_command (Shows what) s h = refl
last_command (Recalls recall) s h = refl
last_command (Back n) s h = absurd (false≢true h)
last_command (Sets set) s h = absurd (false≢true h)
last_command Quit s h = refl

last_by : (r : Result Command DebugFault) (s : SessionState) → ends_by r s ≡ true → state_by r s ≡ s
last_by (Ok c) s h = last_command c s h
last_by (Err fault) s h = absurd (false≢true h)

pub same_after_last : (line : List ℕ) (s : SessionState) → is_last line s ≡ true → state_after line s ≡ s
same_after_last line s h = last_by (command_in line s) s h

-- ---- lines that go on

goes_first : (p q : Bool) → not p && q ≡ true → p ≡ false
goes_first true q h = absurd (false≢true h)
goes_first false q h = refl

goes_later : (p q : Bool) → not p && q ≡ true → q ≡ true
goes_later true q h = absurd (false≢true h)
goes_later false q h = h

goes_both : (p q : Bool) → p ≡ false → q ≡ true → not p && q ≡ true
goes_both p q h k = ap (λ b. not b && q) h ∙ k

pub goes_on_more : (lines : List (List ℕ)) (line : List ℕ) (s : SessionState) → goes_on lines s ≡ true
    → is_last line (state_after_all lines s) ≡ false
    → goes_on (lines ++ line ∷ []) s ≡ true
goes_on_more [] line s h e = goes_both (is_last line s) true e refl
goes_on_more (l ∷ lines) line s h e =
    goes_both (is_last l s) _ (goes_first (is_last l s) _ h) (goes_on_more lines line (state_after l s) (goes_later (is_last l s) _ h) e)

pub replies_more : (lines : List (List ℕ)) (line : List ℕ) (s : SessionState)
    → replies (lines ++ line ∷ []) s ≡ replies lines s ++ reply_to line (state_after_all lines s)
replies_more [] line s = append-nil (reply_to line s)
replies_more (l ∷ lines) line s =
    ap (λ text. reply_to l s ++ text) (replies_more lines line (state_after l s))
    ∙ sym (append_assoc (reply_to l s) (replies lines (state_after l s)) (reply_to line (state_after_all lines (state_after l s))))

pub state_after_more : (lines : List (List ℕ)) (line : List ℕ) (s : SessionState)
    → state_after_all (lines ++ line ∷ []) s ≡ state_after line (state_after_all lines s)
state_after_more [] line s = refl
state_after_more (l ∷ lines) line s = state_after_more lines line (state_after l s)

-- ---- pieces after lines that go on

module _ (next : List ℕ) (rest : List (List ℕ)) where
  one_reply : (line : List ℕ) (lines : List (List ℕ)) (s : SessionState)
      → replies_to (line ∷ (lines ++ next ∷ rest)) s ≡ reply_to line s
      ++ (if is_last line s then [] else replies_to (lines ++ next ∷ rest) (state_after line s))
  one_reply line [] s = refl
  one_reply line (l ∷ lines) s = refl

  one_state : (line : List ℕ) (lines : List (List ℕ)) (s : SessionState)
      → state_after_lines (line ∷ (lines ++ next ∷ rest)) s
      ≡ (if is_last line s then s else state_after_lines (lines ++ next ∷ rest) (state_after line s))
  one_state line [] s = refl
  one_state line (l ∷ lines) s = refl

  one_unread : (line : List ℕ) (lines : List (List ℕ)) (s : SessionState)
      → unread_lines (line ∷ (lines ++ next ∷ rest)) s
      ≡ (if is_last line s then join_by (λ l. l) (10 ∷ []) (lines ++ next ∷ rest) else unread_lines (lines ++ next ∷ rest)
      (state_after line s))
  one_unread line [] s = refl
  one_unread line (l ∷ lines) s = refl

  pub replies_through : (lines : List (List ℕ)) (s : SessionState) → goes_on lines s ≡ true
      → replies_to (lines ++ next ∷ rest) s ≡ replies lines s ++ replies_to (next ∷ rest) (state_after_all lines s)
  replies_through [] s h = refl
  replies_through (line ∷ lines) s h =
      let t = state_after line s in
      one_reply line lines s
      ∙ ap (λ b. reply_to line s ++ (if b then [] else replies_to (lines ++ next ∷ rest) t)) (goes_first (is_last line s) _ h)
      ∙ ap (λ text. reply_to line s ++ text) (replies_through lines t (goes_later (is_last line s) _ h))
      ∙ sym (append_assoc (reply_to line s) (replies lines t) (replies_to (next ∷ rest) (state_after_all lines t)))

  pub state_through : (lines : List (List ℕ)) (s : SessionState) → goes_on lines s ≡ true
      → state_after_lines (lines ++ next ∷ rest) s ≡ state_after_lines (next ∷ rest) (state_after_all lines s)
  state_through [] s h = refl
  state_through (line ∷ lines) s h =
      let t = state_after line s in
      one_state line lines s
      ∙ ap (λ b. if b then s else state_after_lines (lines ++ next ∷ rest) t) (goes_first (is_last line s) _ h)
      ∙ state_through lines t (goes_later (is_last line s) _ h)

  pub unread_through : (lines : List (List ℕ)) (s : SessionState) → goes_on lines s ≡ true
      → unread_lines (lines ++ next ∷ rest) s ≡ unread_lines (next ∷ rest) (state_after_all lines s)
  unread_through [] s h = refl
  unread_through (line ∷ lines) s h =
      let t = state_after line s in
      one_unread line lines s
      ∙ ap (λ b. if b then join_by (λ l. l) (10 ∷ []) (lines ++ next ∷ rest) else unread_lines (lines ++ next ∷ rest) t)
      (goes_first (is_last line s) _ h)
      ∙ unread_through lines t (goes_later (is_last line s) _ h)

-- ---- the piece that ends a conversation, with others after it

ends_reply : (line : List ℕ) (pieces : List (List ℕ)) (s : SessionState) → 0 < length pieces → is_last line s ≡ true
    → replies_to (line ∷ pieces) s ≡ reply_to line s
ends_reply line [] s some h = absurd (omega arith)
ends_reply line (next ∷ rest) s some h =
    ap (λ b. reply_to line s ++ (if b then [] else replies_to (next ∷ rest) (state_after line s))) h ∙ append-nil (reply_to line s)

ends_state : (line : List ℕ) (pieces : List (List ℕ)) (s : SessionState) → 0 < length pieces → is_last line s ≡ true
    → state_after_lines (line ∷ pieces) s ≡ s
ends_state line [] s some h = absurd (omega arith)
ends_state line (next ∷ rest) s some h = ap (λ b. if b then s else state_after_lines (next ∷ rest) (state_after line s)) h

ends_unread : (line : List ℕ) (pieces : List (List ℕ)) (s : SessionState) → 0 < length pieces → is_last line s ≡ true
    → unread_lines (line ∷ pieces) s ≡ join_by (λ l. l) (10 ∷ []) pieces
ends_unread line [] s some h = absurd (omega arith)
ends_unread line (next ∷ rest) s some h =
    ap (λ b. if b then join_by (λ l. l) (10 ∷ []) (next ∷ rest) else unread_lines (next ∷ rest) (state_after line s)) h

-- ---- whole conversations: lines that go on, and then a part of a line, the line's feed and a rest or nothing

module _ (lines : List (List ℕ)) (part : List ℕ) (s : SessionState) (whole : All IsInLine lines) (one : IsInLine part)
    (go : goes_on lines s ≡ true) where
  abbrev t : SessionState
  t = state_after_all lines s

  module _ (rest : List ℕ) (last : is_last part t ≡ true) where
    pieces : slice_split is_feed ((fed lines ++ part) ++ 10 ∷ rest) ≡ lines ++ part ∷ slice_split is_feed rest
    pieces = pieces_at_feed lines part rest whole one

    some : 0 < length (slice_split is_feed rest)
    some = omega (arith, length-slice_split is_feed rest)

    pub told_last : conversation ((fed lines ++ part) ++ 10 ∷ rest) s ≡ replies lines s ++ reply_to part t
    told_last =
        ap (λ ps. replies_to ps s) pieces ∙ replies_through part (slice_split is_feed rest) lines s go
        ∙ ap (λ text. replies lines s ++ text) (ends_reply part (slice_split is_feed rest) t some last)

    pub state_last : state_after_conversation ((fed lines ++ part) ++ 10 ∷ rest) s ≡ t
    state_last =
        ap (λ ps. state_after_lines ps s) pieces ∙ state_through part (slice_split is_feed rest) lines s go
        ∙ ends_state part (slice_split is_feed rest) t some last

    pub unread_last : unread ((fed lines ++ part) ++ 10 ∷ rest) s ≡ rest
    unread_last =
        ap (λ ps. unread_lines ps s) pieces ∙ unread_through part (slice_split is_feed rest) lines s go
        ∙ ends_unread part (slice_split is_feed rest) t some last ∙ joined rest

  ends : slice_split is_feed (fed lines ++ part) ≡ lines ++ part ∷ []
  ends = pieces_at_end lines part whole one

  pub told_end : conversation (fed lines ++ part) s ≡ replies lines s ++ (if length part == 0 then [] else reply_to part t)
  told_end = ap (λ ps. replies_to ps s) ends ∙ replies_through part [] lines s go

  pub state_end : state_after_conversation (fed lines ++ part) s ≡ (if length part == 0 then t else state_after part t)
  state_end = ap (λ ps. state_after_lines ps s) ends ∙ state_through part [] lines s go

  pub unread_end : unread (fed lines ++ part) s ≡ []
  unread_end = ap (λ ps. unread_lines ps s) ends ∙ unread_through part [] lines s go
