-- What was heard and answered so far, one step further; what is left where it is cut short; and the whole conversation.
use Rattle.std.proofs.Common.{◌≡◌, ℕ, zero, suc, ◌+◌, ◌-◌, ◌<◌, ◌≤◌, true, false, List, [], ◌∷◌, ◌++◌, length, take, drop, Option, Some}
use Rattle.std.proofs.Common.{None, refl, sym, ap, subst, ◌∙◌, append_assoc, append-nil, arith}
use Rattle.std.specs.Prelude.{◌==◌, if◌then◌else◌, IfSome, ◌⊎◌}
use Rattle.std.proofs.Common.{inl, inr}
use Rattle.std.proofs.KnownBytes.{Appends-nil, Appends-trans, Consumes-nil, Consumes-trans, Consumes-kept}
use Rattle.std.proofs.lemmas.Bool.Decides.{nat_tests}
use Rattle.std.proofs.lemmas.List.{length-append}
use Rattle.std.proofs.lemmas.List.Elements.{All-nil, All-push}
use Rattle.std.specs.Io.KnownBytes.{Appends, Consumes, Keeps, IsAtEnd}
use Rattle.image.specs.Devices.{AppendsBeginning}
use Rattle.image.specs.BeginningLaws.{beginning_after}
use Rattle.debugger.specs.declared.fault.TalkFault.{TalkFault}
use Rattle.debugger.specs.declared.fault.TalkFault.TheVariants.{Read, Write, Memory}
use Rattle.debug_commands.specs.Command.{command_of}
use Rattle.debugger.specs.Reply.{admitted, state_after, allowed, state_by}
use Rattle.debugger.specs.SessionState.{SessionState}
use Rattle.debugger.specs.Standing.{Standing, standing_with}
use Rattle.debugger.specs.Conversation.{reply_by, ends_by, reply_to, is_last, conversation, state_after_conversation, unread}
use Rattle.debugger.specs.Talk.{most_heard, heard, is_feed, fed, replies, state_after_all, Ends, IsTold, IsRead, IsCutInLine, LeavesOff}
use Rattle.debugger.specs.Heard.{FailsToReply, IsInLine, IsHeard, IsHeardToEnd}
use Rattle.debugger.proofs.Pieces.{before_none, in_line_more, whole_lines, fed_more, take_again, take_front, take_behind}
use Rattle.debugger.proofs.Conversing.{kept_command, same_after_last, goes_on_more, replies_more, state_after_more, told_last, state_last}
use Rattle.debugger.proofs.Conversing.{unread_last, told_end, state_end, unread_end}

-- ---- a line of which a beginning is kept does the same

module _ (line part : List ℕ) (kept : line ≡ take 256 part) (s : SessionState) where
  command : command_of s.symbols line ≡ command_of s.symbols part
  command = ap (command_of s.symbols) kept ∙ kept_command s.symbols part

  pub same_reply : reply_to line s ≡ reply_to part s
  same_reply = ap (λ r. reply_by (admitted (allowed r s.past s.machine) s) s) command

  pub same_last : is_last line s ≡ is_last part s
  same_last = ap (λ r. ends_by (admitted (allowed r s.past s.machine) s) s) command

  pub same_state : state_after line s ≡ state_after part s
  same_state = ap (λ r. state_by (admitted (allowed r s.past s.machine) s) s) command

-- ---- the beginning

pub nothing_heard : (now : Standing) (line : List ℕ) → line ≡ [] → IsHeard 0 line now now
nothing_heard now line e = record {
  lines = [];
  part = [];
  read = Consumes-nil now.left;
  count = refl;
  in_lines = All-nil IsInLine;
  in_line = All-nil (λ b. is_feed b ≡ false);
  goes_on = refl;
  text = Appends-nil now.held;
  state = refl;
  kept = e;
}

-- ---- known bytes, numbers and empty lines

if_known : (lo ln : Option (List ℕ)) (bytes : List ℕ) (P : List ℕ → Option (List ℕ) → Type 0) → Consumes lo ln bytes
    → ((input rest : List ℕ) → ln ≡ Some rest → input ≡ bytes ++ rest → P input (Some rest)) → IfSome lo (λ input. P input ln)
if_known None ln bytes P c f = tt
if_known (Some input) None bytes P c f = absurd c
if_known (Some input) (Some rest) bytes P c f = f input rest refl c

take_nil : (k : ℕ) → take {A = ℕ} k [] ≡ []
take_nil zero = refl
take_nil (suc k) = refl

not_zero : (n : ℕ) → (suc n == 0) ≡ false
not_zero n = grind (arith, nat_tests)

empty_same : (part : List ℕ) → (length (take 256 part) == 0) ≡ (length part == 0)
empty_same [] = refl
empty_same (x ∷ xs) = not_zero (length (take 255 xs)) ∙ sym (not_zero (length xs))

at_most : (n m : ℕ) → m ≡ n → (ln : Option (List ℕ)) → (n ≡ most_heard) ⊎ ((n < most_heard) × IsAtEnd ln) → m ≤ most_heard
at_most n m e ln (inl most) = omega arith
at_most n m e ln (inr at) = omega (arith, at.0)

is_some : (k : ℕ) → (k == 0) ≡ false → 0 < k
is_some k h = grind (arith, nat_tests)

reached : (n m : ℕ) → m ≡ n → (ln : Option (List ℕ)) → (n ≡ most_heard) ⊎ ((n < most_heard) × IsAtEnd ln) → (m ≡ most_heard) ⊎ IsAtEnd ln
reached n m e ln (inl most) = inl (e ∙ most)
reached n m e ln (inr at) = inr at.1

-- ---- one byte more

module _ (n : ℕ) (line : List ℕ) (old new : Standing) (h : IsHeard n line old new) where
  abbrev bytes : List ℕ
  bytes = fed h.lines ++ h.part

  abbrev t : SessionState
  t = state_after_all h.lines old.state

  reply_here : reply_to line new.state ≡ reply_to h.part t
  reply_here = same_reply line h.part h.kept new.state ∙ ap (reply_to h.part) h.state

  last_here : is_last line new.state ≡ is_last h.part t
  last_here = same_last line h.part h.kept new.state ∙ ap (is_last h.part) h.state

  state_here : state_after line new.state ≡ state_after h.part t
  state_here = same_state line h.part h.kept new.state ∙ ap (state_after h.part) h.state

  -- the bytes up to the next one
  module _ (left' : Option (List ℕ)) (b : ℕ) (next : Consumes new.left left' (b ∷ [])) where
    consumed : Consumes old.left left' (bytes ++ b ∷ [])
    consumed = Consumes-trans old.left new.left left' bytes (b ∷ []) h.read next

    longer : length (bytes ++ b ∷ []) ≡ n + 1
    longer = length-append bytes (b ∷ []) ∙ ap (λ k. k + 1) h.count

    consumed_part : Consumes old.left left' (fed h.lines ++ (h.part ++ b ∷ []))
    consumed_part = subst (Consumes old.left left') (append_assoc (fed h.lines) h.part (b ∷ [])) consumed

    pub heard_byte : (line' : List ℕ) → is_feed b ≡ false → line' ≡ take 256 (line ++ b ∷ [])
        → IsHeard (n + 1) line' old (standing_with new.state left' new.held)
    heard_byte line' e k = record {
      lines = h.lines;
      part = h.part ++ b ∷ [];
      read = consumed_part;
      count = ap length (sym (append_assoc (fed h.lines) h.part (b ∷ []))) ∙ longer;
      in_lines = h.in_lines;
      in_line = in_line_more h.part b h.in_line e;
      goes_on = h.goes_on;
      text = h.text;
      state = h.state;
      kept = k ∙ ap (λ l. take 256 (l ++ b ∷ [])) h.kept ∙ take_again 256 h.part (b ∷ []);
    }

  -- what was read where the next line feed came
  module _ (left' : Option (List ℕ)) (next : Consumes new.left left' (10 ∷ [])) where
    abbrev lines' : List (List ℕ)
    lines' = h.lines ++ h.part ∷ []

    module _ (s : SessionState) (held' : Option (List ℕ)) (state : s ≡ state_after line new.state)
        (text : Appends new.held held' (reply_to line new.state)) where
      written : Appends old.held held' (replies h.lines old.state ++ reply_to h.part t)
      written = Appends-trans old.held new.held held' (replies h.lines old.state) _ h.text (subst (Appends new.held held') reply_here text)

      pub heard_line : (line' : List ℕ) → is_last line new.state ≡ false → line' ≡ []
          → IsHeard (n + 1) line' old (standing_with s left' held')
      heard_line line' e k =
          let same : fed lines' ++ [] ≡ bytes ++ 10 ∷ [] = append-nil (fed lines') ∙ fed_more h.lines h.part in
          record {
            lines = lines';
            part = [];
            read = subst (Consumes old.left left') (sym same) (consumed left' 10 next);
            count = ap length same ∙ longer left' 10 next;
            in_lines = All-push IsInLine h.lines h.part h.in_lines h.in_line;
            in_line = All-nil (λ b. is_feed b ≡ false);
            goes_on = goes_on_more h.lines h.part old.state h.goes_on (sym last_here ∙ e);
            text = subst (Appends old.held held') (sym (replies_more h.lines h.part old.state)) written;
            state = state ∙ state_here ∙ sym (state_after_more h.lines h.part old.state);
            kept = k;
          }

      told_of : (input rest : List ℕ) → input ≡ (bytes ++ 10 ∷ []) ++ rest → n < most_heard → is_last line new.state ≡ true
          → IsTold input old (standing_with s (Some rest) held')
      told_of input rest e small last =
          let short : length (bytes ++ 10 ∷ []) ≤ most_heard = omega (arith, longer left' 10 next) in
          let more : List ℕ = take (most_heard - length (bytes ++ 10 ∷ [])) rest in
          let is : heard input ≡ bytes ++ 10 ∷ more =
          ap (take most_heard) e ∙ take_front most_heard (bytes ++ 10 ∷ []) rest short ∙ append_assoc bytes (10 ∷ []) more in
          let others : more ++ drop most_heard input ≡ rest =
          ap (λ l. more ++ drop most_heard l) e ∙ take_behind most_heard (bytes ++ 10 ∷ []) rest short in
          let ended : is_last h.part t ≡ true = sym last_here ∙ last in
          record {
            text = subst (Appends old.held held')
                (sym (ap (λ l. conversation l old.state) is
                ∙ told_last h.lines h.part old.state h.in_lines h.in_line h.goes_on more ended)) written;
            state =
                state ∙ state_here ∙ same_after_last h.part t ended
                ∙ sym (ap (λ l. state_after_conversation l old.state) is
                ∙ state_last h.lines h.part old.state h.in_lines h.in_line h.goes_on more ended);
            rest =
                ap (λ l. Some l) (sym others
                ∙ ap (λ l. l ++ drop most_heard input)
                (sym (ap (λ l. unread l old.state) is
                ∙ unread_last h.lines h.part old.state h.in_lines h.in_line h.goes_on more ended)));
          }

      -- the line that ended the conversation was answered
      pub heard_last : n < most_heard → is_last line new.state ≡ true
          → IfSome old.left (λ input. IsTold input old (standing_with s left' held'))
      heard_last small last =
          if_known old.left left' (bytes ++ 10 ∷ []) (λ input left. IsTold input old (standing_with s left held')) (consumed left' 10 next)
          (λ input rest _ e. told_of input rest e small last)

    -- the line could not be answered
    read_feed : (s : SessionState) (held' : Option (List ℕ)) → IsRead h.lines (h.part ++ 10 ∷ []) old (standing_with s left' held')
    read_feed s held' = record { read = consumed_part left' 10 next; are_lines = whole_lines h.lines h.in_lines; goes_on = h.goes_on }

    pub cut_at_feed : (fault : TalkFault) (s : SessionState) (held' : Option (List ℕ))
        → FailsToReply fault line (standing_with new.state None new.held) (standing_with s None held')
        → LeavesOff fault old (standing_with s left' held')
    cut_at_feed Read s held' f = absurd f
    cut_at_feed Write s held' f = record {
      lines = h.lines;
      line = h.part;
      past = 10 ∷ [];
      is_read = read_feed s held';
      is_line = before_none h.part h.in_line;
      ends = inl refl;
      text =
          beginning_after old.held new.held held' (replies h.lines old.state) _ h.text
          (subst (AppendsBeginning new.held held') reply_here f.0);
      state = f.1 ∙ state_here;
    }
    cut_at_feed Memory s held' f = record {
      lines = h.lines;
      line = h.part;
      past = 10 ∷ [];
      is_read = read_feed s held';
      is_line = before_none h.part h.in_line;
      ends = inl refl;
      text = subst (λ held. Appends old.held held (replies h.lines old.state)) (sym f.0) h.text;
      state = f.1 ∙ h.state;
    }

  -- no byte more
  pub cut_at_read : (left' : Option (List ℕ)) → Keeps new.left left' → IsCutInLine old (standing_with new.state left' new.held)
  cut_at_read left' k = record {
    lines = h.lines;
    part = h.part;
    is_read = record {
      read = Consumes-kept old.left new.left left' bytes h.read k;
      are_lines = whole_lines h.lines h.in_lines;
      goes_on = h.goes_on;
    };
    is_in_line = before_none h.part h.in_line;
    text = h.text;
    state = h.state;
  }

  pub heard_end : (left' : Option (List ℕ)) → n < most_heard → Consumes new.left left' [] → IsAtEnd left'
      → IsHeardToEnd line old (standing_with new.state left' new.held)
  heard_end left' small none end = record {
    count = n;
    heard = record {
      lines = h.lines;
      part = h.part;
      read = subst (Consumes old.left left') (append-nil bytes) (Consumes-trans old.left new.left left' bytes [] h.read none);
      count = h.count;
      in_lines = h.in_lines;
      in_line = h.in_line;
      goes_on = h.goes_on;
      text = h.text;
      state = h.state;
      kept = h.kept;
    };
    end = inr (small, end);
  }

  same_test : (length line == 0) ≡ (length h.part == 0)
  same_test = ap (λ l. length l == 0) h.kept ∙ empty_same h.part

  -- the last line, which has no line feed
  module _ (end : (n ≡ most_heard) ⊎ ((n < most_heard) × IsAtEnd new.left)) (some : (length line == 0) ≡ false) where
    read_rest : (s : SessionState) (held' : Option (List ℕ)) → IsRead h.lines (h.part ++ []) old (standing_with s new.left held')
    read_rest s held' = record {
      read = subst (λ l. Consumes old.left new.left (fed h.lines ++ l)) (sym (append-nil h.part)) h.read;
      are_lines = whole_lines h.lines h.in_lines;
      goes_on = h.goes_on;
    }

    ends_rest : Ends h.lines h.part [] new.left
    ends_rest = inr (refl, is_some (length h.part) (sym same_test ∙ some), reached n (length bytes) h.count new.left end)

    pub cut_at_rest : (fault : TalkFault) (s : SessionState) (held' : Option (List ℕ))
        → FailsToReply fault line (standing_with new.state None new.held) (standing_with s None held')
        → LeavesOff fault old (standing_with s new.left held')
    cut_at_rest Read s held' f = absurd f
    cut_at_rest Write s held' f = record {
      lines = h.lines;
      line = h.part;
      past = [];
      is_read = read_rest s held';
      is_line = before_none h.part h.in_line;
      ends = ends_rest;
      text =
          beginning_after old.held new.held held' (replies h.lines old.state) _ h.text
          (subst (AppendsBeginning new.held held') reply_here f.0);
      state = f.1 ∙ state_here;
    }
    cut_at_rest Memory s held' f = record {
      lines = h.lines;
      line = h.part;
      past = [];
      is_read = read_rest s held';
      is_line = before_none h.part h.in_line;
      ends = ends_rest;
      text = subst (λ held. Appends old.held held (replies h.lines old.state)) (sym f.0) h.text;
      state = f.1 ∙ h.state;
    }

  no_more : (rest : List ℕ) → (n ≡ most_heard) ⊎ ((n < most_heard) × IsAtEnd (Some rest)) → take (most_heard - length bytes) rest ≡ []
  no_more rest (inl most) = let none : most_heard - length bytes ≡ 0 = omega (arith, h.count) in ap (λ k. take k rest) none
  no_more rest (inr at) = ap (take (most_heard - length bytes)) at.1 ∙ take_nil (most_heard - length bytes)

  module _ (end : (n ≡ most_heard) ⊎ ((n < most_heard) × IsAtEnd new.left)) (s : SessionState) (held' : Option (List ℕ))
      (state : s ≡ (if length h.part == 0 then t else state_after h.part t))
      (text : Appends old.held held' (replies h.lines old.state ++ (if length h.part == 0 then [] else reply_to h.part t))) where
    told_of_all : (input rest : List ℕ) → new.left ≡ Some rest → input ≡ bytes ++ rest
        → IsTold input old (standing_with s (Some rest) held')
    told_of_all input rest is e =
        let none : take (most_heard - length bytes) rest ≡ [] =
        no_more rest (subst (λ left. (n ≡ most_heard) ⊎ ((n < most_heard) × IsAtEnd left)) is end) in
        let short : length bytes ≤ most_heard = at_most n (length bytes) h.count new.left end in
        let all : heard input ≡ bytes = ap (take most_heard) e ∙ take_front most_heard bytes rest short ∙ ap (λ l. bytes ++ l) none
        ∙ append-nil bytes in
        let others : drop most_heard input ≡ rest =
        ap (drop most_heard) e ∙ ap (λ l. l ++ drop most_heard (bytes ++ rest)) (sym none) ∙ take_behind most_heard bytes rest short in
        record {
          text = subst (Appends old.held held')
              (sym (ap (λ l. conversation l old.state) all ∙ told_end h.lines h.part old.state h.in_lines h.in_line h.goes_on)) text;
          state =
              state
              ∙ sym (ap (λ l. state_after_conversation l old.state) all
              ∙ state_end h.lines h.part old.state h.in_lines h.in_line h.goes_on);
          rest =
              ap (λ l. Some l) (sym others
              ∙ ap (λ l. l ++ drop most_heard input)
              (sym (ap (λ l. unread l old.state) all ∙ unread_end h.lines h.part old.state h.in_lines h.in_line h.goes_on)));
        }

    told_all : IfSome old.left (λ input. IsTold input old (standing_with s new.left held'))
    told_all = if_known old.left new.left bytes (λ input left. IsTold input old (standing_with s left held')) h.read told_of_all

  -- there is no last line
  pub told_without_rest : (n ≡ most_heard) ⊎ ((n < most_heard) × IsAtEnd new.left) → (length line == 0) ≡ true
      → IfSome old.left (λ input. IsTold input old (standing_with new.state new.left new.held))
  told_without_rest end none =
      let test : (length h.part == 0) ≡ true = sym same_test ∙ none in
      told_all end new.state new.held (h.state ∙ sym (ap (λ b. if b then t else state_after h.part t) test))
      (subst (Appends old.held new.held)
      (sym (ap (λ b. replies h.lines old.state ++ (if b then [] else reply_to h.part t)) test
      ∙ append-nil (replies h.lines old.state))) h.text)

  -- it was answered
  pub told_with_rest : (n ≡ most_heard) ⊎ ((n < most_heard) × IsAtEnd new.left) → (length line == 0) ≡ false
      → (s : SessionState) (held' : Option (List ℕ))
      → s ≡ state_after line new.state → Appends new.held held' (reply_to line new.state)
      → IfSome old.left (λ input. IsTold input old (standing_with s new.left held'))
  told_with_rest end some s held' state text =
      let test : (length h.part == 0) ≡ false = sym same_test ∙ some in
      told_all end s held' (state ∙ state_here ∙ sym (ap (λ b. if b then t else state_after h.part t) test))
      (subst (Appends old.held held') (sym (ap (λ b. replies h.lines old.state ++ (if b then [] else reply_to h.part t)) test))
      (Appends-trans old.held new.held held' (replies h.lines old.state) _ h.text (subst (Appends new.held held') reply_here text)))
