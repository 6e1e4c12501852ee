-- What a command gives is what its session's steps give next, and the past keeps it.
use Rattle.std.proofs.Common.{◌≡◌, ℕ, zero, suc, ◌+◌, Bool, true, false, not, ◌&&◌, ◌||◌, List, [], ◌∷◌, ◌++◌, length, refl, sym, ap}
use Rattle.std.proofs.Common.{◌∙◌, arith}
use Rattle.std.specs.Prelude.{Option, None, Some, option_map, if◌then◌else◌}
use Rattle.debug_commands.specs.declared.command.Events.{Events}
use Rattle.debug_commands.specs.declared.command.Events.TheVariants.{Steps, Ticks, Byte, Until, Go, Changed}
use Rattle.origins.specs.declared.place.Place.{Place}
use Rattle.steps.specs.State.{State}
use Rattle.steps.specs.declared.event.Event.{Event}
use Rattle.steps.specs.declared.event.Event.TheVariants as event
use Rattle.machine.specs.Run.{run_after, run_sent}
use Rattle.origins.specs.Places.{held}
use Rattle.cap_bounds.specs.CapValue.{CapValue}
use Rattle.past.specs.Position.{Position, after_byte_or_step, at, byte_or_step, events_from, next_event, next_position, position_after}
use Rattle.past.specs.Replay.{ReplayState, byte_due, replayed}
use Rattle.schedules.specs.Schedule.{is_halted}
use Rattle.debugger.specs.Reply.{are_scheduled, given, owed_after, owed_events, own_steps, replay_after, with_tick}
use Rattle.debugger.specs.Stepping.{holds, is_at_end, is_done, most_sent, steps_holding, steps_while}
use Rattle.debugger.specs.Stops.{Mark, Ends, at_stops, nowhere, of_go}
use Rattle.debugger.proofs.Changes.{holding_is_stream}
use Rattle.debugger.proofs.Streams.{IsStream, counted_are_streams, steps_are_streams}

-- ---- steps alone

pub own_are_streams : (events : Events) (replay : Option ReplayState) (marks : List Mark) (s : State)
    → IsStream (own_steps events replay marks s) replay s
unfolding own_steps
own_are_streams (Steps n) replay marks s = counted_are_streams replay n s
own_are_streams (Until stop n) replay marks s =
    steps_are_streams (at_stops marks) (at_stops marks) replay n (most_sent n) s
own_are_streams (Go n) replay marks s = steps_are_streams nowhere (of_go marks) replay n (most_sent n) s
own_are_streams (Ticks n) replay marks s = steps_are_streams nowhere nowhere replay 0 0 s
own_are_streams (Byte b) replay marks s = steps_are_streams nowhere nowhere replay 0 0 s
own_are_streams (Changed place n) replay marks s = steps_are_streams nowhere nowhere replay 0 0 s

-- ---- with the tick that is to come yet

owed_stream : (owed : Bool) (replay : Option ReplayState) (es : List Event) → es ≡ events_from (length es) (at replay false)
    → owed_events owed ++ es ≡ events_from (length (owed_events owed ++ es)) (at replay owed)
owed_stream false replay es stream = stream
owed_stream true replay es stream = ap (λ later. event.Tick ∷ later) stream

-- ---- where the schedule stands

one_replayed : (replay : Option ReplayState) (owed : Bool) (es : List Event)
    → option_map (replayed (next_event (at replay owed) ∷ es)) replay ≡ option_map (replayed es) (next_position (at replay owed)).replay
one_replayed None true es = refl
one_replayed None false es = refl
one_replayed (Some r) true es = refl
one_replayed (Some r) false es = go (byte_due (Some r))
  where
    go : (due : Option ℕ) → Some (replayed (byte_or_step due ∷ es) r) ≡ option_map (replayed es) (after_byte_or_step due (Some r)).replay
    go (Some b) = refl
    go None = refl

pub same_replay : (replay : Option ReplayState) → replay ≡ option_map (replayed []) replay
same_replay None = refl
same_replay (Some r) = refl

pub stream_replayed : (n : ℕ) (p : Position) → (position_after n p).replay ≡ option_map (replayed (events_from n p)) p.replay
stream_replayed zero p = same_replay p.replay
stream_replayed (suc n) p =
    stream_replayed n (next_position p) ∙ sym (one_replayed p.replay p.owed (events_from n (next_position p)))

-- ---- the events of a command that the schedule has, if there is one

pub goes : (events : Events) (replay : Option ReplayState) (owed : Bool) (marks : List Mark) (s : State) → are_scheduled events ≡ true
    → given events replay owed marks s ≡ events_from (length (given events replay owed marks s)) (at replay owed)
unfolding given
goes (Steps n) replay owed marks s own =
    owed_stream owed replay _ (own_are_streams (Steps n) replay marks (run_after (owed_events owed) s)).events
goes (Until stop n) replay owed marks s own =
    owed_stream owed replay _ (own_are_streams (Until stop n) replay marks (run_after (owed_events owed) s)).events
goes (Go n) replay owed marks s own =
    owed_stream owed replay _ (own_are_streams (Go n) replay marks (run_after (owed_events owed) s)).events
goes (Changed place n) replay owed marks s own = holding_is_stream place (held place s) n (at replay owed) s
goes (Ticks n) replay owed marks s own = absurd (cc)
goes (Byte b) replay owed marks s own = absurd (cc)

-- ---- after the halt

third : (a b c : Bool) → c ≡ true → a || (b || c) ≡ true
third true b c h = refl
third false true c h = refl
third false false c h = h

nothing : (es : List Event) (b : Bool) → b ≡ true → (if b then [] else es) ≡ []
nothing es true h = refl
nothing es false h = absurd (cc)

none_after_halt : (first later : Ends) (replay : Option ReplayState) (n room : ℕ) (s : State) → is_halted s ≡ true
    → steps_while first later replay n room s ≡ []
none_after_halt first later replay zero room s h = refl
none_after_halt first later replay (suc n) room s h = nothing _ (is_at_end replay room s) (third _ _ (is_halted s) h)

first_of_three : (a b c : Bool) → a ≡ true → (a || b) || c ≡ true
first_of_three true b c h = refl
first_of_three false b c h = absurd (cc)

none_held_after_halt : (place : Place) (v : CapValue) (n : ℕ) (p : Position) (s : State) → is_halted s ≡ true
    → steps_holding place v n p s ≡ []
none_held_after_halt place v zero p s h = refl
none_held_after_halt place v (suc n) p s h =
    nothing _ (is_done p s || not (holds place v s)) (first_of_three (is_halted s) _ (not (holds place v s)) h)

pub given_after_halt : (events : Events) (r : ReplayState) (marks : List Mark) (s : State) → are_scheduled events ≡ true
    → is_halted s ≡ true → given events (Some r) false marks s ≡ []
unfolding given own_steps
given_after_halt (Steps n) r marks s own h = none_after_halt nowhere nowhere (Some r) n n s h
given_after_halt (Until stop n) r marks s own h =
    none_after_halt (at_stops marks) (at_stops marks) (Some r) n (most_sent n) s h
given_after_halt (Go n) r marks s own h = none_after_halt nowhere (of_go marks) (Some r) n (most_sent n) s h
given_after_halt (Changed place n) r marks s own h = none_held_after_halt place (held place s) n (at (Some r) false) s h
given_after_halt (Ticks n) r marks s own h = absurd (cc)
given_after_halt (Byte b) r marks s own h = absurd (cc)

-- ---- the tick that is to come yet, and steps

pub tick_run : (owed : Bool) (es : List Event) (s : State)
    → run_after es (run_after (if owed then event.Tick ∷ [] else []) s) ≡ run_after (owed_events owed ++ es) s
tick_run true es s = refl
tick_run false es s = refl

pub tick_sent : (owed : Bool) (es : List Event) (s : State)
    → run_sent es (run_after (owed_events owed) s) ≡ run_sent (owed_events owed ++ es) s
tick_sent true es s = refl
tick_sent false es s = refl

pub tick_replayed : (owed : Bool) (es : List Event) (replay : Option ReplayState)
    → option_map (replayed es) replay ≡ option_map (replayed (owed_events owed ++ es)) replay
tick_replayed false es replay = refl
tick_replayed true es None = refl
tick_replayed true es (Some r) = refl

pub tick_counted : (owed : Bool) (es : List Event)
    → length (if owed then event.Tick ∷ [] else []) + length es ≡ length (owed_events owed ++ es)
tick_counted true es = omega arith
tick_counted false es = omega arith

-- a stream ends with a tick that is due, but after the halt
pub not_owed : {es : List Event} {replay : Option ReplayState} {s : State} → IsStream es replay s
    → ((position_after (length es) (at replay false)).owed && not (is_halted (run_after es s))) ≡ false
not_owed {es} {replay} {s} stream = ap (λ p. p.owed && not (is_halted (run_after es s))) stream.position ∙ stream.halted

pub tick_paid : (events : Events) (replay : Option ReplayState) (owed : Bool) (marks : List Mark) (s : State)
    → ((position_after (length (with_tick events replay owed marks s)) (at replay owed)).owed
    && not (is_halted (run_after (with_tick events replay owed marks s) s))) ≡ false
tick_paid events replay true marks s = not_owed (own_are_streams events replay marks (run_after (owed_events true) s))
tick_paid events replay false marks s = not_owed (own_are_streams events replay marks s)

-- ---- events while a place holds a value

pub held_replay : (place : Place) (v : CapValue) (n : ℕ) (p : Position) (s : State)
    → (position_after (length (steps_holding place v n p s)) p).replay ≡ option_map (replayed (steps_holding place v n p s)) p.replay
held_replay place v n p s =
    stream_replayed (length (steps_holding place v n p s)) p
    ∙ ap (λ es. option_map (replayed es) p.replay) (sym (holding_is_stream place v n p s))

-- ---- the commands that give whole steps

abbrev pub are_own : Events → Bool
are_own (Steps n) = true
are_own (Until stop n) = true
are_own (Go n) = true
are_own other = false

pub other_own : (events : Events) → ((n : ℕ) → events ≡ Ticks n → ⊥) → ((b : ℕ) → events ≡ Byte b → ⊥)
    → ((place : Place) (n : ℕ) → events ≡ Changed place n → ⊥)
    → are_own events ≡ true
other_own (Ticks n) a b c = absurd (a n refl)
other_own (Byte n) a b c = absurd (b n refl)
other_own (Changed place n) a b c = absurd (c place n refl)
other_own (Steps n) a b c = refl
other_own (Until stop n) a b c = refl
other_own (Go n) a b c = refl

pub own_given : (events : Events) (replay : Option ReplayState) (owed : Bool) (marks : List Mark) (s : State) → are_own events ≡ true
    → with_tick events replay owed marks s ≡ given events replay owed marks s
unfolding given
own_given (Steps n) replay owed marks s own = refl
own_given (Until stop n) replay owed marks s own = refl
own_given (Go n) replay owed marks s own = refl
own_given (Ticks n) replay owed marks s own = absurd (cc)
own_given (Byte b) replay owed marks s own = absurd (cc)
own_given (Changed place n) replay owed marks s own = absurd (cc)

own_scheduled : (events : Events) → are_own events ≡ true → are_scheduled events ≡ true
own_scheduled (Steps n) own = refl
own_scheduled (Until stop n) own = refl
own_scheduled (Go n) own = refl
own_scheduled (Ticks n) own = absurd (cc)
own_scheduled (Byte b) own = absurd (cc)
own_scheduled (Changed place n) own = absurd (cc)

pub scheduled_replay : (events : Events) (es : List Event) (replay : Option ReplayState) → are_scheduled events ≡ true
    → option_map (replayed es) replay ≡ replay_after events es replay
unfolding replay_after
scheduled_replay events es replay own = rw own refl

pub scheduled_owed : (events : Events) (es : List Event) (replay : Option ReplayState) (owed : Bool) (s : State)
    → are_scheduled events ≡ true
    → ((position_after (length es) (at replay owed)).owed && not (is_halted (run_after es s))) ≡ owed_after events es replay owed s
unfolding owed_after
scheduled_owed events es replay owed s own = rw own refl

pub paid_replay : (events : Events) (replay : Option ReplayState) (owed : Bool) (marks : List Mark) (s : State) → are_own events ≡ true
    → option_map (replayed (with_tick events replay owed marks s)) replay
    ≡ replay_after events (given events replay owed marks s) replay
paid_replay events replay owed marks s own =
    ap (λ es. option_map (replayed es) replay) (own_given events replay owed marks s own)
    ∙ scheduled_replay events (given events replay owed marks s) replay (own_scheduled events own)

pub paid_owed : (events : Events) (replay : Option ReplayState) (owed : Bool) (marks : List Mark) (s : State) → are_own events ≡ true
    → false ≡ owed_after events (given events replay owed marks s) replay owed s
paid_owed events replay owed marks s own =
    sym (tick_paid events replay owed marks s)
    ∙ scheduled_owed events (with_tick events replay owed marks s) replay owed s (own_scheduled events own)
    ∙ ap (λ es. owed_after events es replay owed s) (own_given events replay owed marks s own)

-- ---- changes

changed_given : (events : Events) (place : Place) (n : ℕ) (replay : Option ReplayState) (owed : Bool) (marks : List Mark) (s : State)
    → events ≡ Changed place n → steps_holding place (held place s) n (at replay owed) s ≡ given events replay owed marks s
unfolding given
changed_given events place n replay owed marks s e = sym (ap (λ given_by. given given_by replay owed marks s) e)

pub changed_replay : (events : Events) (place : Place) (n : ℕ) (replay : Option ReplayState) (owed : Bool) (marks : List Mark) (s : State)
    → events ≡ Changed place n → (r : Option ReplayState) (o : Bool)
    → at r o ≡ position_after (length (steps_holding place (held place s) n (at replay owed) s)) (at replay owed)
    → r ≡ replay_after events (given events replay owed marks s) replay
changed_replay events place n replay owed marks s e r o position =
    ap (λ (p : Position). p.replay) position ∙ held_replay place (held place s) n (at replay owed) s
    ∙ ap (λ es. option_map (replayed es) replay) (changed_given events place n replay owed marks s e)
    ∙ scheduled_replay events (given events replay owed marks s) replay (ap are_scheduled e)

pub not_both : (a b : Bool) → a ≡ not b → b ≡ not a
not_both true true e = absurd (cc)
not_both true false e = refl
not_both false true e = refl
not_both false false e = absurd (cc)

true_and : (a b : Bool) → a ≡ true → b ≡ (a && b)
true_and true b e = refl
true_and false b e = absurd (cc)

pub changed_owed : (events : Events) (place : Place) (n : ℕ) (replay : Option ReplayState) (owed : Bool) (marks : List Mark) (s : State)
    → events ≡ Changed place n → (r : Option ReplayState) (o : Bool)
    → at r o ≡ position_after (length (steps_holding place (held place s) n (at replay owed) s)) (at replay owed) → (m : State)
    → m ≡ run_after (steps_holding place (held place s) n (at replay owed) s) s → o ≡ true
    → not (is_halted m) ≡ owed_after events (given events replay owed marks s) replay owed s
changed_owed events place n replay owed marks s e r o position m state on =
    let es : List Event = steps_holding place (held place s) n (at replay owed) s in
    true_and o (not (is_halted m)) on
    ∙ ap (λ (p : Position). p.owed && not (is_halted m)) position
    ∙ ap (λ t. (position_after (length es) (at replay owed)).owed && not (is_halted t)) state
    ∙ scheduled_owed events es replay owed s (ap are_scheduled e)
    ∙ ap (λ given_es. owed_after events given_es replay owed s) (changed_given events place n replay owed marks s e)
