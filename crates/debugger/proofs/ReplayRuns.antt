-- A session on a schedule stands, after commands, where the run on it stands.
use Rattle.std.proofs.Common.{◌≡◌, ℕ, suc, ◌+◌, true, false, List, [], ◌∷◌, All, refl, sym, ap, ◌∙◌, append-nil, subst, arith}
use Rattle.std.specs.Prelude.{Option, Some}
use Rattle.steps.specs.declared.event.Event.{Event}
use Rattle.steps.specs.State.{State}
use Rattle.machine.specs.Run.{run_after}
use Rattle.schedules.specs.declared.schedule.Schedule.{Schedule}
use Rattle.schedules.specs.Schedule.{first_steps, is_halted, steps_in, up_to_halt}
use Rattle.debug_commands.specs.declared.command.Command.TheVariants.{Gives}
use Rattle.debug_commands.specs.declared.command.Events.{Events}
use Rattle.debug_commands.specs.declared.command.Events.TheVariants.{Steps, Ticks, Byte, Until, Go, Changed}
use Rattle.debugger.specs.SessionState.{SessionState, session_with}
use Rattle.past.specs.Replay.{ReplayState}
use Rattle.debugger.specs.Stepping.{most_sent, steps_while}
use Rattle.debugger.specs.Stops.{Mark, Ends, at_stops, nowhere, of_go}
use Rattle.past.specs.Replay.{replayed}
use Rattle.debugger.specs.Reply.{after_events, are_scheduled, given, given_in, marks_for, owed_after, own_steps, replay_after}
use Rattle.debugger.specs.Reply.{session_after}
use Rattle.debugger.specs.Reply.{timeline_of}
use Rattle.debugger.specs.OnSchedule.{IsOnSchedule, are_whole_steps, events_so_far, session_after_all, steps_of_all}
use Rattle.debugger.proofs.Gives.{not_owed, own_are_streams}
use Rattle.debugger.proofs.Replays.{done-counts, follows, input-stays, schedule-stays}

-- the steps of a command on a schedule
abbrev IsStepping : List Event → ReplayState → State → Type 0
IsStepping events r s =
    (first : Ends) × (later : Ends) × (n : ℕ) × (room : ℕ) × (events ≡ steps_while first later (Some r) n room s)

is-stepping : (events : Events) (replay : Option ReplayState) (r : ReplayState) (marks : List Mark) (s : State)
    → are_whole_steps events ≡ true → replay ≡ Some r → IsStepping (given events replay false marks s) r s
unfolding given own_steps
is-stepping (Steps n) replay r marks s whole is = (nowhere, nowhere, n, n, rw is refl)
is-stepping (Ticks n) replay r marks s whole is = absurd (cc)
is-stepping (Byte b) replay r marks s whole is = absurd (cc)
is-stepping (Until stop n) replay r marks s whole is = (at_stops marks, at_stops marks, n, most_sent n, rw is refl)
is-stepping (Go n) replay r marks s whole is = (nowhere, of_go marks, n, most_sent n, rw is refl)
is-stepping (Changed place n) replay r marks s whole is = absurd (cc)

is-scheduled : (events : Events) → are_whole_steps events ≡ true → are_scheduled events ≡ true
is-scheduled (Steps n) whole = refl
is-scheduled (Ticks n) whole = absurd (cc)
is-scheduled (Byte b) whole = absurd (cc)
is-scheduled (Until stop n) whole = refl
is-scheduled (Go n) whole = refl
is-scheduled (Changed place n) whole = absurd (cc)

-- after whole steps no tick is to come yet
none-owed : (events : Events) (replay : Option ReplayState) (marks : List Mark) (s : State) → are_whole_steps events ≡ true
    → owed_after events (given events replay false marks s) replay false s ≡ false
unfolding given owed_after
none-owed (Steps n) replay marks s whole = not_owed (own_are_streams (Steps n) replay marks s)
none-owed (Ticks n) replay marks s whole = absurd (cc)
none-owed (Byte b) replay marks s whole = absurd (cc)
none-owed (Until stop n) replay marks s whole = not_owed (own_are_streams (Until stop n) replay marks s)
none-owed (Go n) replay marks s whole = not_owed (own_are_streams (Go n) replay marks s)
none-owed (Changed place n) replay marks s whole = absurd (cc)

stands-after : (events : Events) (es : List Event) (replay : Option ReplayState) (r : ReplayState) → are_scheduled events ≡ true
    → replay ≡ Some r → replay_after events es replay ≡ Some (replayed es r)
unfolding replay_after
stands-after events es replay r scheduled is = rw (scheduled, is) refl

add_none : (n : ℕ) → n ≡ n + 0
add_none n = omega arith

none_add : (n : ℕ) → 0 + n ≡ n
none_add n = omega arith

add_both : (a b c : ℕ) → a + b + c ≡ a + (b + c)
add_both a b c = omega arith

module _ (start : State) (schedule : Schedule) (input : List ℕ) where
  abbrev On : ℕ → SessionState → Type 0
  On done s = IsOnSchedule start schedule input done s

  module _ (running : is_halted start ≡ false) where
    pub one-more : (done : ℕ) (events : Events) (s : SessionState) → are_whole_steps events ≡ true → On done s
        → On (done + steps_in (given_in events s)) (session_after (Gives events) s)
    one-more done events s whole on =
        let r = on.replay in
        let marks = marks_for events s.stops s.machine in
        let es = given events s.replay false marks s.machine in
        let same : given_in events s ≡ es = ap (λ o. given events s.replay o marks s.machine) on.whole in
        let stepping = is-stepping events s.replay r marks s.machine whole on.is in
        subst (λ given. On (done + steps_in given) (session_with (after_events events given (timeline_of s)) s.symbols s.stops)) (sym same)
        (record {
          replay = replayed es r;
          is = stands-after events es s.replay r (is-scheduled events whole) on.is;
          schedule_is = schedule-stays es r ∙ on.schedule_is;
          input_is = input-stays es r ∙ on.input_is;
          done_is = done-counts es r ∙ ap (λ n. n + steps_in es) on.done_is;
          whole = ap (λ o. owed_after events es s.replay o s.machine) on.whole ∙ none-owed events s.replay marks s.machine whole;
          machine = subst
              (λ (steps : List Event). run_after steps s.machine ≡ run_after (up_to_halt (events_so_far (replayed steps r)) start) start)
              (sym stepping.4)
              (follows start running stepping.2 stepping.0 stepping.1 r stepping.3 s.machine on.machine);
        })

    pub all-more : (commands : List Events) (done : ℕ) (s : SessionState) → All (λ events. are_whole_steps events ≡ true) commands
        → On done s → On (done + steps_of_all commands s) (session_after_all commands s)
    all-more [] done s scheduled on = subst (λ n. On n s) (add_none done) on
    all-more (events ∷ rest) done s scheduled on =
        subst (λ n. On n (session_after_all rest (session_after (Gives events) s)))
        (add_both done (steps_in (given_in events s)) (steps_of_all rest (session_after (Gives events) s)))
        (all-more rest (done + steps_in (given_in events s)) (session_after (Gives events) s)
        (λ k d below. scheduled (suc k) d (omega (arith, below)))
        (one-more done events s (scheduled 0 events (omega arith)) on))

    pub from-start : (commands : List Events) (s : SessionState) → All (λ events. are_whole_steps events ≡ true) commands → On 0 s
        → On (steps_of_all commands s) (session_after_all commands s)
    from-start commands s scheduled on =
        subst (λ n. On n (session_after_all commands s)) (none_add (steps_of_all commands s)) (all-more commands 0 s scheduled on)

  pub is-the-run : (done : ℕ) (s : SessionState) (on : On done s) → on.replay.brought ≡ false
      → s.machine ≡ run_after (up_to_halt (first_steps schedule input done) start) start
  is-the-run done s on none =
      let r = on.replay in
      let so_far : events_so_far r ≡ first_steps r.schedule r.input r.done = rw none (append-nil (first_steps r.schedule r.input r.done)) in
      on.machine ∙ ap (λ es. run_after (up_to_halt es start) start) (so_far ∙ rw (on.schedule_is, on.input_is, on.done_is) refl)
