-- A session stands where its past leads, after each command.
use Rattle.std.proofs.Common.{◌≡◌, ℕ, zero, suc, Bool, true, false, not, ◌&&◌, List, [], ◌∷◌, ◌++◌, length, refl, sym, ap, ap₂, ◌∙◌}
use Rattle.std.proofs.Common.{subst, append-nil}
use Rattle.std.specs.Prelude.{Option, None, Some, option_map, replicate, if◌then◌else◌}
use Rattle.debug_commands.specs.declared.command.Events.{Events}
use Rattle.debug_commands.specs.declared.command.Events.TheVariants.{Steps, Ticks, Byte, Until, Go, Changed}
use Rattle.debugger.specs.Stops.{Mark}
use Rattle.std.proofs.lemmas.Bool.{true≢false}
use Rattle.devices.specs.Devices.{received}
use Rattle.steps.specs.Event.{after}
use Rattle.hart.specs.Opening.{opening}
use Rattle.steps.specs.State.{State}
use Rattle.steps.specs.declared.event.Event.{Event}
use Rattle.steps.specs.declared.event.Event.TheVariants as event
use Rattle.machine.specs.Run.{run_after}
use Rattle.past.proofs.InOrder.{events_of-append, position_of-append}
use Rattle.past.specs.Given.{PastState, events_of, events_of_one, past_events, position_after_one, position_of}
use Rattle.past.specs.Position.{Position, at, beginning, events_from, position_after}
use Rattle.past.specs.Replay.{ReplayState, replayed}
use Rattle.past.specs.declared.given.Given.{Given}
use Rattle.past.specs.declared.given.Given.TheVariants as gave
use Rattle.schedules.specs.Schedule.{is_halted}
use Rattle.schedules.proofs.Events.{run_after-append}
use Rattle.debugger.specs.Reply.{are_scheduled, given, given_of, owed_after, replay_after}
use Rattle.debugger.specs.SessionState.{StandsAfter}
use Rattle.debugger.proofs.Bounded.{length-replicate}
use Rattle.debugger.proofs.Gives.{given_after_halt, goes, stream_replayed}
use Rattle.debugger.proofs.Replays.{input-stays, schedule-stays}

-- ---- a schedule's beginning is the same after its events

beginning_replayed : (es : List Event) (replay : Option ReplayState) → beginning (option_map (replayed es) replay) ≡ beginning replay
beginning_replayed es None = refl
beginning_replayed es (Some r) = rw (schedule-stays es r, input-stays es r) refl

beginning_if : (b : Bool) (es : List Event) (replay : Option ReplayState)
    → beginning (if b then option_map (replayed es) replay else replay) ≡ beginning replay
beginning_if true es replay = beginning_replayed es replay
beginning_if false es replay = refl

pub beginning_after : (events : Events) (es : List Event) (replay : Option ReplayState)
    → beginning (replay_after events es replay) ≡ beginning replay
unfolding replay_after
beginning_after events es replay = beginning_if (are_scheduled events) es replay

-- ---- without a schedule no tick is to come

alone_after : (n : ℕ) → position_after n (at None false) ≡ at None false
alone_after zero = refl
alone_after (suc n) = alone_after n

alone_one : (g : Given) → position_after_one g (at None false) ≡ at None false
alone_one (gave.Steps n) = alone_after n
alone_one (gave.Ticks n) = refl
alone_one (gave.Byte b) = refl

alone : (gs : List Given) → position_of gs (at None false) ≡ at None false
alone [] = refl
alone (g ∷ gs) = ap (position_of gs) (alone_one g) ∙ alone gs

-- ---- one command more

-- what a past has of it, from where the steps stand in it
record Fits (g : Given) (es : List Event) (p : Position) (replay : Option ReplayState) (owed : Bool) (s : State) : Type 0 where
  events : events_of_one g p ≡ es
  replay_is : (position_after_one g p).replay ≡ replay
  owed_is : owed ≡ ((position_after_one g p).owed && not (is_halted s))

module _ (past : PastState) (replay : Option ReplayState) (owed : Bool) (s : State) (stands : StandsAfter past replay owed s) where
  abbrev p : Position
  p = position_of past.given (beginning replay)

  kept : (events : Events) (g : Given) (es : List Event)
      → Fits g es p (replay_after events es replay) (owed_after events es replay owed s) (run_after es s)
      → StandsAfter (record past { given = past.given ++ g ∷ [] }) (replay_after events es replay) (owed_after events es replay owed s)
      (run_after es s)
  kept events g es fits =
      let same = beginning_after events es replay in
      let now = position_of-append past.given (g ∷ []) (beginning replay) in
      let there = ap (position_of (past.given ++ g ∷ [])) same ∙ now in
      record {
        machine = ap (run_after es) stands.machine
            ∙ sym (run_after-append (past_events past replay) es (opening past.image))
            ∙ ap (λ e. run_after (past_events past replay ++ e) (opening past.image))
            (sym fits.events ∙ sym (append-nil (events_of_one g p)))
            ∙ ap (λ e. run_after e (opening past.image)) (sym (events_of-append past.given (g ∷ []) (beginning replay)))
            ∙ ap (λ q. run_after (events_of (past.given ++ g ∷ []) q) (opening past.image)) (sym same);
        steps = ap (λ q. q.replay) there ∙ fits.replay_is;
        tick = fits.owed_is ∙ ap (λ q. q.owed && not (is_halted (run_after es s))) (sym there);
      }

  -- ---- steps

  abbrev es_of : Events → List Mark → List Event
  es_of events marks = given events replay owed marks s

  abbrev FitsOwn : Events → List Event → Type 0
  FitsOwn events es =
      Fits (gave.Steps (length es)) es p (replay_after events es replay) (owed_after events es replay owed s) (run_after es s)

  replay_own : (events : Events) (es : List Event) → are_scheduled events ≡ true
      → replay_after events es replay ≡ option_map (replayed es) replay
  unfolding replay_after
  replay_own events es own = rw own refl

  owed_own : (events : Events) (es : List Event) → are_scheduled events ≡ true
      → owed_after events es replay owed s
      ≡ ((position_after (length es) (at replay owed)).owed && not (is_halted (run_after es s)))
  unfolding owed_after
  owed_own events es own = rw own refl

  -- where the steps stand in the past as they do in the session
  fits_same : (events : Events) (es : List Event) → are_scheduled events ≡ true → p ≡ at replay owed
      → es ≡ events_from (length es) (at replay owed) → FitsOwn events es
  fits_same events es own same stream = record {
    events = ap (events_from (length es)) same ∙ sym stream;
    replay_is = ap (λ q. (position_after (length es) q).replay) same ∙ stream_replayed (length es) (at replay owed)
        ∙ ap (λ l. option_map (replayed l) replay) (sym stream) ∙ sym (replay_own events es own);
    owed_is = owed_own events es own
        ∙ ap (λ q. (position_after (length es) q).owed && not (is_halted (run_after es s))) (sym same);
  }

  and_not : (a b h : Bool) → h ≡ true → (a && not h) ≡ (b && not h)
  and_not true true true e = refl
  and_not true false true e = refl
  and_not false true true e = refl
  and_not false false true e = refl
  and_not a b false e = absurd (cc)

  none_replayed : option_map (replayed []) replay ≡ replay
  none_replayed = go replay
    where
      go : (r : Option ReplayState) → option_map (replayed []) r ≡ r
      go None = refl
      go (Some r) = refl

  -- after the halt nothing is given
  fits_none : (events : Events) (es : List Event) → are_scheduled events ≡ true → is_halted s ≡ true → es ≡ [] → FitsOwn events es
  fits_none events es own halted none =
      subst (FitsOwn events) (sym none)
      (record {
        events = refl;
        replay_is = stands.steps ∙ sym none_replayed ∙ sym (replay_own events [] own);
        owed_is = owed_own events [] own ∙ and_not owed p.owed (is_halted s) halted;
      })

  halted_off : (b : Bool) → b ≡ true → (p.owed && not b) ≡ false
  halted_off true e = go p.owed
    where
      go : (o : Bool) → (o && not true) ≡ false
      go true = refl
      go false = refl
  halted_off false e = absurd (cc)

  not_alone : (r : Option ReplayState) → replay ≡ r → p.owed ≡ true → (events : Events) (marks : List Mark) → are_scheduled events ≡ true
      → is_halted s ≡ true → es_of events marks ≡ []
  not_alone None e due events marks own halted =
      let is_alone : p ≡ at None false = ap (λ o. position_of past.given (beginning o)) e ∙ alone past.given in
      absurd (true≢false (sym due ∙ ap (λ q. q.owed) is_alone))
  not_alone (Some r) e due events marks own halted =
      let off : owed ≡ false = stands.tick ∙ halted_off (is_halted s) halted in
      ap₂ (λ o b. given events o b marks s) e off ∙ given_after_halt events r marks s own halted

  stays_whole : (o h : Bool) → p.owed ≡ o → is_halted s ≡ h → (events : Events) (marks : List Mark) → are_scheduled events ≡ true
      → FitsOwn events (es_of events marks)
  stays_whole true true due halted events marks own =
      fits_none events (es_of events marks) own halted (not_alone replay refl due events marks own halted)
  stays_whole true false due halted events marks own =
      let same : owed ≡ p.owed = stands.tick ∙ rw (due, halted) refl in
      fits_same events (es_of events marks) own (ap₂ at stands.steps (sym same)) (goes events replay owed marks s own)
  stays_whole false h due halted events marks own =
      let same : owed ≡ p.owed = stands.tick ∙ rw due refl in
      fits_same events (es_of events marks) own (ap₂ at stands.steps (sym same)) (goes events replay owed marks s own)

  own_kept : (events : Events) (marks : List Mark) → are_scheduled events ≡ true → FitsOwn events (es_of events marks)
  own_kept events marks own = stays_whole p.owed (is_halted s) refl refl events marks own

  -- ---- ticks and bytes beside them

  ticks_run : (n : ℕ) (t : State) → is_halted (run_after (replicate n event.Tick) t) ≡ is_halted t
  ticks_run zero t = refl
  ticks_run (suc n) t = ticks_run n (after event.Tick t)

  byte_halts : (b : ℕ) (t : State) → is_halted (after (event.Byte b) t) ≡ is_halted t
  unfolding received
  byte_halts b t = refl

  -- ---- all

  pub keeps : (events : Events) (marks : List Mark)
      → StandsAfter (record past { given = past.given ++ given_of events (length (es_of events marks)) ∷ [] })
      (replay_after events (es_of events marks) replay) (owed_after events (es_of events marks) replay owed s)
      (run_after (es_of events marks) s)
  unfolding given replay_after owed_after
  keeps (Steps n) marks = kept (Steps n) _ (es_of (Steps n) marks) (own_kept (Steps n) marks refl)
  keeps (Until stop n) marks = kept (Until stop n) _ (es_of (Until stop n) marks) (own_kept (Until stop n) marks refl)
  keeps (Go n) marks = kept (Go n) _ (es_of (Go n) marks) (own_kept (Go n) marks refl)
  keeps (Changed place n) marks = kept (Changed place n) _ (es_of (Changed place n) marks) (own_kept (Changed place n) marks refl)
  keeps (Ticks n) marks =
      kept (Ticks n) (gave.Ticks (length (replicate n event.Tick))) (replicate n event.Tick)
      (record {
        events = ap (λ k. replicate k event.Tick) (length-replicate n event.Tick);
        replay_is = stands.steps;
        owed_is = stands.tick ∙ ap (λ h. p.owed && not h) (sym (ticks_run n s));
      })
  keeps (Byte b) marks =
      kept (Byte b) (gave.Byte b) (event.Byte b ∷ [])
      (record {
        events = refl;
        replay_is = stands.steps;
        owed_is = stands.tick ∙ ap (λ h. p.owed && not h) (sym (byte_halts b s));
      })
