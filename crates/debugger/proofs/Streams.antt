-- The events of a session's steps are those of its position, one after the other, and lead where its schedule stands after them.
use Rattle.std.proofs.Common.{◌≡◌, ℕ, zero, suc, ◌-◌, Bool, true, false, ◌&&◌, ◌||◌, List, [], ◌∷◌, ◌++◌, refl, sym, ap, ap₂, ◌∙◌, subst}
use Rattle.std.proofs.Common.{append-nil}
use Rattle.std.specs.Prelude.{Option, Some, None, if◌then◌else◌, length, map, not, option_map, option_to_list, replicate}
use Rattle.steps.specs.declared.event.Event.{Event}
use Rattle.steps.specs.declared.event.Event.TheVariants.{Step, Tick, Byte}
use Rattle.steps.specs.State.{State}
use Rattle.steps.specs.Event.{after, sent}
use Rattle.machine.specs.Run.{run_after}
use Rattle.schedules.specs.Schedule.{is_halted}
use Rattle.schedules.proofs.Events.{run_after-append}
use Rattle.past.specs.Position.{Position, after_byte_or_step, at, byte_or_step, events_from, next_event, next_position, position_after}
use Rattle.past.specs.Replay.{ReplayState, byte_due, byte_events, is_tick_due, replayed, step_done}
use Rattle.debugger.specs.Stepping.{counted_steps, is_at_end, next_step, ready, step_events, steps_while}
use Rattle.debugger.specs.Stops.{Ends, is_end, nowhere}
use Rattle.debugger.proofs.Replays.{byte-is-passed, replayed-append, tick-is-passed}

-- ---- events that come from a position, and where they lead

abbrev Leads : List Event → Position → Position → Type 0
Leads [] p q = p ≡ q
Leads (e ∷ es) p q = (next_event p ≡ e) × Leads es (next_position p) q

leads-append : (xs ys : List Event) (p q r : Position) → Leads xs p q → Leads ys q r → Leads (xs ++ ys) p r
leads-append [] ys p q r here later = subst (λ p. Leads ys p r) (sym here) later
leads-append (x ∷ xs) ys p q r here later = (here.0, leads-append xs ys (next_position p) q r here.1 later)

events_lead : (es : List Event) (p q : Position) → Leads es p q → es ≡ events_from (length es) p
events_lead [] p q leads = refl
events_lead (e ∷ es) p q leads = ap₂ (λ e es. e ∷ es) (sym leads.0) (events_lead es (next_position p) q leads.1)

position_leads : (es : List Event) (p q : Position) → Leads es p q → position_after (length es) p ≡ q
position_leads [] p q leads = leads
position_leads (e ∷ es) p q leads = position_leads es (next_position p) q leads.1

-- ---- a step with the byte before it and the tick after it

abbrev after_byte : Option ReplayState → Option ReplayState
after_byte replay = option_map (replayed (byte_events replay)) replay

byte_leads : (replay : Option ReplayState) → Leads (byte_events replay) (at replay false) (at (after_byte replay) false)
byte_leads None = refl
byte_leads (Some r) = go (byte_due (Some r)) refl
  where
    go : (due : Option ℕ) → byte_due (Some r) ≡ due
        → Leads (map Byte (option_to_list due)) (at (Some r) false) (at (Some (replayed (map Byte (option_to_list due)) r)) false)
    go None e = refl
    go (Some b) e = (ap byte_or_step e, ap (λ due. after_byte_or_step due (Some r)) e)

byte_is_given : (replay : Option ReplayState) → byte_due (after_byte replay) ≡ None
byte_is_given None = refl
byte_is_given (Some r) = go (byte_due (Some r)) refl
  where
    go : (due : Option ℕ) → byte_due (Some r) ≡ due → byte_due (Some (replayed (map Byte (option_to_list due)) r)) ≡ None
    go None e = e
    go (Some b) e = refl

tick_is_kept : (replay : Option ReplayState) → is_tick_due (after_byte replay) ≡ is_tick_due replay
tick_is_kept None = refl
tick_is_kept (Some r) = go (byte_due (Some r))
  where
    go : (due : Option ℕ) → is_tick_due (Some (replayed (map Byte (option_to_list due)) r)) ≡ is_tick_due (Some r)
    go None = refl
    go (Some b) = refl

next_is_kept : (replay : Option ReplayState) → option_map step_done (after_byte replay) ≡ next_step replay
next_is_kept None = refl
next_is_kept (Some r) = ap Some (byte-is-passed (byte_due (Some r)) r)

step_leads : (replay : Option ReplayState)
    → Leads (Step ∷ []) (at (after_byte replay) false) (at (next_step replay) (is_tick_due replay))
step_leads replay = (
  ap byte_or_step (byte_is_given replay),
  ap (λ due. after_byte_or_step due (after_byte replay)) (byte_is_given replay)
      ∙ ap₂ at (next_is_kept replay) (tick_is_kept replay),
)

tick_leads : (replay : Option ReplayState) (due halted : Bool)
    → Leads (if due && not halted then Tick ∷ [] else []) (at replay due) (at replay (due && halted))
tick_leads replay true true = refl
tick_leads replay true false = (refl, refl)
tick_leads replay false halted = refl

steps_lead : (replay : Option ReplayState) (s : State)
    → Leads (step_events replay s) (at (after_byte replay) false) (at (next_step replay) (is_tick_due replay && is_halted (after Step s)))
steps_lead replay s =
    let due = is_tick_due replay in
    let halted = is_halted (after Step s) in
    leads-append (Step ∷ []) (if due && not halted then Tick ∷ [] else []) (at (after_byte replay) false) (at (next_step replay) due) _
    (step_leads replay) (tick_leads (next_step replay) due halted)

-- ---- all steps

-- Where they lead: the tick after the last of them is left out only on a machine that is halted.
pub record IsStream (es : List Event) (replay : Option ReplayState) (s : State) : Type 0 where
  pub events : es ≡ events_from (length es) (at replay false)
  pub owed : Bool
  pub position : position_after (length es) (at replay false) ≡ at (option_map (replayed es) replay) owed
  pub halted : owed && not (is_halted (run_after es s)) ≡ false

-- from a position on: where the tick of a step before may be owed
abbrev GoesOn : List Event → Option ReplayState → Bool → State → Type 0
GoesOn es replay before s =
    (owed : Bool) × Leads es (at replay before) (at (option_map (replayed es) replay) owed)
    × (owed && not (is_halted (run_after es s)) ≡ false)

same_replay : (replay : Option ReplayState) → replay ≡ option_map (replayed []) replay
same_replay None = refl
same_replay (Some r) = refl

none : (replay : Option ReplayState) (owed : Bool) → Leads [] (at replay owed) (at (option_map (replayed []) replay) owed)
none replay owed = ap (λ replay. at replay owed) (same_replay replay)

both : (a b : Bool) → a && b ≡ true → (a ≡ true) × (b ≡ true)
both true true h = (refl, refl)
both true false h = absurd (cc)
both false b h = absurd (cc)

third : (a b c : Bool) → c ≡ true → a || (b || c) ≡ true
third true b c h = refl
third false true c h = refl
third false false c h = h

nothing : (es : List Event) (b : Bool) → b ≡ true → (if b then [] else es) ≡ []
nothing es true h = refl
nothing es false h = absurd (cc)

none_after_halt : (later : Ends) (replay : Option ReplayState) (n room : ℕ) (s : State) → is_halted s ≡ true
    → steps_while later later replay n room s ≡ []
none_after_halt later replay zero room s h = refl
none_after_halt later replay (suc n) room s h = nothing _ (is_at_end replay room s) (third _ _ (is_halted s) h)

-- a step, and what comes after it
module _ (replay : Option ReplayState) (s : State) (rest : List Event) where
  abbrev byte : List Event
  byte = byte_events replay

  abbrev there : State
  there = ready replay s

  abbrev steps : List Event
  steps = step_events replay there

  abbrev owes : Bool
  owes = is_tick_due replay && is_halted (after Step there)

  module _ (later : GoesOn rest (next_step replay) false (run_after steps there))
      (last : is_halted (run_after steps there) ≡ true → rest ≡ []) where
    last_step : is_tick_due replay ≡ true → is_halted (after Step there) ≡ true → steps ≡ Step ∷ []
    last_step due halted = rw (due, halted) refl

    goes_on : (owed : Bool) → owes ≡ owed → GoesOn rest (next_step replay) owed (run_after steps there)
    goes_on false e = later
    goes_on true e =
        let is = both (is_tick_due replay) (is_halted (after Step there)) e in
        let ended : is_halted (run_after steps there) ≡ true =
        ap (λ es. is_halted (run_after es there)) (last_step is.0 is.1) ∙ is.1 in
        subst (λ es. GoesOn es (next_step replay) true (run_after steps there)) (sym (last ended))
        (true, none (next_step replay) true, ap not ended)

    replay_goes_on : option_map (replayed rest) (next_step replay) ≡ option_map (replayed (byte ++ (steps ++ rest))) replay
    replay_goes_on = go replay refl
      where
        go : (r : Option ReplayState) → replay ≡ r
            → option_map (replayed rest) (next_step r) ≡ option_map (replayed (byte_events r ++ (step_events r there ++ rest))) r
        go None e = refl
        go (Some r) e =
            let given = replayed (byte_events (Some r)) r in
            ap Some (
            ap (replayed rest) (sym (tick-is-passed _ (step_done given) ∙ byte-is-passed (byte_due (Some r)) r))
            ∙ sym (replayed-append (step_events (Some r) there) rest given)
            ∙ sym (replayed-append (byte_events (Some r)) (step_events (Some r) there ++ rest) r)
            )

    one_step : GoesOn (byte ++ (steps ++ rest)) replay false s
    one_step =
        let on = goes_on owes refl in
        let all = byte ++ (steps ++ rest) in
        let state : run_after all s ≡ run_after rest (run_after steps there) =
        run_after-append byte (steps ++ rest) s ∙ run_after-append steps rest there in (
          on.0,
          subst (λ r. Leads all (at replay false) (at r on.0)) replay_goes_on
              (leads-append byte (steps ++ rest) (at replay false) (at (after_byte replay) false) _ (byte_leads replay)
              (leads-append steps rest (at (after_byte replay) false) (at (next_step replay) owes) _ (steps_lead replay there) on.1)),
          ap (λ t. on.0 && not (is_halted t)) state ∙ on.2,
        )

goes_on_while : (n : ℕ) (first later : Ends) (replay : Option ReplayState) (room : ℕ) (s : State)
    → GoesOn (steps_while first later replay n room s) replay false s
goes_on_while zero first later replay room s = (false, none replay false, refl)
goes_on_while (suc n) first later replay room s =
    go (goes_on_while n later later (next_step replay) left (run_after steps there)) (is_at_end replay room s)
  where
    there : State
    there = ready replay s

    steps : List Event
    steps = step_events replay there

    left : ℕ
    left = room - length (option_to_list (sent Step there))

    rest : List Event
    rest = steps_while later later (next_step replay) n left (run_after steps there)

    or_stops : GoesOn rest (next_step replay) false (run_after steps there) → (b : Bool)
        → GoesOn (byte_events replay ++ (if b then [] else (steps ++ rest))) replay false s
    or_stops on true =
        subst (λ es. GoesOn es replay false s) (sym (append-nil (byte_events replay))) (false, byte_leads replay, refl)
    or_stops on false =
        one_step replay s rest on (none_after_halt later (next_step replay) n left (run_after steps there))

    go : GoesOn rest (next_step replay) false (run_after steps there) → (b : Bool)
        → GoesOn (if b then [] else (byte_events replay ++ (if is_end first there then [] else (steps ++ rest)))) replay false s
    go on true = (false, none replay false, refl)
    go on false = or_stops on (is_end first there)

steps_alone : (n : ℕ) → Leads (replicate n Step) (at None false) (at None false)
steps_alone zero = refl
steps_alone (suc n) = (refl, steps_alone n)

goes_on_counted : (replay : Option ReplayState) (n : ℕ) (s : State) → GoesOn (counted_steps replay n s) replay false s
goes_on_counted None n s = (false, steps_alone n, refl)
goes_on_counted (Some r) n s = goes_on_while n nowhere nowhere (Some r) n s

stream : (es : List Event) (replay : Option ReplayState) (s : State) → GoesOn es replay false s → IsStream es replay s
stream es replay s on = record {
  events = events_lead es (at replay false) _ on.1;
  owed = on.0;
  position = position_leads es (at replay false) _ on.1;
  halted = on.2;
}

pub steps_are_streams : (first later : Ends) (replay : Option ReplayState) (n room : ℕ) (s : State)
    → IsStream (steps_while first later replay n room s) replay s
steps_are_streams first later replay n room s =
    stream (steps_while first later replay n room s) replay s (goes_on_while n first later replay room s)

pub counted_are_streams : (replay : Option ReplayState) (n : ℕ) (s : State) → IsStream (counted_steps replay n s) replay s
counted_are_streams replay n s = stream (counted_steps replay n s) replay s (goes_on_counted replay n s)
