-- The steps of a session on a schedule are those of the run on it.
use Rattle.std.proofs.Common.{◌≡◌, ℕ, zero, suc, ◌+◌, ◌-◌, Bool, true, false, ◌&&◌, ◌||◌, List, [], ◌∷◌, ◌++◌, refl, sym, ap, ◌∙◌}
use Rattle.std.proofs.Common.{append_assoc, append-nil, subst, arith}
use Rattle.std.specs.Prelude.{Option, Some, None, if◌then◌else◌, length, map, not, option_to_list}
use Rattle.steps.specs.declared.event.Event.{Event}
use Rattle.steps.specs.declared.event.Event.TheVariants.{Step, Tick, Byte}
use Rattle.steps.specs.State.{State}
use Rattle.steps.specs.Event.{after, sent}
use Rattle.machine.specs.Run.{run_after}
use Rattle.schedules.specs.Schedule.{byte_before, first_steps, is_halted, is_tick_after, steps_in, up_to_halt}
use Rattle.schedules.proofs.Events.{is_halted-brought, no_more, run_after-append, state_after}
use Rattle.past.specs.Replay.{ReplayState}
use Rattle.debugger.specs.Stepping.{is_at_end, ready, step_events, steps_while}
use Rattle.debugger.specs.Stops.{Ends, is_end}
use Rattle.past.specs.Replay.{byte_due, byte_events, replayed, step_done}
use Rattle.debugger.specs.OnSchedule.{events_so_far}

-- ---- where a schedule stands after events

pub replayed-append : (xs ys : List Event) (r : ReplayState) → replayed (xs ++ ys) r ≡ replayed ys (replayed xs r)
replayed-append [] ys r = refl
replayed-append (Step ∷ xs) ys r = replayed-append xs ys (step_done r)
replayed-append (Tick ∷ xs) ys r = replayed-append xs ys r
replayed-append (Byte b ∷ xs) ys r = replayed-append xs ys (record r { brought = true })

pub schedule-stays : (es : List Event) (r : ReplayState) → (replayed es r).schedule ≡ r.schedule
schedule-stays [] r = refl
schedule-stays (Step ∷ es) r = schedule-stays es (step_done r)
schedule-stays (Tick ∷ es) r = schedule-stays es r
schedule-stays (Byte b ∷ es) r = schedule-stays es (record r { brought = true })

pub input-stays : (es : List Event) (r : ReplayState) → (replayed es r).input ≡ r.input
input-stays [] r = refl
input-stays (Step ∷ es) r = input-stays es (step_done r)
input-stays (Tick ∷ es) r = input-stays es r
input-stays (Byte b ∷ es) r = input-stays es (record r { brought = true })

pub done-counts : (es : List Event) (r : ReplayState) → (replayed es r).done ≡ r.done + steps_in es
done-counts [] r =
    let none : r.done ≡ r.done + 0 = omega arith in
    none
done-counts (Step ∷ es) r =
    let one : r.done + 1 + steps_in es ≡ r.done + suc (steps_in es) = omega arith in
    done-counts es (step_done r) ∙ one
done-counts (Tick ∷ es) r = done-counts es r
done-counts (Byte b ∷ es) r = done-counts es (record r { brought = true })

-- a byte before a step and a tick after it are not counted
pub byte-is-passed : (x : Option ℕ) (r : ReplayState) → step_done (replayed (map Byte (option_to_list x)) r) ≡ step_done r
byte-is-passed None r = refl
byte-is-passed (Some b) r = refl

pub tick-is-passed : (c : Bool) (r : ReplayState) → replayed (if c then Tick ∷ [] else []) r ≡ r
tick-is-passed true r = refl
tick-is-passed false r = refl

pub step-is-counted : (r : ReplayState) (s : State) → replayed (step_events (Some r) s) r ≡ step_done r
step-is-counted r s = tick-is-passed _ (step_done r)

-- ---- the run on the schedule

abbrev steps_given : ReplayState → List Event
steps_given r = first_steps r.schedule r.input r.done

abbrev byte_before_next : ReplayState → Option ℕ
byte_before_next r = byte_before r.schedule r.input (r.done + 1)

abbrev with_byte : ReplayState → List Event
with_byte r = steps_given r ++ map Byte (option_to_list (byte_before_next r))

-- with the byte before the next step the schedule stands after it, whether it was given before or is now
byte-is-given : (r : ReplayState) → events_so_far (replayed (byte_events (Some r)) r) ≡ with_byte r
byte-is-given r = go r.brought refl (byte_before_next r) refl
  where
    go : (b : Bool) → r.brought ≡ b → (x : Option ℕ) → byte_before_next r ≡ x
        → events_so_far (replayed (map Byte (option_to_list (if b then None else x))) r) ≡ with_byte r
    go true e x is = rw e refl
    go false e None is = rw (e, is) refl
    go false e (Some b) is = refl

next-steps : (r : ReplayState) → with_byte r ++ Step ∷ (if is_tick_after r.schedule (r.done + 1) then Tick ∷ [] else [])
    ≡ events_so_far (step_done r)
next-steps r =
    let one : r.done + 1 ≡ suc r.done = omega arith in
    append_assoc (steps_given r) (map Byte (option_to_list (byte_before_next r))) _
    ∙ ap (first_steps r.schedule r.input) (sym one)
    ∙ sym (append-nil (first_steps r.schedule r.input (r.done + 1)))

-- after the step that halts no tick comes
last-tick : (due halted : Bool) (s : State)
    → (if halted then [] else up_to_halt (if due then Tick ∷ [] else []) s) ≡ (if due && not halted then Tick ∷ [] else [])
last-tick true true s = refl
last-tick true false s = ap (λ es. Tick ∷ es) (no_more (is_halted (after Tick s)))
last-tick false true s = refl
last-tick false false s = refl

third-is-false : (a b c : Bool) → a || (b || c) ≡ false → c ≡ false
third-is-false false false c h = h
third-is-false false true c h = absurd (cc)
third-is-false true b c h = absurd (cc)

module _ (start : State) (running : is_halted start ≡ false) where
  abbrev Is : List Event → State → Type 0
  Is events t = t ≡ run_after (up_to_halt events start) start

  more : (xs ys : List Event) (t : State) → is_halted t ≡ false → Is xs t → Is (xs ++ ys) (run_after (up_to_halt ys t) t)
  more xs ys t still so_far = state_after xs ys start t running so_far still (run_after (up_to_halt ys t) t) refl

  one_byte : (b : ℕ) (t : State) → run_after (up_to_halt (Byte b ∷ []) t) t ≡ after (Byte b) t
  one_byte b t = ap (λ es. run_after es (after (Byte b) t)) (no_more (is_halted (after (Byte b) t)))

  brought_at : (given : List Event) (t : State) → is_halted t ≡ false → (b : Bool) (x : Option ℕ)
      → Is (given ++ (if b then map Byte (option_to_list x) else [])) t
      → Is (given ++ map Byte (option_to_list x)) (run_after (map Byte (option_to_list (if b then None else x))) t)
  brought_at given t still true x at = at
  brought_at given t still false None at = at
  brought_at given t still false (Some b) at =
      sym (one_byte b t) ∙ more given (Byte b ∷ []) t still (subst (λ es. Is es t) (append-nil given) at)

  ready_at : (r : ReplayState) (t : State) → is_halted t ≡ false → Is (events_so_far r) t → Is (with_byte r) (ready (Some r) t)
  ready_at r t still at = brought_at (steps_given r) t still r.brought (byte_before_next r) at

  stepped_at : (r : ReplayState) (t : State) → is_halted t ≡ false → Is (with_byte r) t
      → Is (events_so_far (step_done r)) (run_after (step_events (Some r) t) t)
  stepped_at r t still at =
      let due = is_tick_after r.schedule (r.done + 1) in
      ap (λ es. run_after es (after Step t)) (sym (last-tick due (is_halted (after Step t)) (after Step t)))
      ∙ more (with_byte r) (Step ∷ (if due then Tick ∷ [] else [])) t still at
      ∙ ap (λ es. run_after (up_to_halt es start) start) (next-steps r)

  pub follows : (n : ℕ) (first later : Ends) (r : ReplayState) (room : ℕ) (t : State) → Is (events_so_far r) t
      → Is (events_so_far (replayed (steps_while first later (Some r) n room t) r))
      (run_after (steps_while first later (Some r) n room t) t)
  follows zero first later r room t at = at
  follows (suc n) first later r room t at =
      go (λ here. follows n later later (step_done r) (room - length (option_to_list (sent Step there))) (run_after steps there) here)
      (is_at_end (Some r) room t) refl
    where
      Good : List Event → Type 0
      Good es = Is (events_so_far (replayed es r)) (run_after es t)

      byte : List Event
      byte = byte_events (Some r)

      there : State
      there = ready (Some r) t

      steps : List Event
      steps = step_events (Some r) there

      later_steps : List Event
      later_steps =
          steps_while later later (Some (step_done r)) n (room - length (option_to_list (sent Step there))) (run_after steps there)

      Later : Type 0
      Later = Is (events_so_far (step_done r)) (run_after steps there)
          → Is (events_so_far (replayed later_steps (step_done r))) (run_after later_steps (run_after steps there))

      stepped : Later → is_halted there ≡ false → Is (with_byte r) there
          → Is (events_so_far (replayed (steps ++ later_steps) (replayed byte r))) (run_after (steps ++ later_steps) there)
      stepped goes_on still here =
          let counted : replayed steps (replayed byte r) ≡ step_done r =
          tick-is-passed _ (step_done (replayed byte r)) ∙ byte-is-passed (byte_due (Some r)) r in
          rw (replayed-append steps later_steps (replayed byte r), run_after-append steps later_steps there, counted)
          (goes_on (stepped_at r there still here))

      or_stops : Later → (b : Bool) → is_halted there ≡ false → Is (with_byte r) there
          → Is (events_so_far (replayed (if b then [] else (steps ++ later_steps)) (replayed byte r)))
          (run_after (if b then [] else (steps ++ later_steps)) there)
      or_stops goes_on true still here = here ∙ ap (λ es. run_after (up_to_halt es start) start) (sym (byte-is-given r))
      or_stops goes_on false still here = stepped goes_on still here

      go : Later → (b : Bool) → is_at_end (Some r) room t ≡ b
          → Good (if b then [] else (byte ++ (if is_end first there then [] else (steps ++ later_steps))))
      go goes_on true e = at
      go goes_on false e =
          let still : is_halted t ≡ false = third-is-false _ _ (is_halted t) e in
          let rest : List Event = if is_end first there then [] else (steps ++ later_steps) in
          rw (replayed-append byte rest r, run_after-append byte rest t)
          (or_stops goes_on (is_end first there) (is_halted-brought (byte_due (Some r)) t ∙ still) (ready_at r t still at))
