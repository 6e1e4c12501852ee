-- One step more on a schedule.
use Rattle.std.proofs.Common.{◌≡◌, ℕ, zero, suc, ◌+◌, ◌-◌, ◌<◌, ◌==◌, Bool, true, false, ◌||◌, List, [], ◌∷◌, ◌++◌, length}
use Rattle.std.proofs.Common.{refl, sym, ap, ◌∙◌}
use Rattle.std.proofs.Common.{append-nil, length-append, arith}
use Rattle.std.specs.Prelude.{Option, Some, None, if◌then◌else◌, is_some, map, option_to_list}
use Rattle.steps.specs.declared.event.Event.{Event}
use Rattle.steps.specs.declared.event.Event.TheVariants.{Step, Tick, Byte}
use Rattle.steps.specs.State.{State}
use Rattle.steps.specs.Event.{after, sent}
use Rattle.machine.specs.Run.{run_after, run_sent}
use Rattle.schedules.proofs.Events.{run_after-append, run_sent-append, run_sent-brought}
use Rattle.past.specs.Replay.{ReplayState}
use Rattle.debugger.specs.Stepping.{is_at_end, step_events, steps_while}
use Rattle.debugger.specs.Stops.{Ends, is_end}
use Rattle.past.specs.Replay.{byte_due, byte_events, replayed, step_done}
use Rattle.debugger.proofs.RunSteps.{if_not}
use Rattle.debugger.proofs.Replays.{replayed-append, byte-is-passed, tick-is-passed}

if_so : {A : Type 0} (b : Bool) (x y : A) → b ≡ true → (if b then x else y) ≡ x
if_so true x y h = refl
if_so false x y h = absurd (cc)

tick-is-due : (x : Option ℕ) (r : ReplayState) (t : State)
    → step_events (Some (replayed (map Byte (option_to_list x)) r)) t ≡ step_events (Some r) t
tick-is-due None r t = refl
tick-is-due (Some b) r t = refl

silent-tick : (c : Bool) (s : State) → run_sent (if c then Tick ∷ [] else []) s ≡ []
silent-tick true s = refl
silent-tick false s = refl

less_one : (n : ℕ) → suc n - 1 ≡ n
less_one n = omega arith

none : 0 < 0 → ⊥
none some = omega arith

pub at-end : (first later : Ends) (n room : ℕ) (r : ReplayState) (s : State) → is_at_end (Some r) room s ≡ true
    → steps_while first later (Some r) n room s ≡ []
at-end first later zero room r s h = refl
at-end first later (suc n) room r s h = if_so (is_at_end (Some r) room s) [] _ h

pub none-left : (first later : Ends) (n room : ℕ) (r : ReplayState) (s : State) → n ≡ 0
    → steps_while first later (Some r) n room s ≡ []
none-left first later zero room r s h = refl
none-left first later (suc n) room r s h = absurd (omega (arith, h))

second-is-false : (a b c : Bool) → a || (b || c) ≡ false → b ≡ false
second-is-false false false c h = refl
second-is-false false true c h = absurd (cc)
second-is-false true b c h = absurd (cc)

not-none : (n : ℕ) → (n == 0) ≡ false → 0 < n
not-none zero h = absurd (cc)
not-none (suc n) h = omega arith

third-is-false : (a b c : Bool) → a || (b || c) ≡ false → c ≡ false
third-is-false false false c h = h
third-is-false false true c h = absurd (cc)
third-is-false true b c h = absurd (cc)

-- it isn't halted
pub running : (o p : Option ℕ) (b : Bool) → o ≡ p → b ≡ is_some o → b ≡ false → p ≡ None
running None p b same is off = sym same
running (Some n) p b same is off = cc

pub runs-on : (r : ReplayState) (room : ℕ) (s : State) → is_at_end (Some r) room s ≡ false → s.devices.halted ≡ None
runs-on r room s h = running s.devices.halted s.devices.halted false refl (sym (third-is-false _ (room == 0) _ h)) refl

pub room-left : (r : ReplayState) (room : ℕ) (s : State) → is_at_end (Some r) room s ≡ false → 0 < room
room-left r room s h = not-none room (second-is-false _ (room == 0) _ h)

-- u is the machine after the byte that is due, and r1 where the schedule stands then
module _ (first later : Ends) (n room : ℕ) (some : 0 < n) (r r1 : ReplayState) (s u : State)
    (more : is_at_end (Some r) room s ≡ false) (at_u : u ≡ run_after (byte_events (Some r)) s)
    (at_r1 : r1 ≡ replayed (byte_events (Some r)) r) where
  abbrev all : List Event
  all = steps_while first later (Some r) n room s

  module _ (there : is_end first u ≡ true) where
    pub stops : all ≡ byte_events (Some r)
    stops = go n some
      where
        go : (m : ℕ) → 0 < m → steps_while first later (Some r) m room s ≡ byte_events (Some r)
        go zero any = absurd (none any)
        go (suc m) any =
            if_not (is_at_end (Some r) room s) [] _ more
            ∙ ap (λ es. byte_events (Some r) ++ es) (if_so (is_end first _) [] _ (ap (is_end first) (sym at_u) ∙ there))
            ∙ append-nil (byte_events (Some r))

  -- and after the step m and r2
  module _ (there : is_end first u ≡ false) (r2 : ReplayState) (m : State) (k : ℕ)
      (at_m : m ≡ run_after (step_events (Some r1) u) u) (at_r2 : r2 ≡ step_done r1) (sends : k ≡ length (option_to_list (sent Step u)))
    where
      abbrev rest : List Event
      rest = steps_while later later (Some r2) (n - 1) (room - k) m

      abbrev there_now : State
      there_now = run_after (byte_events (Some r)) s

      same_steps : step_events (Some r1) u ≡ step_events (Some r) there_now
      same_steps =
          ap (λ q. step_events (Some q) u) at_r1
          ∙ ap (step_events (Some (replayed (byte_events (Some r)) r))) at_u
          ∙ tick-is-due (byte_due (Some r)) r there_now

      same_replay : r2 ≡ step_done r
      same_replay = at_r2 ∙ ap step_done at_r1 ∙ byte-is-passed (byte_due (Some r)) r

      same_count : k ≡ length (option_to_list (sent Step there_now))
      same_count = sends ∙ ap (λ v. length (option_to_list (sent Step v))) at_u

      same_state : m ≡ run_after (step_events (Some r) there_now) there_now
      same_state = at_m ∙ ap (λ es. run_after es u) same_steps ∙ ap (run_after (step_events (Some r) there_now)) at_u

      abbrev with_rest : List Event → ReplayState → ℕ → ℕ → State → List Event
      with_rest steps q i sends_now v =
          byte_events (Some r) ++ (steps ++ steps_while later later (Some q) i (room - sends_now) v)

      parts : all ≡ byte_events (Some r) ++ (step_events (Some r1) u ++ rest)
      parts = go n some
        where
          go : (i : ℕ) → 0 < i → steps_while first later (Some r) i room s
              ≡ byte_events (Some r) ++ (step_events (Some r1) u ++ steps_while later later (Some r2) (i - 1) (room - k) m)
          go zero any = absurd (none any)
          go (suc i) any =
              if_not (is_at_end (Some r) room s) [] _ more
              ∙ ap (λ es. byte_events (Some r) ++ es) (if_not (is_end first _) [] _ (ap (is_end first) (sym at_u) ∙ there))
              ∙ ap (λ steps. with_rest steps (step_done r) i (length (option_to_list (sent Step there_now)))
              (run_after (step_events (Some r) there_now) there_now)) (sym same_steps)
              ∙ ap (λ q. with_rest (step_events (Some r1) u) q i (length (option_to_list (sent Step there_now)))
              (run_after (step_events (Some r) there_now) there_now)) (sym same_replay)
              ∙ ap (λ n. with_rest (step_events (Some r1) u) r2 i n (run_after (step_events (Some r) there_now) there_now)) (sym same_count)
              ∙ ap (with_rest (step_events (Some r1) u) r2 i k) (sym same_state)
              ∙ ap (λ j. with_rest (step_events (Some r1) u) r2 j k m) (sym (less_one i))

      pub state-goes-on : run_after rest m ≡ run_after all s
      state-goes-on =
          ap (run_after rest) at_m ∙ sym (run_after-append (step_events (Some r1) u) rest u)
          ∙ ap (run_after (step_events (Some r1) u ++ rest)) at_u
          ∙ sym (run_after-append (byte_events (Some r)) (step_events (Some r1) u ++ rest) s)
          ∙ ap (λ es. run_after es s) (sym parts)

      step_sends : run_sent (step_events (Some r1) u) u ≡ option_to_list (sent Step u)
      step_sends = ap (λ bytes. option_to_list (sent Step u) ++ bytes) (silent-tick _ (after Step u)) ∙ append-nil _

      pub bytes-go-on : option_to_list (sent Step u) ++ run_sent rest m ≡ run_sent all s
      bytes-go-on =
          ap (λ bytes. bytes ++ run_sent rest m) (sym step_sends)
          ∙ ap (λ t. run_sent (step_events (Some r1) u) u ++ run_sent rest t) at_m
          ∙ sym (run_sent-append (step_events (Some r1) u) rest u)
          ∙ ap (run_sent (step_events (Some r1) u ++ rest)) at_u
          ∙ ap (λ bytes. bytes ++ run_sent (step_events (Some r1) u ++ rest) (run_after (byte_events (Some r)) s))
          (sym (run_sent-brought (byte_due (Some r)) s))
          ∙ sym (run_sent-append (byte_events (Some r)) (step_events (Some r1) u ++ rest) s)
          ∙ ap (λ es. run_sent es s) (sym parts)

      pub replay-goes-on : replayed rest r2 ≡ replayed all r
      replay-goes-on =
          ap (replayed rest) (at_r2 ∙ sym (tick-is-passed _ (step_done r1)))
          ∙ sym (replayed-append (step_events (Some r1) u) rest r1)
          ∙ ap (replayed (step_events (Some r1) u ++ rest)) at_r1
          ∙ sym (replayed-append (byte_events (Some r)) (step_events (Some r1) u ++ rest) r)
          ∙ ap (λ es. replayed es r) (sym parts)

      pub count-goes-on : length all ≡ length (byte_events (Some r)) + length (step_events (Some r1) u) + length rest
      count-goes-on =
          let outer = length-append (byte_events (Some r)) (step_events (Some r1) u ++ rest) in
          let inner = length-append (step_events (Some r1) u) rest in
          ap length parts ∙ omega (arith, outer, inner)
