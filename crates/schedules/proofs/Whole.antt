-- A walk from the start of a schedule to its end, and how many steps it did.
use Rattle.std.proofs.Common.{◌≡◌, ℕ, zero, suc, ◌+◌, ◌-◌, ◌<◌, ◌≤◌, Bool, true, false, List, [], ◌∷◌, ◌++◌, refl, sym, ap, ◌∙◌}
use Rattle.std.proofs.Common.{append_assoc}
use Rattle.std.proofs.Common.{append-nil, subst, arith}
use Rattle.std.proofs.lemmas.List.{append_cancel_right}
use Rattle.std.specs.Prelude.{Option, Some, None, map, option_to_list, if◌then◌else◌}
use Rattle.steps.specs.Event.{after}
use Rattle.steps.specs.declared.event.Event.{Event}
use Rattle.steps.specs.declared.event.Event.TheVariants.{Step, Byte}
use Rattle.steps.specs.State.{State}
use Rattle.machine.specs.Run.{run_after}
use Rattle.schedules.specs.declared.schedule.Schedule.{Schedule}
use Rattle.schedules.specs.declared.position.Position.{Position}
use Rattle.schedules.specs.Schedule.{around, byte_before, first_steps, is_halted, is_tick_after, scheduled, steps_in, up_to_halt}
use Rattle.schedules.specs.Walk.{coming, rest, steps_left, ticking, IsBeforeStep, Ends, Walked}
use Rattle.schedules.specs.Whole.{Met, MetBeforeStep, MetFirst, Whole}
use Rattle.schedules.specs.declared.pace.How.{How}
use Rattle.schedules.specs.declared.pace.How.TheVariants.{Done, Halted, Stopped, Failed}
use Rattle.schedules.specs.declared.pace.How.TheVariants as how
use Rattle.schedules.proofs.Events.{steps_in-append, then_up_to_halt, up_to_halt-append}

module _ (schedule : Schedule) (input : List ℕ) where
  abbrev nth : ℕ → List Event
  nth m = around (byte_before schedule input (m + 1)) (is_tick_after schedule (m + 1))

  -- one step more at the end
  last_left : (m n : ℕ) → steps_left schedule input false m (suc n) ≡ steps_left schedule input false m n ++ nth (m + n)
  last_left m zero =
      let here : m + zero ≡ m = omega arith in
      rw here (ap (λ es. coming schedule input false (m + 1) ++ (Step ∷ es)) (append-nil _))
  last_left m (suc n) =
      let at : m + 1 + n ≡ m + suc n = omega arith in
      ap (λ es. coming schedule input false (m + 1) ++ (Step ∷ (ticking (is_tick_after schedule (m + 1)) ++ es))) (last_left (m + 1) n)
      ∙ rw at
      (sym (append_assoc (coming schedule input false (m + 1)) (Step ∷ (ticking (is_tick_after schedule (m + 1))
      ++ steps_left schedule input false (m + 1) n)) (nth (m + suc n))
      ∙ ap (λ es. coming schedule input false (m + 1) ++ (Step ∷ es))
      (append_assoc (ticking (is_tick_after schedule (m + 1))) (steps_left schedule input false (m + 1) n) (nth (m + suc n)))))

  all_left : (n : ℕ) → steps_left schedule input false 0 n ≡ first_steps schedule input n
  all_left zero = refl
  all_left (suc n) =
      let at : 0 + n ≡ n = omega arith in
      last_left 0 n ∙ ap (λ k. steps_left schedule input false 0 n ++ nth k) at ∙ ap (λ es. es ++ nth n) (all_left n)

  -- the steps after the first m, and those after them
  split_left : (m a b : ℕ) → steps_left schedule input false m (a + b)
      ≡ steps_left schedule input false m a ++ steps_left schedule input false (m + a) b
  split_left m zero b =
      let here : m + zero ≡ m = omega arith in
      let all : zero + b ≡ b = omega arith in
      rw (here, all) refl
  split_left m (suc a) b =
      let at : m + 1 + a ≡ m + suc a = omega arith in
      let more : suc a + b ≡ suc (a + b) = omega arith in
      let later = steps_left schedule input false (m + 1) a in
      let ticks = ticking (is_tick_after schedule (m + 1)) in
      rw more
      (ap (λ es. coming schedule input false (m + 1) ++ (Step ∷ (ticks ++ es))) (split_left (m + 1) a b)
      ∙ rw at
      (ap (λ es. coming schedule input false (m + 1) ++ (Step ∷ es)) (sym (append_assoc ticks later _))
      ∙ sym (append_assoc (coming schedule input false (m + 1)) (Step ∷ (ticks ++ later)) _)))

  pub from_start : (p : Position) → p ≡ record { done = 0; brought = false; owed = false }
      → rest schedule input p ≡ first_steps schedule input schedule.steps
  from_start p is =
      let all : schedule.steps - 0 ≡ schedule.steps = omega arith in
      ap (rest schedule input) is ∙ ap (steps_left schedule input false 0) all ∙ all_left schedule.steps

  -- ---- before a step

  -- what comes after the step after n others
  abbrev pub past_step : ℕ → List Event
  past_step n = ticking (is_tick_after schedule (n + 1)) ++ steps_left schedule input false (n + 1) (schedule.steps - n - 1)

  pub step_left : (q : Position) → IsBeforeStep schedule q → rest schedule input q ≡ Step ∷ past_step q.done
  step_left q next =
      let few = next.2 in
      let left : schedule.steps - q.done ≡ suc (schedule.steps - q.done - 1) = omega (arith, few) in
      rw (next.1, next.0) (ap (steps_left schedule input true q.done) left)

  -- the events of all steps, cut before one
  cut_before : (n : ℕ) → n < schedule.steps
      → first_steps schedule input schedule.steps
      ≡ (first_steps schedule input n ++ coming schedule input false (n + 1)) ++ (Step ∷ past_step n)
  cut_before n few =
      let all : n + suc (schedule.steps - n - 1) ≡ schedule.steps = omega (arith, few) in
      let here : 0 + n ≡ n = omega arith in
      sym (all_left schedule.steps) ∙ ap (steps_left schedule input false 0) (sym all)
      ∙ split_left 0 n (suc (schedule.steps - n - 1))
      ∙ ap (λ es. es ++ steps_left schedule input false (0 + n) (suc (schedule.steps - n - 1))) (all_left n)
      ∙ ap (λ m. first_steps schedule input n ++ steps_left schedule input false m (suc (schedule.steps - n - 1))) here
      ∙ sym (append_assoc (first_steps schedule input n) (coming schedule input false (n + 1)) (Step ∷ past_step n))

  pub before_step : (p q : Position) (events : List Event) → p ≡ record { done = 0; brought = false; owed = false }
      → rest schedule input p ≡ events ++ rest schedule input q → IsBeforeStep schedule q
      → events ≡ first_steps schedule input q.done ++ coming schedule input false (q.done + 1)
  before_step p q events start order next =
      append_cancel_right _ _ (Step ∷ past_step q.done)
      (ap (λ es. events ++ es) (sym (step_left q next)) ∙ sym order ∙ from_start p start ∙ cut_before q.done next.2)

  -- ---- how many steps

  coming_none : (brought : Bool) (m : ℕ) → steps_in (coming schedule input brought m) ≡ 0
  coming_none true m = refl
  coming_none false m = none (byte_before schedule input m)
    where
      none : (b : Option ℕ) → steps_in (map Byte (option_to_list b)) ≡ 0
      none None = refl
      none (Some b) = refl

  ticking_none : (b : Bool) → steps_in (ticking b) ≡ 0
  ticking_none true = refl
  ticking_none false = refl

  count_left : (brought : Bool) (m n : ℕ) → steps_in (steps_left schedule input brought m n) ≡ n
  count_left brought m zero = refl
  count_left brought m (suc n) =
      let later = steps_left schedule input false (m + 1) n in
      let ticks = ticking (is_tick_after schedule (m + 1)) in
      let a = steps_in-append (coming schedule input brought (m + 1)) (Step ∷ (ticks ++ later)) in
      let b = steps_in-append ticks later in
      let c = coming_none brought (m + 1) in
      let d = ticking_none (is_tick_after schedule (m + 1)) in
      let e = count_left false (m + 1) n in
      omega (arith, a, b, c, d, e)

  count_rest : (p : Position) → steps_in (rest schedule input p) ≡ schedule.steps - p.done
  count_rest p =
      let a = steps_in-append (ticking p.owed) (steps_left schedule input p.brought p.done (schedule.steps - p.done)) in
      let b = ticking_none p.owed in
      let c = count_left p.brought p.done (schedule.steps - p.done) in
      omega (arith, a, b, c)

  pub count_walked : (p q : Position) (events : List Event) → rest schedule input p ≡ events ++ rest schedule input q
      → p.done ≤ q.done → q.done ≤ schedule.steps → p.done + steps_in events ≡ q.done
  count_walked p q events order up few =
      let a = ap steps_in order in
      let b = steps_in-append events (rest schedule input q) in
      let c = count_rest p in
      let d = count_rest q in
      omega (arith, a, b, c, d, up, few)

  -- ---- from the start

  module _ (p q : Position) (events : List Event) (s t : State) (start : p ≡ record { done = 0; brought = false; owed = false })
      (order : rest schedule input p ≡ events ++ rest schedule input q) (there : t ≡ run_after events s)
      (met : up_to_halt events s ≡ events)
      (running : is_halted s ≡ false) where
    pub parts : scheduled schedule input s ≡ events ++ then_up_to_halt (rest schedule input q) t
    parts =
        ap (λ es. up_to_halt es s) (sym (from_start p start) ∙ order) ∙ up_to_halt-append events (rest schedule input q) s running
        ∙ ap (λ es. es ++ then_up_to_halt (rest schedule input q) (run_after es s)) met
        ∙ ap (λ v. events ++ then_up_to_halt (rest schedule input q) v) (sym there)

    pub whole_at_end : rest schedule input q ≡ [] → is_halted t ≡ false → scheduled schedule input s ≡ events
    whole_at_end none still =
        parts ∙ rw still (ap (λ es. events ++ up_to_halt es t) none ∙ append-nil events)

    pub whole_at_halt : is_halted t ≡ true → scheduled schedule input s ≡ events
    whole_at_halt halted = parts ∙ rw halted (append-nil events)

module _ {W F : Type 0} (Saw : List Event → State → W → W → Type 0) (Lost Barred : F → List Event → State → W → W → Type 0)
    (stops : W → State → Bool) (schedule : Schedule) (input : List ℕ) (p q : Position) (s t : State) (v w : W)
    (start : p ≡ record { done = 0; brought = false; owed = false }) (running : is_halted s ≡ false) (few : q.done ≤ schedule.steps) where
  steps_of : (how : How F) (walked : Walked Saw Lost Barred schedule input how p q s t v w) → q.done ≡ steps_in walked.events
  steps_of how walked =
      let zero_first : p.done ≡ 0 = ap (λ (o : Position). o.done) start in
      let up : p.done ≤ q.done = omega (arith, zero_first) in
      let count = count_walked schedule input p q walked.events walked.order up few in
      omega (arith, count, zero_first)

  met_all : (how : How F) (walked : Walked Saw Lost Barred schedule input how p q s t v w) → Saw walked.events s v w
      → scheduled schedule input s ≡ walked.events → Met Saw (scheduled schedule input s) q.done s t v w
  met_all how walked told all = record {
    state = walked.met.state ∙ ap (λ es. run_after es s) (sym all);
    all = ap (λ es. up_to_halt es s) all ∙ walked.met.all ∙ sym all;
    told = subst (λ es. Saw es s v w) (sym all) told;
    steps = steps_of how walked ∙ ap steps_in (sym all);
  }

  met_first : (how : How F) (walked : Walked Saw Lost Barred schedule input how p q s t v w) (Told : List Event → State → W → W → Type 0)
      → Told walked.events s v w → MetFirst Told (scheduled schedule input s) q.done s t v w
  met_first how walked Told told = record {
    events = walked.events;
    more = then_up_to_halt (rest schedule input q) t;
    order = parts schedule input p q walked.events s t start walked.order walked.met.state walked.met.all running;
    met = record { state = walked.met.state; all = walked.met.all; told = told; steps = steps_of how walked };
  }

  met_before : (how : How F) (walked : Walked Saw Lost Barred schedule input how p q s t v w) (Told : List Event → State → W → W → Type 0)
      → Told walked.events s v w → is_halted t ≡ false → IsBeforeStep schedule q → MetBeforeStep Told schedule input q.done s t v w
  met_before how walked Told told still next = record {
    few = next.2;
    events = walked.events;
    more = if is_halted (after Step t) then [] else up_to_halt (past_step schedule input q.done) (after Step t);
    order = parts schedule input p q walked.events s t start walked.order walked.met.state walked.met.all running
        ∙ rw still (ap (λ es. walked.events ++ up_to_halt es t) (step_left schedule input q next));
    place = before_step schedule input p q walked.events start walked.order next;
    met = record { state = walked.met.state; all = walked.met.all; told = told; steps = steps_of how walked };
  }

  pub whole : (how : How F) → Walked Saw Lost Barred schedule input how p q s t v w → Ends stops schedule input how q t w
      → Whole Saw Lost Barred stops schedule input how q.done s t v w
  whole Done walked ends = (
    met_all Done walked walked.met.told
        (whole_at_end schedule input p q walked.events s t start walked.order walked.met.state walked.met.all running ends.0 ends.1),
    ends.1,
  )
  whole Halted walked ends = (
    met_all Halted walked walked.met.told
        (whole_at_halt schedule input p q walked.events s t start walked.order walked.met.state walked.met.all running ends),
    ends,
  )
  whole Stopped walked ends = (met_before Stopped walked Saw walked.met.told ends.0 ends.2, ends.0, ends.1)
  whole (Failed fault) walked ends = met_first (Failed fault) walked (Lost fault) walked.met.told
  whole (how.Barred fault) walked ends = (met_before (how.Barred fault) walked (Barred fault) walked.met.told ends.0 ends.1, ends.0)
