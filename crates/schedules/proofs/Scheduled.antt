-- The events of a schedule, block by block.
use Rattle.std.proofs.Common.{◌≡◌, ℕ, ◌+◌, ◌-◌, ◌≤◌, zero, suc, List, [], ◌∷◌, ◌++◌, replicate, refl, sym, ap, ◌∙◌}
use Rattle.std.proofs.Common.{true, false, append_assoc, append-nil, subst, arith}
use Rattle.std.specs.Prelude.{Option}
use Rattle.std.specs.Io.KnownBytes.{Appends}
use Rattle.steps.specs.declared.event.Event.{Event}
use Rattle.steps.specs.declared.event.Event.TheVariants.{Step}
use Rattle.steps.specs.State.{State}
use Rattle.machine.specs.Run.{run_after, run_sent}
use Rattle.schedules.specs.declared.schedule.Schedule.{Schedule}
use Rattle.schedules.specs.Schedule.{around, block, byte_before, is_tick_after, first_steps, AreAlone}
use Rattle.schedules.specs.Schedule.{is_halted, steps_in, up_to_halt, scheduled, IsCutShort}
use Rattle.schedules.proofs.Events.{brought, ticking, state_after, sent_after, count_after, cut_after, ends_at_halt}

one_step_more : (n : ℕ) (es : List Event) → replicate n Step ++ (Step ∷ es) ≡ replicate (suc n) Step ++ es
one_step_more zero es = refl
one_step_more (suc n) es = ap (λ rest. Step ∷ rest) (one_step_more n es)

module _ (schedule : Schedule) (input : List ℕ) where
  abbrev nth_step : ℕ → List Event
  nth_step m = around (byte_before schedule input (m + 1)) (is_tick_after schedule (m + 1))

  -- the events of the n steps after the first m
  abbrev pub steps_from : ℕ → ℕ → List Event
  steps_from m zero = []
  steps_from m (suc n) = steps_from m n ++ nth_step (m + n)

  steps_follow : (m n : ℕ) → first_steps schedule input (m + n) ≡ first_steps schedule input m ++ steps_from m n
  steps_follow m zero =
      let none : m + zero ≡ m = omega arith in
      ap (first_steps schedule input) none ∙ sym (append-nil (first_steps schedule input m))
  steps_follow m (suc n) =
      let one : m + suc n ≡ suc (m + n) = omega arith in
      ap (first_steps schedule input) one ∙ ap (λ es. es ++ nth_step (m + n)) (steps_follow m n)
      ∙ append_assoc (first_steps schedule input m) (steps_from m n) (nth_step (m + n))

  -- the n steps after the first m, with what comes around them
  abbrev pub nth_block : ℕ → ℕ → List Event
  nth_block m n = block (byte_before schedule input (m + 1)) n (is_tick_after schedule (m + n))

  alone_before : (m n : ℕ) → AreAlone schedule input m (suc n) → AreAlone schedule input m n
  alone_before m n alone = record {
    bytes = λ j some below. alone.bytes j some (omega arith);
    ticks = λ j some below. alone.ticks j some (omega arith);
  }

  are_block : (m n : ℕ) → AreAlone schedule input m (suc n) → steps_from m (suc n) ≡ nth_block m (suc n)
  are_block m zero alone =
      let here : m + zero ≡ m = omega arith in
      rw here refl
  are_block m (suc n) alone =
      let last : m + suc (suc n) ≡ m + suc n + 1 = omega arith in
      ap (λ es. es ++ nth_step (m + suc n)) (are_block m n (alone_before m (suc n) alone))
      ∙ rw (alone.bytes (suc n) (omega arith) (omega arith), alone.ticks (suc n) (omega arith) (omega arith), last)
      (append_assoc (brought (byte_before schedule input (m + 1))) (replicate (suc n) Step ++ []) _
      ∙ ap (λ es. brought (byte_before schedule input (m + 1)) ++ es)
      (append_assoc (replicate (suc n) Step) [] _ ∙ one_step_more (suc n) (ticking (is_tick_after schedule (m + suc n + 1)))))

  no_steps : 1 ≤ 0 → ⊥
  no_steps some = omega arith

  pub block_follows : (m n : ℕ) → 1 ≤ n → AreAlone schedule input m n
      → first_steps schedule input (m + n) ≡ first_steps schedule input m ++ nth_block m n
  block_follows m zero some alone = absurd (no_steps some)
  block_follows m (suc n) some alone = steps_follow m (suc n) ∙ ap (λ es. first_steps schedule input m ++ es) (are_block m n alone)

  pub more_follow : (m : ℕ) → m ≤ schedule.steps
      → first_steps schedule input schedule.steps ≡ first_steps schedule input m ++ steps_from m (schedule.steps - m)
  more_follow m few =
      let all : m + (schedule.steps - m) ≡ schedule.steps = omega arith in
      ap (first_steps schedule input) (sym all) ∙ steps_follow m (schedule.steps - m)

  -- after the first m steps of s the machine is t, and after the block of n more it is u
  module _ (m n : ℕ) (s t u : State) (running : is_halted s ≡ false)
      (so_far : t ≡ run_after (up_to_halt (first_steps schedule input m) s) s) (still : is_halted t ≡ false) (some : 1 ≤ n)
      (few : m + n ≤ schedule.steps) (alone : AreAlone schedule input m n) where
    pub block_state : u ≡ run_after (up_to_halt (nth_block m n) t) t
        → u ≡ run_after (up_to_halt (first_steps schedule input (m + n)) s) s
    block_state there =
        state_after (first_steps schedule input m) (nth_block m n) s t running so_far still u there
        ∙ ap (λ es. run_after (up_to_halt es s) s) (sym (block_follows m n some alone))

    pub block_sent : (a b c : Option (List ℕ)) → Appends a b (run_sent (up_to_halt (first_steps schedule input m) s) s)
        → Appends b c (run_sent (up_to_halt (nth_block m n) t) t)
        → Appends a c (run_sent (up_to_halt (first_steps schedule input (m + n)) s) s)
    block_sent a b c before more =
        subst (λ es. Appends a c (run_sent (up_to_halt es s) s)) (sym (block_follows m n some alone))
        (sent_after (first_steps schedule input m) (nth_block m n) s t running so_far still a b c before more)

    pub block_count : steps_in (up_to_halt (first_steps schedule input (m + n)) s)
        ≡ steps_in (up_to_halt (first_steps schedule input m) s) + steps_in (up_to_halt (nth_block m n) t)
    block_count =
        ap (λ es. steps_in (up_to_halt es s)) (block_follows m n some alone)
        ∙ count_after (first_steps schedule input m) (nth_block m n) s t running so_far still

    -- nothing comes after the step that halts
    pub block_ends : u ≡ run_after (up_to_halt (nth_block m n) t) t → is_halted u ≡ true
        → up_to_halt (first_steps schedule input (m + n)) s ≡ scheduled schedule input s
    block_ends there halted =
        ends_at_halt (first_steps schedule input (m + n)) (steps_from (m + n) (schedule.steps - (m + n))) s running
        (ap is_halted (sym (block_state there)) ∙ halted)
        ∙ ap (λ es. up_to_halt es s) (sym (more_follow (m + n) few))

    pub block_cut : (a b c : Option (List ℕ)) → Appends a b (run_sent (up_to_halt (first_steps schedule input m) s) s)
        → IsCutShort (up_to_halt (nth_block m n) t) t u b c → IsCutShort (scheduled schedule input s) s u a c
    block_cut a b c before cut =
        subst (λ es. IsCutShort (up_to_halt es s) s u a c)
        (ap (λ es. es ++ steps_from (m + n) (schedule.steps - (m + n))) (sym (block_follows m n some alone))
        ∙ sym (more_follow (m + n) few))
        (cut_after (first_steps schedule input m) (nth_block m n) s t running so_far still
        (steps_from (m + n) (schedule.steps - (m + n))) u a b c before cut)
