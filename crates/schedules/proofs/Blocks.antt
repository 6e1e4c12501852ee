-- What of a schedule is still to come after some steps of a block.
use Rattle.std.proofs.Common.{◌≡◌, ℕ, zero, suc, ◌+◌, ◌-◌, ◌<◌, ◌≤◌, Bool, true, false, List, [], ◌∷◌, ◌++◌, replicate, refl, sym, ap, ◌∙◌}
use Rattle.std.proofs.Common.{arith}
use Rattle.std.specs.Prelude.{None, map, option_to_list}
use Rattle.steps.specs.declared.event.Event.{Event}
use Rattle.steps.specs.declared.event.Event.TheVariants.{Step, Byte}
use Rattle.schedules.specs.declared.schedule.Schedule.{Schedule}
use Rattle.schedules.specs.declared.position.Position.{Position}
use Rattle.schedules.specs.Schedule.{byte_before, is_tick_after, AreAlone}
use Rattle.schedules.specs.Walk.{coming, rest, steps_left, ticking}

one_step_more : (n : ℕ) (es : List Event) → replicate n Step ++ (Step ∷ es) ≡ replicate (suc n) Step ++ es
one_step_more zero es = refl
one_step_more (suc n) es = ap (λ more. Step ∷ more) (one_step_more n es)

no_steps : {P : Type 0} (n : ℕ) → n < 0 → P
no_steps n some = absurd (no n some)
  where
    no : (n : ℕ) → n < 0 → ⊥
    no n some = omega (arith, some)

module _ (schedule : Schedule) (input : List ℕ) where
  alone_later : (m n : ℕ) → AreAlone schedule input m (suc n) → AreAlone schedule input (m + 1) n
  alone_later m n alone = record {
    bytes = λ j some below.
        let at : m + 1 + j + 1 ≡ m + (j + 1) + 1 = omega arith in
        rw at (alone.bytes (j + 1) (omega arith) (omega (arith, below)));
    ticks = λ j some below.
        let at : m + 1 + j ≡ m + (j + 1) = omega arith in
        rw at (alone.ticks (j + 1) (omega arith) (omega (arith, below)));
  }

  -- j steps of a block of n, of which some are left
  pub part_left : (j : ℕ) (brought : Bool) (m n c : ℕ) → AreAlone schedule input m n → j < n → n ≤ c
      → steps_left schedule input brought m c
      ≡ coming schedule input brought (m + 1) ++ (replicate j Step ++ steps_left schedule input true (m + j) (c - j))
  part_left j brought m n zero alone few all = no_steps j (omega (arith, few, all))
  part_left zero brought m n (suc c) alone few all =
      let here : m + zero ≡ m = omega arith in
      let left : suc c - zero ≡ suc c = omega arith in
      rw (here, left) refl
  part_left (suc j) brought m zero (suc c) alone few all = no_steps (suc j) few
  part_left (suc j) brought m (suc n) (suc c) alone few all =
      let at : m + suc j ≡ m + 1 + j = omega arith in
      let left : suc c - suc j ≡ c - j = omega arith in
      let no_tick : is_tick_after schedule (m + 1) ≡ false = alone.ticks 1 (omega arith) (omega (arith, few)) in
      let no_byte : byte_before schedule input (m + 1 + 1) ≡ None = alone.bytes 1 (omega arith) (omega (arith, few)) in
      let more = part_left j false (m + 1) n c (alone_later m n alone) (omega (arith, few)) (omega (arith, all)) in
      let none : coming schedule input false (m + 1 + 1) ≡ [] = ap (λ b. map Byte (option_to_list b)) no_byte in
      ap (λ es. coming schedule input brought (m + 1) ++ (Step ∷ es))
      (ap (λ b. ticking b ++ steps_left schedule input false (m + 1) c) no_tick ∙ more
      ∙ ap (λ es. es ++ (replicate j Step ++ steps_left schedule input true (m + 1 + j) (c - j))) none
      ∙ rw (at, left) refl)

  -- all of a block's steps
  pub whole_left : (brought : Bool) (m n c : ℕ) → AreAlone schedule input m n → 1 ≤ n → n ≤ c
      → steps_left schedule input brought m c
      ≡ coming schedule input brought (m + 1)
      ++ (replicate n Step ++ (ticking (is_tick_after schedule (m + n)) ++ steps_left schedule input false (m + n) (c - n)))
  whole_left brought m zero c alone some all = no_steps 0 (omega (arith, some))
  whole_left brought m (suc n) c alone some all =
      let at : m + suc n ≡ m + n + 1 = omega arith in
      let left : c - n ≡ suc (c - suc n) = omega (arith, all) in
      part_left n brought m (suc n) c alone (omega arith) all
      ∙ ap (λ es. coming schedule input brought (m + 1) ++ es)
      (ap (λ k. replicate n Step ++ steps_left schedule input true (m + n) k) left
      ∙ one_step_more n (ticking (is_tick_after schedule (m + n + 1)) ++ steps_left schedule input false (m + n + 1) (c - suc n))
      ∙ ap (λ k. replicate (suc n) Step ++ (ticking (is_tick_after schedule k) ++ steps_left schedule input false k (c - suc n))) (sym at))

  owes_nothing : (p : Position) → p.owed ≡ false → rest schedule input p
      ≡ steps_left schedule input p.brought p.done (schedule.steps - p.done)
  owes_nothing p owed = rw owed refl

  pub stand_within : (p : Position) (n j : ℕ) → p.owed ≡ false → AreAlone schedule input p.done n → j < n → p.done + n ≤ schedule.steps
      → rest schedule input p ≡ coming schedule input p.brought (p.done + 1)
      ++ (replicate j Step ++ rest schedule input (record { done = p.done + j; brought = true; owed = false }))
  stand_within p n j owed alone few all =
      let left : schedule.steps - p.done - j ≡ schedule.steps - (p.done + j) = omega arith in
      owes_nothing p owed ∙ part_left j p.brought p.done n (schedule.steps - p.done) alone few (omega (arith, all))
      ∙ rw left refl

  pub stand_past : (p : Position) (n j : ℕ) → p.owed ≡ false → AreAlone schedule input p.done n → 1 ≤ n → j ≡ n
      → p.done + n ≤ schedule.steps
      → (ticks : Bool) → ticks ≡ is_tick_after schedule (p.done + j)
      → rest schedule input p ≡ coming schedule input p.brought (p.done + 1)
      ++ (replicate j Step ++ rest schedule input (record { done = p.done + j; brought = false; owed = ticks }))
  stand_past p n j owed alone some same all ticks is =
      let left : schedule.steps - p.done - n ≡ schedule.steps - (p.done + n) = omega arith in
      owes_nothing p owed ∙ whole_left p.brought p.done n (schedule.steps - p.done) alone some (omega (arith, all))
      ∙ rw (is, same, left) refl
