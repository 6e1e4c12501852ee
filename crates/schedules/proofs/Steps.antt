-- Steps that went by, and more after them.
use Rattle.std.proofs.Common.{◌≡◌, ℕ, zero, suc, ◌+◌, ◌-◌, ◌<◌, Bool, false, List, [], ◌∷◌, ◌++◌, replicate, refl, sym, ap, ◌∙◌, inl, inr}
use Rattle.std.proofs.Common.{subst, arith}
use Rattle.std.proofs.lemmas.Bool.{cases_lt}
use Rattle.steps.specs.declared.event.Event.{Event}
use Rattle.steps.specs.declared.event.Event.TheVariants.{Step}
use Rattle.steps.specs.State.{State}
use Rattle.steps.specs.Event.{after, sent}
use Rattle.devices.specs.Devices.{Devices}
use Rattle.std.specs.Prelude.{Option, is_some, option_to_list}
use Rattle.steps.specs.Steps.{GoesBy}
use Rattle.machine.specs.Run.{run_after, run_sent}
use Rattle.schedules.specs.declared.pace.How.{How}
use Rattle.schedules.specs.declared.pace.How.TheVariants.{Done, Halted, Stopped, Failed}
use Rattle.schedules.specs.declared.pace.How.TheVariants as how
use Rattle.schedules.specs.Schedule.{is_halted}
use Rattle.schedules.specs.Walk.{AreRunning, EndsSteps, EndsTurn, Tells, WentBy}
use Rattle.schedules.proofs.Events.{run_after-append}

not_below : {P : Type 0} → (k : ℕ) → suc k < 1 → P
not_below k below = absurd (no k below)
  where
    no : (k : ℕ) → suc k < 1 → ⊥
    no k below = omega (arith, below)

nothing_below : {P : Type 0} → (k : ℕ) → k < 0 → P
nothing_below k below = absurd (no k below)
  where
    no : (k : ℕ) → k < 0 → ⊥
    no k below = omega (arith, below)

pub none_running : (s : State) → AreRunning 0 s
none_running s k below = nothing_below k below

pub one_running : (s : State) → is_halted s ≡ false → AreRunning 1 s
one_running s running zero below = running
one_running s running (suc k) below = not_below k below

pub steps_more : (n k : ℕ) → replicate n Step ++ replicate k Step ≡ replicate (n + k) Step
steps_more zero k =
    let none : k ≡ zero + k = omega arith in
    ap (λ m. replicate m Step) none
steps_more (suc n) k =
    let more : suc n + k ≡ suc (n + k) = omega arith in
    ap (λ es. Step ∷ es) (steps_more n k) ∙ ap (λ m. replicate m Step) (sym more)

pub state_more : (n k : ℕ) (s t u : State) → t ≡ run_after (replicate n Step) s → u ≡ run_after (replicate k Step) t
    → u ≡ run_after (replicate (n + k) Step) s
state_more n k s t u first then =
    then ∙ ap (λ v. run_after (replicate k Step) v) first ∙ sym (run_after-append (replicate n Step) (replicate k Step) s)
    ∙ ap (λ es. run_after es s) (steps_more n k)

pub running_more : (n k : ℕ) (s t : State) → t ≡ run_after (replicate n Step) s → AreRunning n s → AreRunning k t → AreRunning (n + k) s
running_more n k s t first before later j below = elim (cases_lt j n) [
  | inl low ↦ before j low
  | inr high ↦
      let all : n + (j - n) ≡ j = omega (arith, high) in
      let few : j - n < k = omega (arith, high, below) in
      ap is_halted (ap (λ m. run_after (replicate m Step) s) (sym all) ∙ sym (state_more n (j - n) s t _ first refl)) ∙ later (j - n) few
]

module _ {W F : Type 0} (Saw : List Event → State → W → W → Type 0) (Lost Barred : F → List Event → State → W → W → Type 0)
    (goes_on : (xs ys : List Event) (s : State) (u v w : W) → Saw xs s u v → Saw ys (run_after xs s) v w → Saw (xs ++ ys) s u w)
    (fails_later : (fault : F) (xs ys : List Event) (s : State) (u v w : W)
    → Saw xs s u v → Lost fault ys (run_after xs s) v w → Lost fault (xs ++ ys) s u w)
    (bars_later : (fault : F) (xs ys : List Event) (s : State) (u v w : W)
    → Saw xs s u v → Barred fault ys (run_after xs s) v w → Barred fault (xs ++ ys) s u w) where
  pub tells_more : (how : How F) (xs ys : List Event) (s t : State) (u v w : W) → t ≡ run_after xs s → Saw xs s u v
      → Tells Saw Lost Barred how ys t v w → Tells Saw Lost Barred how (xs ++ ys) s u w
  tells_more Done xs ys s t u v w there saw told = goes_on xs ys s u v w saw (subst (λ r. Saw ys r v w) there told)
  tells_more Halted xs ys s t u v w there saw told = goes_on xs ys s u v w saw (subst (λ r. Saw ys r v w) there told)
  tells_more Stopped xs ys s t u v w there saw told = goes_on xs ys s u v w saw (subst (λ r. Saw ys r v w) there told)
  tells_more (Failed fault) xs ys s t u v w there saw lost =
      fails_later fault xs ys s u v w saw (subst (λ r. Lost fault ys r v w) there lost)
  tells_more (how.Barred fault) xs ys s t u v w there saw lost =
      bars_later fault xs ys s u v w saw (subst (λ r. Barred fault ys r v w) there lost)

  pub went_more : (how : How F) (n k : ℕ) (s t r : State) (u v w : W) → WentBy Saw Lost Barred Done n s t u v
      → WentBy Saw Lost Barred how k t r v w
      → WentBy Saw Lost Barred how (n + k) s r u w
  went_more how n k s t r u v w first then = record {
    state = state_more n k s t r first.state then.state;
    running = running_more n k s t first.state first.running then.running;
    told = subst (λ es. Tells Saw Lost Barred how es s u w) (steps_more n k)
        (tells_more how (replicate n Step) (replicate k Step) s t u v w first.state first.told then.told);
  }

  pub went_halted : (n k : ℕ) (s t r : State) (u v w : W) → WentBy Saw Lost Barred Done n s t u v → WentBy Saw Lost Barred Done k t r v w
      → WentBy Saw Lost Barred Halted (n + k) s r u w
  went_halted n k s t r u v w first then =
      let more = went_more Done n k s t r u v w first then in
      record { state = more.state; running = more.running; told = more.told }

-- a turn of k steps after n of them, of so many
pub ends_early : {W F : Type 0} (stops : W → State → Bool) (how : How F) (n k count : ℕ) (t : State) (w : W) → (how ≡ Done → ⊥)
    → n < count → EndsTurn stops how k t w → EndsSteps stops count how (n + k) t w
ends_early stops Done n k count t w off few ends = absurd (off refl)
ends_early stops Halted n k count t w off few ends = absurd ends
ends_early stops Stopped n k count t w off few ends =
    let none : k ≡ 0 = ends.2 in
    (ends.0, ends.1, omega (arith, none, few))
ends_early stops (how.Barred fault) n k count t w off few ends =
    let none : k ≡ 0 = ends.1 in
    (ends.0, omega (arith, none, few))
ends_early stops (Failed fault) n k count t w off few ends = ends

pub goes_by_running : (stop : Option ℕ) (n : ℕ) (s : State) → ((k : ℕ) → k < n → GoesBy stop (run_after (replicate k Step) s))
    → AreRunning n s
goes_by_running stop n s goes k below =
    let it = goes k below in
    ap is_some it.running

pub quiet_running : (n : ℕ) (s : State) → is_halted s ≡ false
    → ((k : ℕ) → k < n → (run_after (replicate k Step) s).devices ≡ s.devices) → AreRunning n s
quiet_running n s running devices k below = ap (λ (d : Devices). is_some d.halted) (devices k below) ∙ running

nil_right : {A : Type 0} (xs ys : List A) → xs ++ ys ≡ [] → ys ≡ []
nil_right [] ys e = e
nil_right (x ∷ xs) ys e = cc

nil_left : {A : Type 0} (xs ys : List A) → xs ++ ys ≡ [] → xs ≡ []
nil_left [] ys e = refl
nil_left (x ∷ xs) ys e = cc

silent_less : (n : ℕ) (s : State) → run_sent (replicate (suc n) Step) s ≡ [] → run_sent (replicate n Step) s ≡ []
silent_less zero s e = refl
silent_less (suc n) s e =
    rw (nil_left (option_to_list (sent Step s)) (run_sent (replicate (suc n) Step) (after Step s)) e)
    (silent_less n (after Step s) (nil_right (option_to_list (sent Step s)) (run_sent (replicate (suc n) Step) (after Step s)) e))

pub silent_before : (n : ℕ) (s : State) → run_sent (replicate n Step) s ≡ [] → run_sent (replicate (n - 1) Step) s ≡ []
silent_before zero s e = e
silent_before (suc n) s e =
    let less : suc n - 1 ≡ n = omega arith in
    rw less (silent_less n s e)
