-- One more step after others, and what RAM had before each.
use Rattle.std.proofs.Common.{◌≡◌, ℕ, zero, suc, ◌+◌, ◌<◌, List, [], ◌++◌, replicate, refl, sym, ap, ◌∙◌, append_assoc, arith, subst}
use Rattle.std.proofs.Common.{inl, inr}
use Rattle.std.specs.Prelude.{◌⊎◌, Bool, true, false, not, ◌&&◌, nat_lt, is_none, Option, None, Some, option_to_list}
use Rattle.std.proofs.lemmas.Bool.Decides.{nat_tests}
use Rattle.machine.specs.Run.{run_after, run_sent}
use Rattle.steps.specs.declared.event.Event.TheVariants.{Step}
use Rattle.steps.specs.Event.{after, sent}
use Rattle.steps.specs.State.{State}
use Rattle.schedules.specs.Schedule.{is_halted}
use Rattle.cherisim_c.specs.Stepping.{goes_on, has_bytes, may_step}
use Rattle.cherisim_c.proofs.Runs.{append-none}

after-more : (n : ℕ) (s : State) → run_after (replicate (suc n) Step) s ≡ after Step (run_after (replicate n Step) s)
after-more zero s = refl
after-more (suc n) s = after-more n (after Step s)

sent-more : (n : ℕ) (s : State)
    → run_sent (replicate (suc n) Step) s ≡ run_sent (replicate n Step) s ++ option_to_list (sent Step (run_after (replicate n Step) s))
sent-more zero s = append-none (option_to_list (sent Step s))
sent-more (suc n) s =
    ap (λ bytes. option_to_list (sent Step s) ++ bytes) (sent-more n (after Step s))
    ∙ sym (append_assoc (option_to_list (sent Step s)) (run_sent (replicate n Step) (after Step s)) _)

below_more : (k n : ℕ) → k < suc n → (k < n) ⊎ (k ≡ n)
below_more zero zero below = inr refl
below_more zero (suc n) below = inl (omega arith)
below_more (suc k) zero below = absurd (omega (arith, below))
below_more (suc k) (suc n) below =
    elim (below_more k n (omega (arith, below))) [ inl less ↦ inl (omega (arith, less)) | inr same ↦ inr (ap suc same) ]

-- ---- what one more step stands on

both : (a b : Bool) → (a && b) ≡ true → (a ≡ true) × (b ≡ true)
both true b is = (refl, is)
both false b is = absurd (cc)

none-sent : (byte : Option ℕ) → is_none byte ≡ true → byte ≡ None
none-sent None is = refl
none-sent (Some b) is = absurd (cc)

some-left : (left : ℕ) → nat_lt 0 left ≡ true → 0 < left
some-left left is = grind (arith, nat_tests, is)

pub going : (left : ℕ) (byte : Option ℕ) (address : ℕ) (bytes : List ℕ) (s : State) → goes_on left byte address bytes s ≡ true
    → (0 < left) × (byte ≡ None) × (has_bytes address bytes s ≡ true)
going left byte address bytes s on =
    let more = both (nat_lt 0 left) (is_none byte && (not (is_halted s) && has_bytes address bytes s)) on in
    let silent = both (is_none byte) (not (is_halted s) && has_bytes address bytes s) more.1 in
    let runs = both (not (is_halted s)) (has_bytes address bytes s) silent.1 in
    (some-left left more.0, none-sent byte silent.0, runs.1)

-- the same where a place is looked at
pub going_held : (left : ℕ) (byte : Option ℕ) (s : State) (held : Bool) → (may_step left byte s && held) ≡ true
    → (0 < left) × (byte ≡ None) × (held ≡ true)
going_held left byte s held on =
    let runs = both (may_step left byte s) held on in
    let more = both (nat_lt 0 left) (is_none byte && not (is_halted s)) runs.0 in
    let silent = both (is_none byte) (not (is_halted s)) more.1 in
    (some-left left more.0, none-sent byte silent.0, runs.1)

-- ---- one more step

module _ (n : ℕ) (s now : State) (there : now ≡ run_after (replicate n Step) s) where
  pub one_more : (later : State) → later ≡ after Step now → later ≡ run_after (replicate (n + 1) Step) s
  one_more later is =
      let more : n + 1 ≡ suc n = omega arith in
      rw more (is ∙ ap (after Step) there ∙ sym (after-more n s))

  pub one_sent : (before byte : Option ℕ) → run_sent (replicate n Step) s ≡ option_to_list before → before ≡ None → byte ≡ sent Step now
      → run_sent (replicate (n + 1) Step) s ≡ option_to_list byte
  one_sent before byte so_far silent is =
      let more : n + 1 ≡ suc n = omega arith in
      let none : run_sent (replicate n Step) s ≡ [] = so_far ∙ ap option_to_list silent in
      rw more (sent-more n s ∙ ap (λ bytes. bytes ++ option_to_list (sent Step (run_after (replicate n Step) s))) none
      ∙ ap option_to_list (sym (is ∙ ap (sent Step) there)))

  pub one_held : (Holds : State → Type 0) → ((k : ℕ) → k < n → Holds (run_after (replicate k Step) s)) → Holds now
      → (k : ℕ) → k < n + 1 → Holds (run_after (replicate k Step) s)
  one_held Holds before here k below = elim (below_more k n (omega (arith, below))) [
    | inl less ↦ before k less
    | inr same ↦ subst (λ j. Holds (run_after (replicate j Step) s)) (sym same) (subst Holds there here)
  ]
