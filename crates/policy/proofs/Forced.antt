-- What is in force.
use Rattle.std.proofs.Common.{◌≡◌, ℕ, zero, suc, ◌<◌, ◌≤◌, Bool, true, false, Option, None, Some, List, [], ◌∷◌, ◌++◌, length, get_or}
use Rattle.std.proofs.Common.{refl, sym, ap, ap₂, ◌∙◌, subst, arith, cond}
use Rattle.std.proofs.lemmas.Bool.{true≢false}
use Rattle.std.specs.List.{list_any}
use Rattle.std.specs.Prelude.{◌&&◌, ◌||◌, if◌then◌else◌}
use Rattle.cap_bounds.specs.CapValue.{CapValue}
use Rattle.steps.specs.declared.event.Event.{Event}
use Rattle.steps.specs.declared.event.Event.TheVariants.{Step, Tick, Byte}
use Rattle.steps.specs.Event.{after}
use Rattle.steps.specs.declared.effect.Effect.{Effect}
use Rattle.steps.specs.declared.effect.Effect.TheVariants as effect
use Rattle.steps.specs.Outcome.{Plain, outcome_of, sealed_jump_if, step_outcome, step_outcome_unless}
use Rattle.steps.specs.Step.{step_effect}
use Rattle.steps.specs.State.{State, pc_of}
use Rattle.machine.specs.Run.{run_after}
use Rattle.policy.specs.declared.rule.Rule.{Rule}
use Rattle.policy.specs.Terms.{Terms, terms, terms_of}
use Rattle.policy.specs.Tests.{is_about}
use Rattle.policy.specs.Watch.{values_in}
use Rattle.policy.specs.Lending.{door_of, each_after, in_force_after, in_force_from, is_call, lent, next_door, next_door_unless}

or-none : (a b : Bool) → (a || b) ≡ false → (a ≡ false) × (b ≡ false)
or-none true b none = absurd (true≢false none)
or-none false b none = (refl, none)

and-false : (a : Bool) → (a && false) ≡ false
and-false true = refl
and-false false = refl

module _ (vs : List CapValue) (pc : ℕ) (door : Option ℕ) where
  -- whether a rule of some is called that allows what its caller could reach
  abbrev called : List Terms → Bool
  called saids = list_any (λ rule. rule.or_caller && is_call rule pc door) saids

  pub each-uncalled : (saids nows : List Terms) → length saids ≡ length nows → called saids ≡ false
      → each_after vs pc door saids nows ≡ nows
  each-uncalled [] [] same none = refl
  each-uncalled [] (n ∷ ns) same none = absurd (omega (arith, same))
  each-uncalled (t ∷ ts) [] same none = absurd (omega (arith, same))
  each-uncalled (t ∷ ts) (n ∷ ns) same none =
      let both = or-none (t.or_caller && is_call t pc door) (called ts) none in
      ap₂ (λ x xs. x ∷ xs) (rw both.0 refl) (each-uncalled ts ns (omega (arith, same)) both.1)

  pub none-lends : (saids : List Terms) → list_any (λ rule. rule.or_caller) saids ≡ false → called saids ≡ false
  none-lends [] none = refl
  none-lends (t ∷ ts) none =
      let both = or-none t.or_caller (list_any (λ rule. rule.or_caller) ts) none in
      rw (both.0, none-lends ts both.1) refl

  pub each-length : (saids nows : List Terms) → length saids ≡ length nows → length (each_after vs pc door saids nows) ≡ length saids
  each-length [] nows same = refl
  each-length (t ∷ ts) [] same = absurd (omega (arith, same))
  each-length (t ∷ ts) (n ∷ ns) same = ap suc (each-length ts ns (omega (arith, same)))

-- who is found of some is one of them
pub any-some : {A : Type 0} (p : A → Bool) (xs : List A) → list_any p xs ≡ true → 1 ≤ length xs
any-some p [] found = absurd (true≢false (sym found))
any-some p (x ∷ xs) found = omega arith

-- no jump through a seal
pub no-door : (pc : ℕ) (saids : List Terms) → list_any (λ rule. rule.or_caller && is_call rule pc None) saids ≡ false
no-door pc [] = refl
no-door pc (t ∷ ts) = rw (and-false t.or_caller, no-door pc ts) refl

-- one event more
pub in_force-append : (said now : List Terms) (es : List Event) (e : Event) (s : State)
    → in_force_from said now (es ++ e ∷ []) s ≡ in_force_after said (in_force_from said now es s) e (run_after es s)
in_force-append said now [] e s = refl
in_force-append said now (x ∷ es) e s = in_force-append said (in_force_after said now x s) es e (after x s)

-- ---- a rule that is about the code before a step isn't called by it

uncalled : (t : Terms) (pc : ℕ) (door : Option ℕ) → is_about t pc ≡ true → is_call t pc door ≡ false
uncalled t pc None about = refl
uncalled t pc (Some door) about = rw about (and-false (is_about t door))

each-about : (vs : List CapValue) (pc : ℕ) (door : Option ℕ) (saids nows : List Terms) (j : ℕ) (d : Terms) → j < length saids
    → length saids ≡ length nows → is_about (get_or saids j d) pc ≡ true
    → get_or (each_after vs pc door saids nows) j d ≡ get_or nows j d
each-about vs pc door [] nows j d below same about = absurd (omega arith)
each-about vs pc door (t ∷ ts) [] j d below same about = absurd (omega (arith, same))
each-about vs pc door (t ∷ ts) (n ∷ ns) zero d below same about =
    rw (uncalled t pc door about) (ap (λ b. cond b (lent t vs) n) (and-false t.or_caller))
each-about vs pc door (t ∷ ts) (n ∷ ns) (suc j) d below same about =
    each-about vs pc door ts ns j d (omega (arith, below)) (omega (arith, same)) about

-- so what is in force of it stays
pub stays-in-force : (e : Event) (said now : List Terms) (j : ℕ) (rule : Terms) (s : State) → j < length said
    → get_or said j rule ≡ rule → length said ≡ length now → get_or now j rule ≡ rule → is_about rule (pc_of s) ≡ true
    → (length said ≡ length (in_force_after said now e s)) × (get_or (in_force_after said now e s) j rule ≡ rule)
stays-in-force Step said now j rule s below here same there about = (
  sym (each-length (values_in s) (pc_of s) (next_door s) said now same),
  each-about (values_in s) (pc_of s) (next_door s) said now j rule below same (ap (λ t. is_about t (pc_of s)) here ∙ about) ∙ there,
)
stays-in-force Tick said now j rule s below here same there about = (same, there)
stays-in-force (Byte b) said now j rule s below here same there about = (same, there)

-- ---- rules and their terms

pub any-terms : (test : Terms → Bool) (rules : List Rule) → list_any test (terms_of rules) ≡ list_any (λ rule. test (terms rule)) rules
any-terms test [] = refl
any-terms test (r ∷ rs) = ap (λ b. test (terms r) || b) (any-terms test rs)

-- ---- plain steps

closed-door : (sealed : Bool) (target : ℕ) → sealed_jump_if sealed ≡ Plain → (if sealed then Some target else None) ≡ None
closed-door true target plain = cc
closed-door false target plain = refl

door-plain : (e : Effect CapValue) → outcome_of e ≡ Plain → door_of e ≡ None
unfolding outcome_of door_of
door-plain (effect.Enter e) plain = closed-door e.sealed e.target plain
door-plain e plain = refl

pub no-door-plain : (s : State) → s.devices.halted ≡ None → step_outcome s ≡ Plain → next_door s ≡ None
unfolding next_door step_outcome
no-door-plain s running plain =
    ap (λ h. next_door_unless h s) running
    ∙ door-plain (step_effect s) (subst (λ h. step_outcome_unless h s ≡ Plain) running plain)
