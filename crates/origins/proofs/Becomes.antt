-- What a place holds after an effect that makes it or does not write it.
use Rattle.std.proofs.Common.{◌≡◌, Option, Some, None, refl, subst}
use Rattle.cap_bounds.specs.CapValue.{CapValue}
use Rattle.origins.specs.declared.place.Place.{Place}
use Rattle.steps.specs.State.{State}
use Rattle.steps.specs.declared.effect.Effect.{Effect}
use Rattle.steps.specs.declared.effect.Effect.TheVariants.{Trap}
use Rattle.origins.specs.Kept.{HoldsTheSame}
use Rattle.origins.specs.Making.{IsMade}
use Rattle.origins.specs.Places.{held}
use Rattle.origins.specs.declared.making.Making.{Making}

abbrev pub Becomes : Option Making → State → CapValue → Type 0 → Type 0
Becomes (Some making) s v kept = IsMade making s v
Becomes None s v kept = kept

abbrev pub IsWritten : Place → State → State → Option Making → Type 0
IsWritten p s later made = Becomes made s (held p later) (HoldsTheSame p s later)

-- an effect that is no trap
abbrev pub IsNoTrap : Effect CapValue → Type 0
IsNoTrap (Trap f) = ⊥
IsNoTrap other = Unit {0}

module _ (p : Place) (s later : State) where
  pub is-made : (o : Option Making) (m : Making) → IsWritten p s later o → o ≡ Some m → IsMade m s (held p later)
  is-made (Some k) m written same =
      let both : Some k ≡ Some m = same in
      let equal : k ≡ m = cc in
      subst (λ x. IsMade x s (held p later)) equal written
  is-made None m written same = cc

  pub is-kept : (o : Option Making) → IsWritten p s later o → ◌≡◌ {A = Option Making} o None → HoldsTheSame p s later
  is-kept (Some k) written same = cc
  is-kept None written same = written

  pub both-written : (o : Option Making) → ((m : Making) → o ≡ Some m → IsMade m s (held p later))
      → (◌≡◌ {A = Option Making} o None → HoldsTheSame p s later) → IsWritten p s later o
  both-written (Some k) made kept = made k refl
  both-written None made kept = kept refl
