-- What a place holds after a step that doesn't write it.
use Rattle.std.specs.Prelude.{◌≡◌, ◌==◌, Bool, true, false}
use Rattle.base.specs.declared.registers.scr.TheConstants.{PCC}
use Rattle.cap_bounds.specs.CapValue.{CapValue, is_tagged, value_base, value_top, value_perms, value_flag, value_otype}
use Rattle.origins.specs.declared.place.Place.{Place}
use Rattle.origins.specs.declared.place.Place.TheVariants.{Special}
use Rattle.steps.specs.State.{State}
use Rattle.origins.specs.Places.{IsThere, held}
use Rattle.origins.specs.Making.{source}
use Rattle.origins.specs.declared.making.Making.{Making}
use Rattle.origins.specs.declared.making.Making.TheVariants.{Loaded, Sealed, Unsealed}
use Rattle.std.specs.Prelude.{IfSome}

-- a capability with the same fields but for its address
pub record HasSameFields (v w : CapValue) : Type 0 where
  pub base : value_base w ≡ value_base v
  pub top : value_top w ≡ value_top v
  pub perms : value_perms w ≡ value_perms v
  pub flag : value_flag w ≡ value_flag v
  pub otype : value_otype w ≡ value_otype v

-- a value of which at most the address differs
pub record MovesAtMost (v w : CapValue) : Type 0 where
  pub tag : is_tagged w ≡ is_tagged v
  pub fields : is_tagged v ≡ true → HasSameFields v w

abbrev pub IsKeptBut : Bool → CapValue → CapValue → Type 0
IsKeptBut true v w = MovesAtMost v w
IsKeptBut false v w = w ≡ v

-- It holds what it held; of PCC the address may be another.
abbrev pub HoldsTheSame : Place → State → State → Type 0
HoldsTheSame (Special n) s later = IsKeptBut (n == PCC) (held (Special n) s) (held (Special n) later)
HoldsTheSame place s later = held place later ≡ held place s

-- ---- the places that a value is made of

abbrev pub IsAuthorityThere : Making → State → Type 0
IsAuthorityThere (Loaded address authority) s = IsThere authority s
IsAuthorityThere (Sealed from authority) s = IsThere authority s
IsAuthorityThere (Unsealed from authority) s = IsThere authority s
IsAuthorityThere other s = Unit {0}

-- There are the source and the authority.
abbrev pub AreThere : Making → State → Type 0
AreThere making s = IfSome (source making) (λ from. IsThere from s) × IsAuthorityThere making s
