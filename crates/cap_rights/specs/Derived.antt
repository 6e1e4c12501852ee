-- What may become of a value without another authority: fewer rights, or its own seal as a sentry.
use Rattle.std.specs.Prelude.{◌≡◌, true, ◌⊎◌}
use Rattle.base.specs.ObjectType.{sentry_type}
use Rattle.cap_bounds.specs.CapValue.{CapValue, is_tagged, is_sealed, value_otype}
use Rattle.cap_rights.specs.Rights.{IsInRightsOf, OpensType}

-- the value is within the rights of a tagged one; sealed, it is that one, or a sentry
pub record IsDerived (v c : CapValue) : Type 0 where
  pub tagged : is_tagged c ≡ true
  pub within : IsInRightsOf v c
  pub seal : is_sealed v ≡ true → (v ≡ c) ⊎ (value_otype v ≡ sentry_type)

-- tagged, the value is derived
abbrev pub IsDerivedIfTagged : CapValue → CapValue → Type 0
IsDerivedIfTagged v c = is_tagged v ≡ true → IsDerived v c

-- the value is within the rights of a tagged one, and a tagged authority may seal with its type
pub record IsSealedWith (v c authority : CapValue) : Type 0 where
  pub tagged : is_tagged c ≡ true
  pub within : IsInRightsOf v c
  pub by : is_tagged authority ≡ true
  pub opens : OpensType authority (value_otype v)

-- the value is derived from another, or is that one sealed by an authority
abbrev pub IsMadeOf : CapValue → CapValue → CapValue → Type 0
IsMadeOf v c authority = IsDerived v c ⊎ IsSealedWith v c authority
