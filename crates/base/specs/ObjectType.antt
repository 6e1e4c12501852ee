-- Object types: numbers below 2 ^ 18, of which the four greatest are reserved (UCAM-CL-TR-987, object types).
use Rattle.std.specs.Prelude.{ℕ, Bool, nat_le}
use Rattle.base.specs.declared.otype.TheConstants.{UNSEALED, SENTRY, FIRST_RESERVED}

-- no type, and that of a sentry, a sealed entry
abbrev pub unsealed_type : ℕ
unsealed_type = UNSEALED

abbrev pub sentry_type : ℕ
sentry_type = SENTRY

-- 0x3FFFC to 0x3FFFF, the sentry and the unsealed among them
abbrev pub is_reserved : ℕ → Bool
is_reserved otype = nat_le FIRST_RESERVED otype
