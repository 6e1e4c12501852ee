-- The fields of a word that is put together from its fields.
use Rattle.std.proofs.Common.{◌≡◌, ℕ, ◌+◌, ◌*◌, ◌/◌, ◌%◌, ◌^◌, ◌<◌, Bool, true, false, eqb, refl, arith}
use Rattle.base.specs.Bits.{bit}
use Rattle.cap_format.specs.Word.{address_of, b_field_of, t_field_of, ie_of, otype_of, flag_of, perms_of, with_address_of}

-- the word of these fields
unfoldable pub joined : ℕ → Bool → ℕ → Bool → ℕ → ℕ → ℕ → ℕ
joined perms flag otype ie t b address =
    perms * 2 ^ 112 + bit flag * 2 ^ 109 + otype * 2 ^ 91 + bit ie * 2 ^ 90 + t * 2 ^ 78 + b * 2 ^ 64 + address

-- a truth value's bit is 0 or 1
pub bit-small : (b : Bool) → bit b < 2
bit-small true = omega arith
bit-small false = omega arith

-- and tells it
bit-test : (b : Bool) → eqb (bit b) 1 ≡ b
bit-test true = refl
bit-test false = refl

-- each field of a word put together is what went into it
module _ (perms : ℕ) (flag : Bool) (otype : ℕ) (ie : Bool) (t b address : ℕ) (otype_fits : otype < 2 ^ 18) (t_fits : t < 2 ^ 12)
    (b_fits : b < 2 ^ 14) (address_fits : address < 2 ^ 64) where
  pub address_of-joined : address_of (joined perms flag otype ie t b address) ≡ address
  unfolding joined
  address_of-joined = omega arith

  pub b_field_of-joined : b_field_of (joined perms flag otype ie t b address) ≡ b
  unfolding joined
  b_field_of-joined = omega (arith, bit-small flag, bit-small ie)

  pub t_field_of-joined : t_field_of (joined perms flag otype ie t b address) ≡ t
  unfolding joined
  t_field_of-joined = omega (arith, bit-small flag, bit-small ie)

  ie-joined : joined perms flag otype ie t b address / 2 ^ 90 % 2 ≡ bit ie
  unfolding joined
  ie-joined = omega (arith, bit-small flag, bit-small ie)

  pub ie_of-joined : ie_of (joined perms flag otype ie t b address) ≡ ie
  ie_of-joined = rw ie-joined (bit-test ie)

  pub otype_of-joined : otype_of (joined perms flag otype ie t b address) ≡ otype
  unfolding joined
  otype_of-joined = omega (arith, bit-small flag, bit-small ie)

  flag-joined : joined perms flag otype ie t b address / 2 ^ 109 % 2 ≡ bit flag
  unfolding joined
  flag-joined = omega (arith, bit-small flag, bit-small ie)

  pub flag_of-joined : flag_of (joined perms flag otype ie t b address) ≡ flag
  flag_of-joined = rw flag-joined (bit-test flag)

  pub perms_of-joined : perms < 2 ^ 16 → perms_of (joined perms flag otype ie t b address) ≡ perms
  unfolding joined
  perms_of-joined fits = omega (arith, bit-small flag, bit-small ie)

  -- the word has 128 bits
  pub joined-below : perms < 2 ^ 16 → joined perms flag otype ie t b address < 2 ^ 128
  unfolding joined
  joined-below fits = omega (arith, bit-small flag, bit-small ie)

  -- another address replaces the address alone
  pub with_address_of-joined : (other : ℕ)
      → with_address_of (joined perms flag otype ie t b address) other ≡ joined perms flag otype ie t b other
  unfolding joined
  with_address_of-joined other = omega arith
