-- A capability's word with another type, other permissions or another flag is the word of the capability with that field.
use Rattle.std.proofs.Common.{◌≡◌, ℕ, ◌-◌, ◌^◌, ◌<◌, Bool, arith}
use Rattle.base.specs.Bits.{bit}
use Rattle.cap_format.specs.Word.{with_field, with_address_of}
use Rattle.cap_bounds.specs.Record.{Record, IsWellFormed, has_exponent, exponent_for, encoded_b, encoded_t, encoded_at, encoded}
use Rattle.cap_bounds.specs.EncodingLaws.{encodable, encoded_t-below, encoded_b-below}
use Rattle.cap_bounds.specs.WordLaws.{joined, bit-small, with_address_of-joined}

-- the fields of a joined word replaced
module _ (perms : ℕ) (flag : Bool) (otype : ℕ) (ie : Bool) (t b address : ℕ) (otype_fits : otype < 2 ^ 18) (t_fits : t < 2 ^ 12)
    (b_fits : b < 2 ^ 14) (address_fits : address < 2 ^ 64) where
  otype-joined : (v : ℕ) → with_field (joined perms flag otype ie t b address) 91 18 v ≡ joined perms flag v ie t b address
  unfolding joined
  otype-joined v = omega (arith, bit-small flag, bit-small ie)

  flag-joined : (v : Bool) → with_field (joined perms flag otype ie t b address) 109 1 (bit v) ≡ joined perms v otype ie t b address
  unfolding joined
  flag-joined v = omega (arith, bit-small flag, bit-small ie)

  perms-joined : (v : ℕ) → perms < 2 ^ 16
      → with_field (joined perms flag otype ie t b address) 112 16 v ≡ joined v flag otype ie t b address
  unfolding joined
  perms-joined v fits = omega (arith, bit-small flag, bit-small ie)

module _ (r : Record) (well : IsWellFormed r) where
  t_fits : encoded_t r.top (exponent_for (r.top - r.base)) (has_exponent (r.top - r.base)) < 4096
  t_fits = encoded_t-below r.top (exponent_for (r.top - r.base)) (has_exponent (r.top - r.base)) (encodable r well).exponent_high

  b_fits : encoded_b r.base (exponent_for (r.top - r.base)) (has_exponent (r.top - r.base)) < 16384
  b_fits = encoded_b-below r.base (exponent_for (r.top - r.base)) (has_exponent (r.top - r.base))

  pub otype-encoded : (v : ℕ) → with_field (encoded r) 91 18 v ≡ encoded (record r { otype = v })
  unfolding encoded encoded_at joined
  otype-encoded v = otype-joined r.perms r.flag r.otype _ _ _ r.address well.otype_fits t_fits b_fits well.address_fits v

  pub address-encoded : (v : ℕ) → with_address_of (encoded r) v ≡ encoded (record r { address = v })
  unfolding encoded encoded_at joined
  address-encoded v = with_address_of-joined r.perms r.flag r.otype _ _ _ r.address well.otype_fits t_fits b_fits well.address_fits v

  pub flag-encoded : (v : Bool) → with_field (encoded r) 109 1 (bit v) ≡ encoded (record r { flag = v })
  unfolding encoded encoded_at joined
  flag-encoded v = flag-joined r.perms r.flag r.otype _ _ _ r.address well.otype_fits t_fits b_fits well.address_fits v

  pub perms-encoded : (v : ℕ) → with_field (encoded r) 112 16 v ≡ encoded (record r { perms = v })
  unfolding encoded encoded_at joined
  perms-encoded v = perms-joined r.perms r.flag r.otype _ _ _ r.address well.otype_fits t_fits b_fits well.address_fits v well.perms_fit

-- another type, other permissions or another flag leave a record well-formed
pub IsWellFormed-otype : (r : Record) → IsWellFormed r → (v : ℕ) → v < 2 ^ 18 → IsWellFormed (record r { otype = v })
IsWellFormed-otype r well v fits = record {
  ordered = well.ordered;
  in_space = well.in_space;
  base_fits = well.base_fits;
  address_fits = well.address_fits;
  perms_fit = well.perms_fit;
  otype_fits = fits;
  base_aligned = well.base_aligned;
  top_aligned = well.top_aligned;
  in_window = well.in_window;
}

pub IsWellFormed-flag : (r : Record) → IsWellFormed r → (v : Bool) → IsWellFormed (record r { flag = v })
IsWellFormed-flag r well v = record {
  ordered = well.ordered;
  in_space = well.in_space;
  base_fits = well.base_fits;
  address_fits = well.address_fits;
  perms_fit = well.perms_fit;
  otype_fits = well.otype_fits;
  base_aligned = well.base_aligned;
  top_aligned = well.top_aligned;
  in_window = well.in_window;
}

pub IsWellFormed-perms : (r : Record) → IsWellFormed r → (v : ℕ) → v < 2 ^ 16 → IsWellFormed (record r { perms = v })
IsWellFormed-perms r well v fits = record {
  ordered = well.ordered;
  in_space = well.in_space;
  base_fits = well.base_fits;
  address_fits = well.address_fits;
  perms_fit = fits;
  otype_fits = well.otype_fits;
  base_aligned = well.base_aligned;
  top_aligned = well.top_aligned;
  in_window = well.in_window;
}
