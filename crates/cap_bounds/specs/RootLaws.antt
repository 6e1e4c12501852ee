-- Root's word, with any address and flag.
use Rattle.std.proofs.Common.{◌≡◌, ℕ, ◌*◌, ◌^◌, ◌<◌, Bool, false, refl, sym, ap, ◌∙◌, lit<, lit≤}
use Rattle.base.specs.Bits.{bit}
use Rattle.cap_format.specs.Word.{with_field, with_address_of}
use Rattle.cap_bounds.specs.Least.{least_up_to}
use Rattle.cap_bounds.specs.Record.{IsWellFormed, IsWordWellFormed, has_exponent, exponent_for, alignment_for, is_in_window, encoded_at}
use Rattle.cap_bounds.specs.Record.{encoded, decoded}
use Rattle.cap_bounds.specs.RecordLaws.{decoded-encoded, encoded-well_formed}
use Rattle.cap_bounds.specs.FieldLaws.{address-encoded, flag-encoded}
use Rattle.cap_bounds.specs.Root.{root_record}

-- the word of root at 0 with the flag clear
abbrev pub root_word : ℕ
root_word = 0xffff_1fff_fc01_8004 * 2 ^ 64

pub IsWellFormed-root : (address : ℕ) (flag : Bool) → address < 2 ^ 64 → IsWellFormed (root_record address flag)
unfolding alignment_for has_exponent exponent_for least_up_to is_in_window
IsWellFormed-root address flag fits = record {
  ordered = lit≤ tt;
  in_space = lit≤ tt;
  base_fits = lit< tt;
  address_fits = fits;
  perms_fit = lit< tt;
  otype_fits = lit< tt;
  base_aligned = refl;
  top_aligned = refl;
  in_window = refl;
}

pub encoded-root : encoded (root_record 0 false) ≡ root_word
unfolding encoded encoded_at has_exponent exponent_for least_up_to
encoded-root = refl

-- root's word with another flag and another address
pub encoded-root_at : (address : ℕ) (flag : Bool)
    → with_address_of (with_field root_word 109 1 (bit flag)) address ≡ encoded (root_record address flag)
encoded-root_at address flag =
    ap (λ w. with_address_of (with_field w 109 1 (bit flag)) address) (sym encoded-root)
    ∙ ap (λ w. with_address_of w address) (flag-encoded (root_record 0 false) (IsWellFormed-root 0 false (lit< tt)) flag)
    ∙ address-encoded (root_record 0 flag) (IsWellFormed-root 0 flag (lit< tt)) address

pub IsWordWellFormed-root : (address : ℕ) (flag : Bool) → address < 2 ^ 64
    → IsWordWellFormed (with_address_of (with_field root_word 109 1 (bit flag)) address)
IsWordWellFormed-root address flag fits = rw encoded-root_at ((encoded-well_formed _ (IsWellFormed-root address flag fits)).1)

pub decoded-root : (address : ℕ) (flag : Bool) → address < 2 ^ 64
    → decoded (with_address_of (with_field root_word 109 1 (bit flag)) address) ≡ root_record address flag
decoded-root address flag fits = ap decoded (encoded-root_at address flag) ∙ decoded-encoded _ (IsWellFormed-root address flag fits)
