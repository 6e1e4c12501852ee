-- The parts of what a word and a tag mean are those of the word.
use Rattle.std.proofs.Common.{◌≡◌, ℕ, Bool, true, false, refl}
use Rattle.cap_format.specs.Word.{address_of, perms_of, flag_of, otype_of}
use Rattle.cap_bounds.specs.Window.{base_of_word, top_of_word}
use Rattle.cap_bounds.specs.Record.{decoded}
use Rattle.cap_bounds.specs.CapValue.{value_of, is_tagged, value_base, value_top, value_address, value_perms, value_flag}
use Rattle.cap_bounds.specs.CapValue.{value_otype}

pub is_tagged-value_of : (word : ℕ) (tag : Bool) → is_tagged (value_of word tag) ≡ tag
is_tagged-value_of word true = refl
is_tagged-value_of word false = refl

pub value_base-value_of : (word : ℕ) (tag : Bool) → value_base (value_of word tag) ≡ base_of_word word
unfolding decoded
value_base-value_of word true = refl
value_base-value_of word false = refl

pub value_top-value_of : (word : ℕ) (tag : Bool) → value_top (value_of word tag) ≡ top_of_word word
unfolding decoded
value_top-value_of word true = refl
value_top-value_of word false = refl

pub value_address-value_of : (word : ℕ) (tag : Bool) → value_address (value_of word tag) ≡ address_of word
unfolding decoded
value_address-value_of word true = refl
value_address-value_of word false = refl

pub value_perms-value_of : (word : ℕ) (tag : Bool) → value_perms (value_of word tag) ≡ perms_of word
unfolding decoded
value_perms-value_of word true = refl
value_perms-value_of word false = refl

pub value_flag-value_of : (word : ℕ) (tag : Bool) → value_flag (value_of word tag) ≡ flag_of word
unfolding decoded
value_flag-value_of word true = refl
value_flag-value_of word false = refl

pub value_otype-value_of : (word : ℕ) (tag : Bool) → value_otype (value_of word tag) ≡ otype_of word
unfolding decoded
value_otype-value_of word true = refl
value_otype-value_of word false = refl

pub ruleset value_laws = (
  is_tagged-value_of,
  value_base-value_of,
  value_top-value_of,
  value_address-value_of,
  value_perms-value_of,
  value_flag-value_of,
  value_otype-value_of,
)
