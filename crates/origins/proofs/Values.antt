-- What is known of a value by its tag.
use Rattle.std.proofs.Common.{◌≡◌, ℕ, Bool, true, false, refl}
use Rattle.cap_bounds.specs.CapValue.{is_tagged, value_of}

pub tagged-value_of : (word : ℕ) (tag : Bool) → is_tagged (value_of word tag) ≡ tag
tagged-value_of word true = refl
tagged-value_of word false = refl
