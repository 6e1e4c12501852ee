-- A value whose address is set has that address.
use Rattle.std.proofs.Common.{◌≡◌, ℕ, ◌^◌, ◌<◌, refl, arith}
use Rattle.std.proofs.lemmas.Bool.{cond_both}
use Rattle.cap_format.specs.Word.{address_of, with_address_of}
use Rattle.cap_bounds.specs.CapValue.{CapValue, Cap, Data, word_of, value_address}
use Rattle.cap_bounds.specs.SetAddress.{at_address, data_at}

address_of-with_address_of : (w a : ℕ) → a < 2 ^ 64 → address_of (with_address_of w a) ≡ a
address_of-with_address_of w a fits = omega arith

pub value_address-at_address : (v : CapValue) (a : ℕ) → a < 2 ^ 64 → value_address (at_address v a) ≡ a
unfolding at_address
value_address-at_address (Cap r) a fits =
    cond_both _ (Cap (record r { address = a })) (data_at (Cap r) a) (λ v. value_address v ≡ a) (λ _. refl)
    (λ _. address_of-with_address_of (word_of (Cap r)) a fits)
value_address-at_address (Data n) a fits = address_of-with_address_of n a fits
