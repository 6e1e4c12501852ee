-- When setting an address keeps a capability, and when it makes data of it.
use Rattle.std.proofs.Common.{◌≡◌, ℕ, true, false, eqb, refl}
use Rattle.std.proofs.lemmas.Bool.{and_right, cond-false}
use Rattle.cap_bounds.specs.Record.{Record, window_holds}
use Rattle.cap_bounds.specs.CapValue.{Cap}
use Rattle.cap_bounds.specs.SetAddress.{at_address, data_at}

pub at_address-moved : (r : Record) (address : ℕ) → r.otype ≡ 0x3_ffff → window_holds r address ≡ true
    → at_address (Cap r) address ≡ Cap (record r { address = address })
unfolding at_address
at_address-moved r address open_type inside =
    let unsealed : eqb r.otype 0x3_ffff ≡ true = rw open_type refl in
    rw (unsealed, inside) refl

pub at_address-sealed : (r : Record) (address : ℕ) → eqb r.otype 0x3_ffff ≡ false → at_address (Cap r) address ≡ data_at (Cap r) address
unfolding at_address
at_address-sealed r address sealed = rw sealed refl

pub at_address-outside : (r : Record) (address : ℕ) → window_holds r address ≡ false → at_address (Cap r) address ≡ data_at (Cap r) address
unfolding at_address
at_address-outside r address outside = cond-false _ _ _ (and_right _ _ outside)
