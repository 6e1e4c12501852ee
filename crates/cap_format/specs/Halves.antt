-- A word is kept as its address and its high half.
use Rattle.std.proofs.Common.{◌≡◌, ◌+◌, ◌*◌, ◌/◌, ◌%◌, ◌^◌, ◌<◌, refl}
use Rattle.std.proofs.lemmas.Nat.{shr_high, mod_low}
use Rattle.cap_format.specs.declared.word.CapWord.TheInside.{Inside}

-- the halves of a word that is put together from halves are those
pub halves_of_joined : (w : Inside) → w.low < 2 ^ 64
    → record { low = (w.high * 2 ^ 64 + w.low) % 2 ^ 64; high = (w.high * 2 ^ 64 + w.low) / 2 ^ 64 } ≡ w
halves_of_joined w small = rw (shr_high w.high 64 w.low small, mod_low w.high 64 w.low small) refl
