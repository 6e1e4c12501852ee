use Rattle.std.proofs.Common.{◌≡◌, ℕ, ◌≤◌, zero, suc, if◌then◌else◌, List, ◌∷◌, take}
use Rattle.std.proofs.Common.{Result, Ok, Err, OnOk, is_ok, refl, ap, arith}
use Rattle.std.proofs.lemmas.Bool.Decides.{nat_tests}
use Rattle.std.specs.Int.{byte_at, bytes_low_first}
use Rattle.byteorder.specs.Endian.{little_bytes}
use Rattle.assembler.proofs.bytes.append_number.Goals as goal

first-bytes : (i n m x : ℕ) → n ≤ m → take n (bytes_low_first i m x) ≡ bytes_low_first i n x
first-bytes i zero m x h = refl
first-bytes i (suc n) zero x h = absurd (omega arith)
first-bytes i (suc n) (suc m) x h = ap (λ bs. byte_at i x ∷ bs) (first-bytes (suc i) n m x (omega arith))

where-ok : {A E : Type 0} (r : Result A E) (xs ys zs : List ℕ) → xs ≡ (if is_ok r then ys else zs) → OnOk r (xs ≡ ys)
where-ok (Ok a) xs ys zs h = h
where-ok (Err e) xs ys zs h = tt

pub returns : goal.returns
returns c =
    let size : c.args.size ≤ 8 = grind (arith, nat_tests, c.requires) in
    let bytes : take c.args.size (little_bytes 8 c.args.number) ≡ little_bytes c.args.size c.args.number =
    first-bytes 0 c.args.size 8 c.args.number size in
    let buffer : c.write_u64.new.buf ≡ little_bytes 8 c.args.number = c.write_u64.ensures in
    where-ok _ _ _ _ (rw bytes at (rw buffer at (rw c.from.ensures at c.extend_from_slice.ensures.items)))
