-- Sound devices give numbers of 64 bits, and whatever happens leaves them sound.
use Rattle.std.proofs.Common.{◌≡◌, ℕ, zero, suc, ◌+◌, ◌^◌, ◌<◌, ◌≤◌, Bool, true, false, eqb}
use Rattle.std.proofs.Common.{ltb, not, List, [], ◌∷◌, ◌++◌, length, Option, Some, None}
use Rattle.std.proofs.Common.{refl, length-append, arith, lit<, lit≤}
use Rattle.std.specs.Prelude.{nat_le, slice_index, slice_set, IfSome, ◌&&◌}
use Rattle.std.specs.List.{list_all}
use Rattle.std.proofs.lemmas.Nat.{mod_below, pow_pos}
use Rattle.std.proofs.lemmas.Bool.{and_parts, cond_both, ltb-true}
use Rattle.base.specs.Bits.{bit}
use Rattle.devices.specs.Devices.{Devices, idle, waits, oldest, without_oldest, status_of, value_at, taken_at, written, ticked, received}
use Rattle.devices.specs.Devices.{interrupts_of, timer, receive, status, control_register, halt, mtimecmp, kept_at, kept_value, kept_in}
use Rattle.devices.specs.declared.map.TheConstants.{FIRST}
use Rattle.devices.specs.Sound.{AreSound}

bit-small : (b : Bool) → bit b < 2
bit-small true = omega arith
bit-small false = omega arith

-- ---- what they give

oldest-below : (q : List ℕ) → ((k : ℕ) → slice_index q k < 256) → oldest q < 256
oldest-below [] bytes = lit< tt
oldest-below (b ∷ bs) bytes = bytes 0

status_of-below : (d : Devices) → status_of d < 2 ^ 64
status_of-below d = omega (arith, bit-small (waits d.queue), bit-small d.overrun)

kept_value-below : (at : Option ℕ) (kept : List ℕ) → ((k : ℕ) → slice_index kept k < 2 ^ 64) → kept_value at kept < 2 ^ 64
kept_value-below (Some k) kept small = small k
kept_value-below None kept small = lit< tt

pub value_at-below : (address : ℕ) (d : Devices) → AreSound d → value_at address d < 2 ^ 64
unfolding value_at
value_at-below address d sound =
    let P : ℕ → Type 0 = λ n. n < 2 ^ 64 in
    cond_both (eqb address timer) _ _ P (λ _. sound.devices.mtime)
    (λ _. cond_both (eqb address receive) _ _ P (λ _. let small = oldest-below d.queue sound.waiting in omega arith)
    (λ _. cond_both (eqb address status) _ _ P (λ _. status_of-below d)
    (λ _. cond_both (eqb address control_register) (bit d.control) _ P (λ _. let small = bit-small d.control in omega arith)
    (λ _. kept_value-below (kept_at address) d.kept sound.kept))))

pub interrupts_of-below : (d : Devices) → interrupts_of d < 2 ^ 64
unfolding interrupts_of
interrupts_of-below d = omega (arith, bit-small (nat_le (mtimecmp d) d.mtime), bit-small (d.control && waits d.queue))

-- ---- what leaves them sound

are-numbers : (xs : List ℕ) → list_all (λ n. ltb n (2 ^ 64)) xs ≡ true → (k : ℕ) → slice_index xs k < 2 ^ 64
are-numbers [] small k = lit< tt
are-numbers (x ∷ xs) small zero = ltb-true x (2 ^ 64) (and_parts _ _ small).0
are-numbers (x ∷ xs) small (suc k) = are-numbers xs (and_parts _ _ small).1 k

pub AreSound-idle : AreSound idle
AreSound-idle = record {
  devices = record { mtime = lit< tt; few = lit≤ tt };
  kept = are-numbers FIRST refl;
  waiting = λ k. lit< tt;
  halted = tt;
}

pub AreSound-ticked : (d : Devices) → AreSound d → AreSound (ticked d)
AreSound-ticked d sound = record {
  devices = record { mtime = mod_below (d.mtime + 1) (2 ^ 64) (pow_pos 64); few = sound.devices.few };
  kept = sound.kept;
  waiting = sound.waiting;
  halted = sound.halted;
}

bytes-appended : (q : List ℕ) (b : ℕ) → b < 256 → ((k : ℕ) → slice_index q k < 256) → (k : ℕ) → slice_index (q ++ (b ∷ [])) k < 256
bytes-appended [] b byte bytes zero = byte
bytes-appended [] b byte bytes (suc k) = lit< tt
bytes-appended (x ∷ q) b byte bytes zero = bytes 0
bytes-appended (x ∷ q) b byte bytes (suc k) = bytes-appended q b byte (λ k. bytes (suc k)) k

not-false : (b : Bool) → not b ≡ false → b ≡ true
not-false true e = refl
not-false false e = cc

pub AreSound-received : (b : ℕ) (d : Devices) → b < 256 → AreSound d → AreSound (received b d)
unfolding received
AreSound-received b d byte sound =
    let full : Bool = not (ltb (length d.queue) 64) in
    record {
      devices = record {
        mtime = sound.devices.mtime;
        few = cond_both full d.queue (d.queue ++ (b ∷ [])) (λ q. length q ≤ 64) (λ _. sound.devices.few)
            (λ room. let below = ltb-true (length d.queue) 64 (not-false _ room) in omega (arith, length-append d.queue (b ∷ [])));
      };
      kept = sound.kept;
      waiting = cond_both full d.queue (d.queue ++ (b ∷ [])) (λ q. (k : ℕ) → slice_index q k < 256) (λ _. sound.waiting)
          (λ _. bytes-appended d.queue b byte sound.waiting);
      halted = sound.halted;
    }

fewer : (q : List ℕ) → length q ≤ 64 → length (without_oldest q) ≤ 64
fewer [] few = few
fewer (b ∷ bs) few = omega arith

bytes-without : (q : List ℕ) → ((k : ℕ) → slice_index q k < 256) → (k : ℕ) → slice_index (without_oldest q) k < 256
bytes-without [] bytes k = bytes k
bytes-without (b ∷ bs) bytes k = bytes (suc k)

pub AreSound-taken_at : (address : ℕ) (d : Devices) → AreSound d → AreSound (taken_at address d)
unfolding taken_at
AreSound-taken_at address d sound = record {
  devices = record {
    mtime = sound.devices.mtime;
    few = cond_both (eqb address receive) (without_oldest d.queue) d.queue (λ q. length q ≤ 64) (λ _. fewer d.queue sound.devices.few)
        (λ _. sound.devices.few);
  };
  kept = sound.kept;
  waiting = cond_both (eqb address receive) (without_oldest d.queue) d.queue (λ q. (k : ℕ) → slice_index q k < 256)
      (λ _. bytes-without d.queue sound.waiting) (λ _. sound.waiting);
  halted = sound.halted;
}

set-below : (kept : List ℕ) (i k value : ℕ) → value < 2 ^ 64 → slice_index kept k < 2 ^ 64 → slice_index (slice_set kept i value) k < 2 ^ 64
set-below [] i k value new old = old
set-below (v ∷ vs) zero zero value new old = new
set-below (v ∷ vs) zero (suc k) value new old = old
set-below (v ∷ vs) (suc i) zero value new old = old
set-below (v ∷ vs) (suc i) (suc k) value new old = set-below vs i k value new old

kept_in-below : (at : Option ℕ) (value : ℕ) (kept : List ℕ) → value < 2 ^ 64 → ((k : ℕ) → slice_index kept k < 2 ^ 64)
    → (k : ℕ) → slice_index (kept_in at value kept) k < 2 ^ 64
kept_in-below (Some i) value kept new old k = set-below kept i k value new (old k)
kept_in-below None value kept new old k = old k

pub AreSound-written : (d : Devices) (address value : ℕ) → value < 2 ^ 64 → AreSound d → AreSound (written d address value)
unfolding written
AreSound-written d address value fits sound =
    let P : ℕ → Type 0 = λ n. n < 2 ^ 64 in
    record {
      devices = record {
        mtime = cond_both (eqb address timer) value d.mtime P (λ _. fits) (λ _. sound.devices.mtime);
        few = sound.devices.few;
      };
      kept = kept_in-below (kept_at address) value d.kept fits sound.kept;
      waiting = sound.waiting;
      halted = cond_both (eqb address halt) (Some value) d.halted (λ o. IfSome o P) (λ _. fits) (λ _. sound.halted);
    }
