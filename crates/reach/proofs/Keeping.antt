-- Granules in which what is lent may be kept: the first of them is asked for, and where none is open none comes to hold it.
use Rattle.std.proofs.Common.{◌≡◌, ℕ, ◌+◌, ◌%◌, ◌<◌, ◌≤◌, List, refl, arith, inl, inr}
use Rattle.std.proofs.lemmas.Bool.{and_parts, leb-true, le-leb, ltb-true, lt-ltb}
use Rattle.std.proofs.lemmas.Bool.Decides.{nat_tests}
use Rattle.std.specs.Prelude.{max, nat_le, nat_lt, true, Contains}
use Rattle.cap_bounds.specs.CapValue.{CapValue, value_base, value_top}
use Rattle.tagged_memory.specs.Memory.{Memory}
use Rattle.authority.specs.Lent.{before, given, lent, KeepsNothingLentBeyond}
use Rattle.reach.specs.Differs.{KeepsNoLoan}
use Rattle.reach.specs.First.{HoldsOfNone}
use Rattle.reach.specs.Opens.{StoresLocals, KeepsSome}
use Rattle.reach.specs.Questions.{first_granule, has_granule}

-- ---- the first granule

multiple : (base address : ℕ) → first_granule base address % 16 ≡ 0
multiple base address = grind (arith, nat_tests)

reaches : (base address : ℕ) → address < first_granule base address + 16
reaches base address = grind (arith, nat_tests)

begins : (base address : ℕ) → base ≤ first_granule base address
begins base address = grind (arith, nat_tests)

is-first : (base address granule : ℕ) → granule % 16 ≡ 0 → base ≤ granule → address < granule + 16 → first_granule base address ≤ granule
is-first base address granule aligned low high = grind (arith, nat_tests)

-- the byte of both
byte-of : (granule address : ℕ) → granule ≤ max granule address
byte-of granule address = grind (arith, nat_tests)

byte-from : (granule address : ℕ) → address ≤ max granule address
byte-from granule address = grind (arith, nat_tests)

byte-below : (granule address end : ℕ) → granule < end → address < end → max granule address < end
byte-below granule address end one other = grind (arith, nat_tests)

module _ (c : CapValue) (address size : ℕ) where
  abbrev first : ℕ
  first = first_granule (value_base c) address

  pub first-keeps : StoresLocals c → first + 16 ≤ value_top c → first < address + size → 0 < size → KeepsSome c address size
  first-keeps allows top high some = record {
    granule = first;
    byte = max first address;
    aligned = multiple (value_base c) address;
    from = byte-of first address;
    to = byte-below first address (first + 16) (omega arith) (reaches (value_base c) address);
    low = byte-from first address;
    high = byte-below first address (address + size) high (omega arith);
    opens = record {
      store = record {
        unsealed = allows.unsealed;
        stores = allows.stores;
        capabilities = allows.capabilities;
        base = begins (value_base c) address;
        top = top;
      };
      locals = allows.locals;
    };
  }

  pub keeps-stores : KeepsSome c address size → StoresLocals c
  keeps-stores keeps = record {
    unsealed = keeps.opens.store.unsealed;
    stores = keeps.opens.store.stores;
    capabilities = keeps.opens.store.capabilities;
    locals = keeps.opens.locals;
  }

  pub keeps-first : KeepsSome c address size → (first + 16 ≤ value_top c) × (first < address + size) × (0 < size)
  keeps-first keeps =
      let from = keeps.from in
      let to = keeps.to in
      let low = keeps.low in
      let high = keeps.high in
      let top = keeps.opens.store.top in
      let least : first ≤ keeps.granule =
      is-first (value_base c) address keeps.granule keeps.aligned keeps.opens.store.base (omega arith) in
      (omega arith, omega arith, omega arith)

  pub keeps-there : StoresLocals c → has_granule c address size ≡ true → KeepsSome c address size
  keeps-there stores has =
      let outer = and_parts (nat_lt 0 size) _ has in
      let inner = and_parts (nat_le (first + 16) (value_top c)) _ outer.1 in
      first-keeps stores (leb-true _ _ inner.0) (ltb-true _ _ inner.1) (ltb-true _ _ outer.0)

  pub keeps-back : KeepsSome c address size → has_granule c address size ≡ true
  keeps-back keeps =
      let least = keeps-first keeps in
      rw (lt-ltb 0 size least.2, le-leb (first + 16) (value_top c) least.0, lt-ltb first (address + size) least.1) refl

-- ---- what isn't kept

module _ (P : CapValue → Type 0) (m : Memory) (vs : List CapValue) (complete : (v : CapValue) → P v → Contains vs v) (address size : ℕ)
    (none : HoldsOfNone (λ v. KeepsSome v address size) vs) where
  pub not-kept : (later : Memory) → KeepsNothingLentBeyond P m later → KeepsNoLoan P m later address size
  not-kept later keeps = λ a granule v low high aligned from to here. elim (keeps granule v here) [
    | before held ↦ inl held
    | given global by c member opens ↦ inr (global, by)
    | lent local c member opens ↦
        absurd (none c (complete c member)
        (record { granule = granule; byte = a; aligned = aligned; from = from; to = to; low = low; high = high; opens = opens }))
  ]
