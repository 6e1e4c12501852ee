-- What a check of each element comes to.
use Rattle.std.proofs.Common.{◌≡◌, ℕ, ◌+◌, ◌-◌, ◌<◌, ◌≤◌, ◌^◌, suc, Bool, true, false, List, [], ◌∷◌, length}
use Rattle.std.proofs.Common.{get_or, map, refl, sym, ap, ◌∙◌, subst, arith}
use Rattle.std.proofs.lemmas.List.{get_or-map, length-map}
use Rattle.std.specs.Iterator.{YieldsFirst}
use Rattle.std.specs.List.{Contains, HoldsAt, list_any}
use Rattle.std.specs.Prelude.{min, Option, None, Some, is_some, IfNone, IfOk, IfSome, Result, Ok, Err, OnOk}
use Rattle.base.specs.declared.fault.Fault.{Fault}
use Rattle.base.specs.Size.{bytes_of}
use Rattle.base.specs.declared.size.Size.{Size}
use Rattle.base.specs.declared.size.Size.TheVariants.{Byte, Half, Word, Double}
use Rattle.isa_rows.specs.declared.kinds.Kind.TheVariants as kind
use Rattle.isa_rows.specs.declared.operands.Insn.{Insn}
use Rattle.isa_rows.specs.Kind.{kind_of}
use Rattle.special_regs.specs.declared.interrupts.Interrupt.{Interrupt}
use Rattle.tagged_memory.specs.Memory.{Memory, IsMemory, has_tag, is_in_ram, tagged_between}
use Rattle.tagged_memory.specs.MemoryLaws.{in_ram, in_ram-from}
use Rattle.steps.specs.Accesses.{size_of}
use Rattle.steps.specs.FetchedLaws.{registers_fetched}
use Rattle.steps.specs.Looks.{HasRegisters}
use Rattle.steps.specs.MemoryRows.{place_of}
use Rattle.steps.specs.State.{State}
use Rattle.steps.specs.Step.{fetched_by, insn_fetched}
use Rattle.reach.specs.declared.range.Range.{Range}
use Rattle.reach.specs.Ranges.{IsIn}
use Rattle.policy.proofs.Granules.{below-end, tagged-there}
use Rattle.policy.proofs.Runs.{places-more}
use Rattle.every_run.specs.Known.{IsOutside, TouchesOne}
use Rattle.every_run.specs.Members.{AreTagsKnown}
use Rattle.every_run.specs.Stands.{AreKnown, IsKnownData, LooksAtKnown}

-- ---- lists

module _ {X Y : Type 0} (f : X → Y) (items : List X) (i : ℕ) (x : X) (below : i < length items) (read : x ≡ get_or items i x) where
  mapped-at : f x ≡ get_or (map f items) i (f x)
  mapped-at = sym (get_or-map f items i x (f x) below ∙ ap f (sym read))

  inside : i < length (map f items)
  inside = omega (arith, length-map items f)

  -- the element is one
  pub contains-mapped : (y : Y) → f x ≡ y → Contains (map f items) y
  contains-mapped y is = subst (Contains (map f items)) is (i, inside, sym mapped-at)

  -- one element more
  pub mapped-more : (P : Y → Type 0) → P (f x) → ((k : ℕ) → k < i → HoldsAt P (map f items) k) → (k : ℕ) → k < i + 1
      → HoldsAt P (map f items) k
  mapped-more P holds before = places-more P (map f items) i (f x) inside mapped-at holds before

-- it holds of each element
pub holds-each : {Y : Type 0} (P : Y → Type 0) (ys : List Y) (n : ℕ) → length ys ≤ n → ((k : ℕ) → k < n → HoldsAt P ys k) → (y : Y)
    → Contains ys y → P y
holds-each P ys n all each y there =
    let k : ℕ = there.0 in
    let below : k < length ys = there.1 in
    subst P there.2 (each k (omega arith) y)

contains-later : {Y : Type 0} (y : Y) (ys : List Y) (x : Y) → Contains ys x → Contains (y ∷ ys) x
contains-later y ys x there =
    let k : ℕ = there.0 in
    let below : k < length ys = there.1 in
    (suc k, omega arith, there.2)

-- where it is true of no element it is true of none
pub any-none : {Y : Type 0} (p : Y → Bool) (ys : List Y) → ((y : Y) → Contains ys y → p y ≡ false) → list_any p ys ≡ false
any-none p [] each = refl
any-none p (y ∷ ys) each =
    rw (each y (0, omega arith, refl), any-none p ys (λ x there. each x (contains-later y ys x there))) refl

-- ---- addresses

pub known-outside : (any : List Range) (address size : ℕ) → (TouchesOne any address size → ⊥) → AreKnown (IsOutside any) address size
known-outside any address size none b low high one =
    let begin = one.inside.low in
    let end = one.inside.high in
    none (record { range = one.range; is_one = one.is_one; low = omega arith; high = omega arith })

few-bytes : (size : Size) → bytes_of size ≤ 8
few-bytes Byte = omega arith
few-bytes Half = omega arith
few-bytes Word = omega arith
few-bytes Double = omega arith

fewer-known : (Known : ℕ → Type 0) (m : Memory) (address size few : ℕ) → few ≤ size → IsKnownData Known m address size
    → IsKnownData Known m address few
unfolding is_in_ram
fewer-known Known m address size few less data' =
    let place = in_ram m address size data'.inside in
    record {
      inside = in_ram-from m address few place.0 (let low = place.0 in let high = place.1 in omega arith);
      known = λ b low high. data'.known b low (omega arith);
    }

-- a load of data counts as one of 8 bytes
pub known-load : (Known : ℕ → Type 0) (m : Memory) (address : ℕ) (size : Size) → IsKnownData Known m address 8
    → IsKnownData Known m address (bytes_of size)
known-load Known m address size known = fewer-known Known m address 8 (bytes_of size) (few-bytes size) known

pub none-there-some : {Y : Type 0} (o : Option Y) → is_some o ≡ false → o ≡ None
none-there-some None none = refl
none-there-some (Some y) none = cc

-- what follows of a result's value
pub ok-then : {X E : Type 0} (P Q : X → Type 0) (r : Result X E) → ((x : X) → P x → Q x) → IfOk r P → IfOk r Q
ok-then P Q (Ok x) all holds = all x holds
ok-then P Q (Err e) all holds = tt

-- a check of what an instruction loads
module _ (Known : ℕ → Type 0) (insn : Insn) (a : State) where
  looks-load-at : kind_of insn.row ≡ kind.Load → IsKnownData Known a.memory (place_of insn a) 8 → LooksAtKnown Known insn a
  looks-load-at row known = record {
    csr = λ is. let same : kind.Load ≡ kind.Csr = sym row ∙ is in cc;
    number = λ is. known-load Known a.memory (place_of insn a) (size_of insn.row) known;
    capability = λ is. let same : kind.Load ≡ kind.LoadCapability = sym row ∙ is in cc;
  }

  looks-capability-at : kind_of insn.row ≡ kind.LoadCapability → IsKnownData Known a.memory (place_of insn a) 16 → LooksAtKnown Known insn a
  looks-capability-at row known = record {
    csr = λ is. let same : kind.LoadCapability ≡ kind.Csr = sym row ∙ is in cc;
    number = λ is. let same : kind.LoadCapability ≡ kind.Load = sym row ∙ is in cc;
    capability = λ is. known;
  }

  pub looks-load : kind_of insn.row ≡ kind.Load → (place : ℕ) → place ≡ place_of insn a → {E : Type 0} (r : Result (Unit {0}) E)
      → OnOk r (IsKnownData Known a.memory place 8) → OnOk r (LooksAtKnown Known insn a)
  looks-load row place is (Ok done) known = looks-load-at row (subst (λ p. IsKnownData Known a.memory p 8) is known)
  looks-load row place is (Err why) known = tt

  pub looks-capability : kind_of insn.row ≡ kind.LoadCapability → (place : ℕ) → place ≡ place_of insn a → {E : Type 0}
      (r : Result (Unit {0}) E) → OnOk r (IsKnownData Known a.memory place 16) → OnOk r (LooksAtKnown Known insn a)
  looks-capability row place is (Ok done) known = looks-capability-at row (subst (λ p. IsKnownData Known a.memory p 16) is known)
  looks-capability row place is (Err why) known = tt

pub some-holds : {Y : Type 0} (P : Y → Type 0) (o : Option Y) (y : Y) → o ≡ Some y → IfSome o P → P y
some-holds P None y is holds = cc
some-holds P (Some x) y is holds = let same : x ≡ y = cc in subst P same holds

-- an instruction that is fetched names registers that exist
pub registers-named : (p : Option Interrupt) (r : Result ℕ Fault) (insn : Insn) → insn_fetched (fetched_by p r) ≡ Some insn
    → HasRegisters insn
registers-named p r insn is = some-holds HasRegisters (insn_fetched (fetched_by p r)) insn is (registers_fetched p r)

-- ---- tags

-- no granule with a byte in the range is tagged
abbrev pub HasNoTagIn : Memory → Range → Type 0
HasNoTagIn m range =
    (granule a : ℕ) → has_tag m granule ≡ true → granule ≤ a → a < granule + 16 → IsIn range a → ⊥

none-there : (x : ℕ) → Contains [] x → ⊥
none-there x there = let below : there.0 < 0 = there.1 in omega arith

no-tag-in : (m : Memory) → IsMemory m → (range : Range) (from to : ℕ) → from ≤ range.from - 15
    → ((a : ℕ) → a < range.to → a + 16 < 2 ^ 63 → a < to) → tagged_between m from to ≡ [] → HasNoTagIn m range
no-tag-in m sound range from to low high none granule a tagged begin end inside =
    let one = inside.low in
    let two = inside.high in
    let small = below-end m sound granule tagged in
    none-there granule (subst (λ xs. Contains xs granule) none
    (tagged-there m sound from to granule tagged (omega arith) (high granule (omega arith) small)))

-- a list whose first item there is not is empty
pub first-none : {S : Type 0} (rest : S → List ℕ) (s t : S) (found : List ℕ) (o : Option ℕ) → YieldsFirst rest s o t → rest s ≡ found
    → IfNone o (found ≡ [])
first-none rest s t found None steps is = sym is ∙ steps.0
first-none rest s t found (Some x) steps is = tt

-- a search of the granules from 15 bytes before the range on, up to its end or that of the addresses
pub tagged-none : (m : Memory) → IsMemory m → (range : Range) (from to most : ℕ) → from ≡ range.from - 15 → most ≡ 2 ^ 64 - 1
    → to ≡ min range.to most → (o : Option ℕ) → IfNone o (tagged_between m from to ≡ []) → IfNone o (HasNoTagIn m range)
tagged-none m sound range from to most first last end None none =
    no-tag-in m sound range from to (omega (arith, first)) (λ a below small. omega (arith, end, last)) none
tagged-none m sound range from to most first last end (Some x) none = tt

pub tags-known : (m : Memory) (any : List Range) → ((range : Range) → Contains any range → HasNoTagIn m range)
    → AreTagsKnown (IsOutside any) m
tags-known m any none granule tagged b low high one = none one.range one.is_one granule b tagged low high one.inside
