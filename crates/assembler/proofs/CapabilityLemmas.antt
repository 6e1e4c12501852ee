-- Capabilities in ascending order, each held by the bytes of a section, stay so when one is put among them whose place is free.
use Rattle.std.proofs.Common.{◌≡◌, ℕ, ◌+◌, ◌%◌, ◌^◌, ◌<◌, ◌≤◌, Bool, true, false, ◌&&◌, ◌||◌, ◌==◌, nat_lt, nat_le, if◌then◌else◌}
use Rattle.std.proofs.Common.{List, [], ◌∷◌, length, None, refl, sym, ap, ◌∙◌, subst, arith}
use Rattle.std.proofs.lemmas.Bool.Decides.{nat_tests}
use Rattle.base.specs.Ram.{ram_base, ram_end}
use Rattle.cap_bounds.specs.Rounding.{is_exact}
use Rattle.image.specs.declared.cap_entry.CapEntry.{CapEntry}
use Rattle.image.specs.Image.{Section, is_capability_place, is_exact_range, capability_fault, capabilities_fault}
use Rattle.image.specs.ImageLaws.{IsGoodCapability, capabilities_fault-none}
use Rattle.assembler.specs.Faults.{is_taken, inserted, closed}
use Rattle.assembler.specs.Capabilities.{entered}
use Rattle.assembler.specs.Buildable.{AreAscending, AreHeld}
use Rattle.assembler.proofs.TestLemmas.{true-false}

pub none_there : (cs : List CapEntry) → length cs ≡ 0 → cs ≡ []
none_there [] e = refl
none_there (c ∷ cs) e = absurd (omega (arith, e))

-- ---- bytes that lie in sections

or-swap : (a b c : Bool) → (a || (b || c)) ≡ (b || (a || c))
or-swap true true c = refl
or-swap true false c = refl
or-swap false b c = refl

or-second : (a b : Bool) → b ≡ true → (a || b) ≡ true
or-second true b h = refl
or-second false b h = h

or-first : (a b : Bool) → a ≡ true → (a || b) ≡ true
or-first a b h = rw h refl

or-mono : (a b x y : Bool) → (a ≡ true → x ≡ true) → b ≡ y → (a || b) ≡ true → (x || y) ≡ true
or-mono true b x y f e h = or-first x y (f refl)
or-mono false b x y f e h = or-second x y (sym e ∙ h)

abbrev is_met : ℕ → ℕ → Section → Bool
is_met from to s = nat_lt from (s.address + length s.bytes) && nat_lt s.address to

taken-inserted : (from to : ℕ) (s : Section) (ss : List Section)
    → is_taken from to (inserted s ss) ≡ (is_met from to s || is_taken from to ss)
taken-inserted from to s [] = refl
taken-inserted from to s (t ∷ ts) =
    elim (nat_lt s.address t.address) as
    (λ x. is_taken from to (if x then s ∷ t ∷ ts else (t ∷ inserted s ts)) ≡ (is_met from to s || is_taken from to (t ∷ ts))) [
      | true ↦ refl
      | false ↦ ap (λ b. is_met from to t || b) (taken-inserted from to s ts) ∙ or-swap (is_met from to t) (is_met from to s) _
    ]

met-grown : (from to a n m : ℕ) → n ≤ m → (nat_lt from (a + n) && nat_lt a to) ≡ true → (nat_lt from (a + m) && nat_lt a to) ≡ true
met-grown from to a n m h e = grind (arith, nat_tests)

-- what lies in the sections lies in them when the last one has grown
taken-grown : (from to : ℕ) (done : List Section) (s t : Section) → t.address ≡ s.address → length s.bytes ≤ length t.bytes
    → is_taken from to (closed done s) ≡ true → is_taken from to (closed done t) ≡ true
taken-grown from to done s t e le h =
    elim (length t.bytes == 0) as (λ x. (length t.bytes == 0) ≡ x → is_taken from to (if x then done else inserted t done) ≡ true) [
      | true ↦ λ z.
          let none : (length s.bytes == 0) ≡ true = grind (arith, nat_tests) in
          subst (λ x. is_taken from to (if x then done else inserted s done) ≡ true) none h
      | false ↦ λ z.
          taken-inserted from to t done
          ∙ elim (length s.bytes == 0) as
          (λ x. is_taken from to (if x then done else inserted s done) ≡ true → (is_met from to t || is_taken from to done) ≡ true) [
            | true ↦ λ k. or-second _ _ k
            | false ↦ λ k.
                or-mono (is_met from to s) (is_taken from to done) (is_met from to t) (is_taken from to done)
                (λ m. rw e (met-grown from to s.address (length s.bytes) (length t.bytes) le m)) refl
                (sym (taken-inserted from to s done) ∙ k)
          ] h
    ] refl

own-met : (p a n : ℕ) → a ≤ p → a + n ≡ p + 16 → (nat_lt p (a + n) && nat_lt a (p + 16)) ≡ true
own-met p a n h e = grind (arith, nat_tests)

-- the bytes that a section ends with lie in it
pub taken-own : (p : ℕ) (done : List Section) (t : Section) → t.address ≤ p → t.address + length t.bytes ≡ p + 16
    → is_taken p (p + 16) (closed done t) ≡ true
taken-own p done t h e =
    let some : (length t.bytes == 0) ≡ false = grind (arith, nat_tests) in
    ap (λ x. is_taken p (p + 16) (if x then done else inserted t done)) some ∙ taken-inserted p (p + 16) t done
    ∙ or-first _ _ (own-met p t.address (length t.bytes) h e)

not-met : (p a n : ℕ) → a + n ≡ p → (nat_lt p (a + n) && nat_lt a (p + 16)) ≡ false
not-met p a n e = grind (arith, nat_tests)

neither-met : (a b : Bool) → a ≡ false → b ≡ false → (a || b) ≡ false
neither-met a b h g = cc

-- what stands after the last section and in no other lies in none
pub free-past : (p : ℕ) (done : List Section) (s : Section) → p ≡ s.address + length s.bytes → is_taken p (p + 16) done ≡ false
    → is_taken p (p + 16) (closed done s) ≡ false
free-past p done s e h =
    elim (length s.bytes == 0) as (λ x. is_taken p (p + 16) (if x then done else inserted s done) ≡ false) [
      | true ↦ h
      | false ↦ taken-inserted p (p + 16) s done ∙ neither-met _ _ (not-met p s.address (length s.bytes) (sym e)) h
    ]

-- ---- capabilities that are held

pub held-grown : (done : List Section) (s t : Section) (cs : List CapEntry) → t.address ≡ s.address → length s.bytes ≤ length t.bytes
    → AreHeld (closed done s) cs → AreHeld (closed done t) cs
held-grown done s t [] e le h = tt
held-grown done s t (c ∷ cs) e le h = (taken-grown c.place (c.place + 16) done s t e le h.0, held-grown done s t cs e le h.1)

pub held-entered : (sections : List Section) (c : CapEntry) (cs : List CapEntry) → is_taken c.place (c.place + 16) sections ≡ true
    → AreHeld sections cs → AreHeld sections (entered c cs)
held-entered sections c [] h g = (h, tt)
held-entered sections c (d ∷ ds) h g =
    elim (nat_lt c.place d.place) as (λ x. AreHeld sections (if x then c ∷ d ∷ ds else (d ∷ entered c ds))) [
      | true ↦ (h, g)
      | false ↦ (g.0, held-entered sections c ds h g.1)
    ]

pub length-entered : (c : CapEntry) (cs : List CapEntry) → length (entered c cs) ≡ length cs + 1
length-entered c [] = refl
length-entered c (d ∷ ds) =
    elim (nat_lt c.place d.place) as (λ x. length (if x then c ∷ d ∷ ds else (d ∷ entered c ds)) ≡ length (d ∷ ds) + 1) [
      | true ↦ omega arith
      | false ↦ omega (arith, length-entered c ds)
    ]

-- ---- capabilities in ascending order

below-next : (p q : ℕ) → nat_lt p q ≡ true → p < q
below-next p q h = grind (arith, nat_tests)

above-last : (p q : ℕ) → nat_lt p q ≡ false → (q ≡ p → ⊥) → q < p
above-last p q h f = grind (arith, nat_tests)

pub ascending-entered : (pages before : ℕ) (sections : List Section) (c : CapEntry) (cs : List CapEntry) → IsGoodCapability pages c
    → before < c.place → is_taken c.place (c.place + 16) sections ≡ false → AreHeld sections cs → AreAscending pages before cs
    → AreAscending pages before (entered c cs)
ascending-entered pages before sections c [] good h free held asc = (h, good, tt)
ascending-entered pages before sections c (d ∷ ds) good h free held asc =
    elim (nat_lt c.place d.place) as
    (λ x. nat_lt c.place d.place ≡ x → AreAscending pages before (if x then c ∷ d ∷ ds else (d ∷ entered c ds))) [
      | true ↦ λ e. (h, good, (below-next c.place d.place e, asc.1, asc.2))
      | false ↦ λ e.
          let apart : d.place ≡ c.place → ⊥ = λ same.
          true-false (sym held.0 ∙ ap (λ p. is_taken p (p + 16) sections) same ∙ free) in
          (asc.0, asc.1, ascending-entered pages d.place sections c ds good (above-last c.place d.place e apart) free held.1 asc.2)
    ] refl

-- ---- what has no fault

place-test : (pages before place : ℕ) → place % 16 ≡ 0 → ram_base ≤ place → place + 16 ≤ ram_end pages → before < place
    → is_capability_place pages before place ≡ true
unfolding is_capability_place
place-test pages before place a b c d = grind (arith, nat_tests)

range-test : (base size : ℕ) → base < 2 ^ 64 → size < 2 ^ 64 → base + size ≤ 2 ^ 64 → is_exact base (base + size) ≡ true
    → is_exact_range base size ≡ true
unfolding is_exact_range
range-test base size a b c d = rw d (grind (arith, nat_tests))

small-test : (perms flag : ℕ) → perms < 2 ^ 16 → flag ≤ 1 → (nat_le perms 0xffff && nat_le flag 1) ≡ true
small-test perms flag a b = grind (arith, nat_tests)

capability-none : (pages before : ℕ) (c : CapEntry) → before < c.place → IsGoodCapability pages c → capability_fault pages before c ≡ None
unfolding capability_fault
capability-none pages before c h g =
    rw (
      place-test pages before c.place g.aligned g.above_base g.inside h,
      range-test c.base c.length g.base_fits g.length_fits g.end_fits g.exact,
      small-test c.perms c.flag g.perms_fit g.flag_fits,
    ) refl

pub ascending-none : (pages before : ℕ) (cs : List CapEntry) → AreAscending pages before cs → capabilities_fault pages before cs ≡ None
ascending-none pages before [] h = refl
ascending-none pages before (c ∷ cs) h =
    capabilities_fault-none pages before c cs (capability-none pages before c h.0 h.1) (ascending-none pages c.place cs h.2)
