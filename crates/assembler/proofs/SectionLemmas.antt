-- Sections in RAM, in ascending order and apart, stay so when one that lies apart is put among them.
use Rattle.std.proofs.Common.{◌≡◌, ℕ, ◌+◌, ◌<◌, ◌≤◌, true, false, ◌&&◌, ◌==◌, nat_lt, if◌then◌else◌, List, [], ◌∷◌, length, None, refl}
use Rattle.std.proofs.Common.{subst, arith}
use Rattle.std.proofs.lemmas.Bool.Decides.{nat_tests}
use Rattle.base.specs.Ram.{ram_base, ram_end}
use Rattle.image.specs.Image.{Section, span_fault, sections_fault}
use Rattle.image.specs.ImageLaws.{sections_fault-none, no_fault_cons}
use Rattle.assembler.specs.Faults.{is_taken, inserted, closed}
use Rattle.assembler.proofs.TestLemmas.{or-false, false-or, not-nought}
use Rattle.assembler.specs.Buildable.{AreFilled, HasRoom}

span-none : (pages free a n : ℕ) → ram_base ≤ a → a + n ≤ ram_end pages → free ≤ a → span_fault pages free a n ≡ None
unfolding span_fault
span-none pages free a n h g f = grind (arith, nat_tests)

span-moved : (pages free other a n : ℕ) → span_fault pages free a n ≡ None → other ≤ a → span_fault pages other a n ≡ None
unfolding span_fault
span-moved pages free other a n h f = grind (arith, nat_tests)

before : (a n b m : ℕ) → nat_lt a b ≡ true → (nat_lt a (b + m) && nat_lt b (a + n)) ≡ false → a + n ≤ b
before a n b m h g = grind (arith, nat_tests)

past : (a n b m : ℕ) → nat_lt a b ≡ false → 0 < n → (nat_lt a (b + m) && nat_lt b (a + n)) ≡ false → b + m ≤ a
past a n b m h f g = grind (arith, nat_tests)

inserted-none : (pages free : ℕ) (s : Section) (ss : List Section) → 0 < length s.bytes → ram_base ≤ s.address
    → s.address + length s.bytes ≤ ram_end pages → free ≤ s.address → is_taken s.address (s.address + length s.bytes) ss ≡ false
    → sections_fault pages free ss ≡ None → sections_fault pages free (inserted s ss) ≡ None
inserted-none pages free s [] f a b g p h =
    sections_fault-none pages free s [] (span-none pages free s.address (length s.bytes) a b g) refl
inserted-none pages free s (t ∷ ts) f a b g p h =
    let apart = or-false _ _ p in
    let both = no_fault_cons pages free t ts h in
    elim (nat_lt s.address t.address) as
    (λ x. nat_lt s.address t.address ≡ x → sections_fault pages free (if x then s ∷ t ∷ ts else (t ∷ inserted s ts)) ≡ None) [
      | true ↦ λ e.
          sections_fault-none pages free s (t ∷ ts) (span-none pages free s.address (length s.bytes) a b g)
          (sections_fault-none pages (s.address + length s.bytes) t ts
          (span-moved pages free (s.address + length s.bytes) t.address (length t.bytes) both.0
          (before s.address (length s.bytes) t.address (length t.bytes) e apart.0)) both.1)
      | false ↦ λ e.
          sections_fault-none pages free t (inserted s ts) both.0
          (inserted-none pages (t.address + length t.bytes) s ts f a b
          (past s.address (length s.bytes) t.address (length t.bytes) e f apart.0) apart.1 both.1)
    ] refl

length-inserted : (s : Section) (ss : List Section) → length (inserted s ss) ≡ length ss + 1
length-inserted s [] = refl
length-inserted s (t ∷ ts) =
    elim (nat_lt s.address t.address) as (λ x. length (if x then s ∷ t ∷ ts else (t ∷ inserted s ts)) ≡ length (t ∷ ts) + 1) [
      | true ↦ omega arith
      | false ↦ omega (arith, length-inserted s ts)
    ]

filled-inserted : (s : Section) (ss : List Section) → 0 < length s.bytes → AreFilled ss → AreFilled (inserted s ss)
filled-inserted s [] f h = (f, tt)
filled-inserted s (t ∷ ts) f h =
    elim (nat_lt s.address t.address) as (λ x. AreFilled (if x then s ∷ t ∷ ts else (t ∷ inserted s ts))) [
      | true ↦ (f, h)
      | false ↦ (h.0, filled-inserted s ts f h.1)
    ]

-- finished sections, and what they are with one more
pub record AreGood (pages : ℕ) (done : List Section) : Type 0 where
  pub apart : sections_fault pages 0 done ≡ None
  pub filled : AreFilled done
  pub few : length done ≤ 64

pub closed-good : (pages : ℕ) (done : List Section) (current : Section) → AreGood pages done
    → (0 < length current.bytes → HasRoom pages done current) → AreGood pages (closed done current)
closed-good pages done current good room =
    elim (length current.bytes == 0) as (λ x. (length current.bytes == 0) ≡ x → AreGood pages (if x then done else inserted current done)) [
      | true ↦ λ e. good
      | false ↦ λ e.
          let f : 0 < length current.bytes = not-nought (length current.bytes) e in
          let r : HasRoom pages done current = room f in
          record {
            apart = inserted-none pages 0 current done f r.above r.below (omega arith) r.apart good.apart;
            filled = filled-inserted current done f good.filled;
            few = omega (arith, r.few, length-inserted current done);
          }
    ] refl

joined-one : (a b c x n : ℕ) → a < b → b < c → 0 < n → (nat_lt a (x + n) && nat_lt x b) ≡ false → (nat_lt b (x + n) && nat_lt x c) ≡ false
    → (nat_lt a (x + n) && nat_lt x c) ≡ false
joined-one a b c x n h g f p q = grind (arith, nat_tests)

taken-joined : (a b c : ℕ) (ss : List Section) → a < b → b < c → AreFilled ss → is_taken a b ss ≡ false → is_taken b c ss ≡ false
    → is_taken a c ss ≡ false
taken-joined a b c [] h g f p q = refl
taken-joined a b c (t ∷ ts) h g f p q =
    let x = or-false _ _ p in
    let y = or-false _ _ q in
    false-or _ _ (joined-one a b c t.address (length t.bytes) h g f.0 x.0 y.0) (taken-joined a b c ts h g f.1 x.1 y.1)

-- Bytes after those of a section, whose place is free, leave it room.
pub record IsFree (pages : ℕ) (done : List Section) (s : Section) (place n : ℕ) : Type 0 where
  pub above : ram_base ≤ place
  pub below : place + n ≤ ram_end pages
  pub apart : is_taken place (place + n) done ≡ false
  pub few : length s.bytes ≡ 0 → length done < 64

grown-empty : (pages : ℕ) (done : List Section) (s t : Section) (n : ℕ) → t.address ≡ s.address → length t.bytes ≡ n → length s.bytes ≡ 0
    → IsFree pages done s s.address n → HasRoom pages done t
grown-empty pages done s t n e g z f =
    record {
      above = omega (arith, f.above);
      below = omega (arith, f.below);
      apart = cc (f.apart, e, g);
      few = f.few z;
    }

grown-filled : (pages : ℕ) (done : List Section) (s t : Section) (n : ℕ) → t.address ≡ s.address → length t.bytes ≡ length s.bytes + n
    → 0 < length s.bytes → 0 < n → AreFilled done → IsFree pages done s (s.address + length s.bytes) n → HasRoom pages done s
    → HasRoom pages done t
grown-filled pages done s t n e g z y filled f r =
    let end : t.address + length t.bytes ≡ s.address + length s.bytes + n = omega arith in
    let joined =
    taken-joined s.address (s.address + length s.bytes) (s.address + length s.bytes + n) done (omega arith)
    (omega arith) filled r.apart f.apart in
    record {
      above = omega (arith, r.above);
      below = omega (arith, f.below);
      apart = cc (joined, end, e);
      few = r.few;
    }

same-room : (pages : ℕ) (done : List Section) (s t : Section) → t.address ≡ s.address → length t.bytes ≡ length s.bytes
    → HasRoom pages done s → HasRoom pages done t
same-room pages done s t e g r =
    record { above = omega (arith, r.above); below = omega (arith, r.below); apart = cc (r.apart, e, g); few = r.few }

pub grown : (pages : ℕ) (done : List Section) (s t : Section) (n place : ℕ) → t.address ≡ s.address → length t.bytes ≡ length s.bytes + n
    → place ≡ s.address + length s.bytes → AreFilled done → (0 < n → IsFree pages done s place n)
    → (0 < length s.bytes → HasRoom pages done s) → 0 < length t.bytes → HasRoom pages done t
grown pages done s t n place e g at filled free room h =
    elim (n == 0) as (λ x. (n == 0) ≡ x → HasRoom pages done t) [
      | true ↦ λ z.
          let none : n ≡ 0 = grind (arith, nat_tests) in
          same-room pages done s t e (omega arith) (room (omega arith))
      | false ↦ λ z.
          let some : 0 < n = not-nought n z in
          elim (length s.bytes == 0) as (λ y. (length s.bytes == 0) ≡ y → HasRoom pages done t) [
            | true ↦ λ w.
                let empty : length s.bytes ≡ 0 = grind (arith, nat_tests) in
                let same : place ≡ s.address = omega arith in
                grown-empty pages done s t n e (omega arith) empty (subst (λ p. IsFree pages done s p n) same (free some))
            | false ↦ λ w.
                let byte : 0 < length s.bytes = not-nought (length s.bytes) w in
                grown-filled pages done s t n e g byte some filled (subst (λ p. IsFree pages done s p n) at (free some)) (room byte)
          ] refl
    ] refl
