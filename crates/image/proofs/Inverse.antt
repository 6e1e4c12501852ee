-- Reading a part of a file and spelling it are inverse to each other: of bytes alone, of checked ones, of two parts, of parts in order.
use Rattle.std.proofs.Common.{◌≡◌, ℕ, zero, suc, ◌≤◌, Bool, true, false, cond, ltb, List, [], ◌∷◌, ◌++◌, length, take, drop, Option, Some}
use Rattle.std.proofs.Common.{None}
use Rattle.std.proofs.Common.{Result, Ok, Err, refl, sym, ap, subst, ◌∙◌, append_assoc, arith}
use Rattle.std.specs.List.{flat_map}
use Rattle.std.proofs.lemmas.Bool.{ltb-false, le-ltb}
use Rattle.std.proofs.lemmas.List.{take_at, drop_at, length-append, length-take-le, take-append-drop}
use Rattle.base.specs.FirstFault.{unless}
use Rattle.image.specs.declared.fault.ImageFault.{ImageFault}
use Rattle.image.specs.Grammar.{Part, ◌>>=◌, AreBytes, taken, checked, both, each}
use Rattle.image.proofs.Numbers.{AreBytes-front, AreBytes-rest}

-- What is good is read again, whatever follows it; and what is read is good, and spelt by the bytes that it was read from.
pub record Inverse {X : Type 0} (part : Part X) (spelt : X → List ℕ) (Good : X → Type 0) : Type 0 where
  pub again : (x : X) (rest : List ℕ) → Good x → part (spelt x ++ rest) ≡ Ok (x, rest)
  pub good : (bytes : List ℕ) (x : X) (rest : List ℕ) → part bytes ≡ Ok (x, rest) → Good x
  pub back : (bytes : List ℕ) (x : X) (rest : List ℕ) → AreBytes bytes → part bytes ≡ Ok (x, rest) → bytes ≡ spelt x ++ rest

-- ---- steps that did not fail

pub bind_ok : {A B : Type 0} (r : Result A ImageFault) (f : A → Result B ImageFault) (y : B) → (r >>= f) ≡ Ok y
    → (x : A) × (r ≡ Ok x) × (f x ≡ Ok y)
bind_ok (Ok x) f y e = (x, refl, e)
bind_ok (Err fault) f y e = absurd cc

unless_ok : {A : Type 0} (fault : Option ImageFault) (x y : A) → unless fault x ≡ Ok y → (fault ≡ None) × (x ≡ y)
unless_ok None x y e = (refl, cc)
unless_ok (Some fault) x y e = absurd cc

test_ok : {A : Type 0} (b : Bool) (fault : ImageFault) (x y : A) → cond b (Err fault) (Ok x) ≡ Ok y → (b ≡ false) × (x ≡ y)
test_ok true fault x y e = absurd cc
test_ok false fault x y e = (refl, cc)

abbrev done : {A : Type 0} → A → Result A ImageFault
done x = Ok x

pub ok_is : {A : Type 0} (x y : A) → done x ≡ done y → x ≡ y
ok_is x y e = cc

abbrev said_of : {A : Type 0} → A × List ℕ → A
said_of p = p.0

abbrev rest_of : {A : Type 0} → A × List ℕ → List ℕ
rest_of p = p.1

-- ---- bytes alone

taken_ok : (size : ℕ) (cut_short : ImageFault) (bytes front rest : List ℕ) → taken size cut_short bytes ≡ Ok (front, rest)
    → (size ≤ length bytes) × (take size bytes ≡ front) × (drop size bytes ≡ rest)
taken_ok size cut_short bytes front rest e =
    let t = test_ok (ltb (length bytes) size) cut_short (take size bytes, drop size bytes) (front, rest) e in
    (ltb-false _ _ t.0, ap said_of t.1, ap rest_of t.1)

pub taken_inverse : (size : ℕ) (cut_short : ImageFault) → Inverse (taken size cut_short) (λ bytes. bytes) (λ bytes. length bytes ≡ size)
taken_inverse size cut_short =
    record {
      again = λ bytes rest len.
          let long : ltb (length (bytes ++ rest)) size ≡ false = le-ltb _ _ (omega (arith, len, length-append bytes rest)) in
          rw (long, take_at bytes rest size len, drop_at bytes rest size len) refl;
      good = λ bytes front rest e.
          let t = taken_ok size cut_short bytes front rest e in
          ap length (sym t.1) ∙ length-take-le size bytes t.0;
      back = λ bytes front rest fits e.
          let t = taken_ok size cut_short bytes front rest e in
          sym (take-append-drop size bytes) ∙ ap (λ (l : List ℕ). l ++ drop size bytes) t.1 ∙ ap (λ (l : List ℕ). front ++ l) t.2;
    }

-- ---- bytes that are checked

module _ {X : Type 0} (size : ℕ) (cut_short : ImageFault) (fault : List ℕ → Option ImageFault) (said : List ℕ → X) where
  checked_ok : (bytes : List ℕ) (x : X) (rest : List ℕ) → checked size cut_short fault said bytes ≡ Ok (x, rest)
      → (front : List ℕ) × (taken size cut_short bytes ≡ Ok (front, rest)) × (fault front ≡ None) × (said front ≡ x)
  checked_ok bytes x rest e =
      let a = bind_ok (taken size cut_short bytes)
      (λ front. unless (fault front.0) (said front.0) >>= λ y. Ok (y, front.1)) (x, rest) e in
      let b = bind_ok (unless (fault a.0.0) (said a.0.0)) (λ y. Ok (y, a.0.1)) (x, rest) a.2 in
      let u = unless_ok (fault a.0.0) (said a.0.0) b.0 b.1 in
      let p : (b.0, a.0.1) ≡ (x, rest) = ok_is (b.0, a.0.1) (x, rest) b.2 in
      (a.0.0, a.1 ∙ ap (λ (l : List ℕ). Ok (a.0.0, l)) (ap rest_of p), u.0, u.1 ∙ ap said_of p)

  module _ (spelt : X → List ℕ) (Good : X → Type 0)
      (fits : (x : X) → Good x → (length (spelt x) ≡ size) × (fault (spelt x) ≡ None) × (said (spelt x) ≡ x))
      (fine : (front : List ℕ) → fault front ≡ None → Good (said front))
      (respelt : (front : List ℕ) → AreBytes front → length front ≡ size → fault front ≡ None → front ≡ spelt (said front)) where
    pub checked_inverse : Inverse (checked size cut_short fault said) spelt Good
    checked_inverse =
        let bytes_alone = taken_inverse size cut_short in
        record {
          again = λ x rest good.
              let f = fits x good in
              rw (bytes_alone.again (spelt x) rest f.0, f.1, f.2) refl;
          good = λ bytes x rest e. let c = checked_ok bytes x rest e in subst Good c.3 (fine c.0 c.2);
          back = λ bytes x rest are e.
              let c = checked_ok bytes x rest e in
              let cut = bytes_alone.back bytes c.0 rest are c.1 in
              let same = respelt c.0 (AreBytes-front bytes c.0 rest are cut) (bytes_alone.good bytes c.0 rest c.1) c.2 in
              cut ∙ ap (λ (l : List ℕ). l ++ rest) (same ∙ ap spelt c.3);
        }

-- ---- a part, and then one that depends on it

module _ {X Y Z : Type 0} (first : Part X) (second : X → Part Y) (join : X → Y → Z) where
  both_ok : (bytes : List ℕ) (z : Z) (rest : List ℕ) → both first second join bytes ≡ Ok (z, rest)
      → (x : X) × (between : List ℕ) × (y : Y)
      × (first bytes ≡ Ok (x, between)) × (second x between ≡ Ok (y, rest)) × (join x y ≡ z)
  both_ok bytes z rest e =
      let a = bind_ok (first bytes) (λ x. second x.0 x.1 >>= λ y. Ok (join x.0 y.0, y.1)) (z, rest) e in
      let b = bind_ok (second a.0.0 a.0.1) (λ y. Ok (join a.0.0 y.0, y.1)) (z, rest) a.2 in
      let p : (join a.0.0 b.0.0, b.0.1) ≡ (z, rest) = ok_is (join a.0.0 b.0.0, b.0.1) (z, rest) b.2 in
      (a.0.0, a.0.1, b.0.0, a.1, b.1 ∙ ap (λ (l : List ℕ). Ok (b.0.0, l)) (ap rest_of p), ap said_of p)

  module _ (s : X → List ℕ) (t : X → Y → List ℕ) (u : Z → List ℕ) (G : X → Type 0) (H : X → Y → Type 0) (K : Z → Type 0)
      (one : Inverse first s G) (other : (x : X) → G x → Inverse (second x) (t x) (H x))
      (apart : (z : Z) → K z → (x : X) × (y : Y) × G x × H x y × (join x y ≡ z) × (u z ≡ s x ++ t x y))
      (together : (x : X) (y : Y) → G x → H x y → K (join x y) × (u (join x y) ≡ s x ++ t x y)) where
    pub both_inverse : Inverse (both first second join) u K
    both_inverse =
        record {
          again = λ z rest good.
              let p = apart z good in
              let x = p.0 in
              let y = p.1 in
              rw (p.5, append_assoc (s x) (t x y) rest, one.again x (t x y ++ rest) p.2, (other x p.2).again y rest p.3)
              (ap (λ (q : Z). Ok (q, rest)) p.4);
          good = λ bytes z rest e.
              let r = both_ok bytes z rest e in
              let g = one.good bytes r.0 r.1 r.3 in
              subst K r.5 (together r.0 r.2 g ((other r.0 g).good r.1 r.2 rest r.4)).0;
          back = λ bytes z rest are e.
              let r = both_ok bytes z rest e in
              let x = r.0 in
              let y = r.2 in
              let g = one.good bytes x r.1 r.3 in
              let cut = one.back bytes x r.1 are r.3 in
              let more = (other x g).back r.1 y rest (AreBytes-rest bytes (s x) r.1 are cut) r.4 in
              let h = (other x g).good r.1 y rest r.4 in
              cut ∙ ap (λ (l : List ℕ). s x ++ l) more ∙ sym (append_assoc (s x) (t x y) rest)
              ∙ ap (λ (l : List ℕ). l ++ rest) (sym (together x y g h).1 ∙ ap u r.5);
        }

-- ---- parts of one kind, in order

pub nothing : {X : Type 0} (xs : List X) → length xs ≡ 0 → xs ≡ []
nothing [] e = refl
nothing (x ∷ xs) e = absurd (omega (arith, e))

module _ {X : Type 0} (part : ℕ → Part X) (number : X → ℕ) (spelt : X → List ℕ) (Good : ℕ → X → Type 0) (AreGood : ℕ → List X → Type 0)
    (one : (before : ℕ) → Inverse (part before) spelt (Good before)) (none : (before : ℕ) → AreGood before [])
    (more : (before : ℕ) (x : X) (xs : List X) → Good before x → AreGood (number x) xs → AreGood before (x ∷ xs))
    (less : (before : ℕ) (x : X) (xs : List X) → AreGood before (x ∷ xs) → Good before x × AreGood (number x) xs) where
  abbrev IsGood : ℕ → ℕ → List X → Type 0
  IsGood n before xs = (length xs ≡ n) × AreGood before xs

  apart : (n before : ℕ) (xs : List X) → IsGood (suc n) before xs
      → (x : X) × (others : List X) × Good before x × IsGood n (number x) others × (x ∷ others ≡ xs)
      × (flat_map spelt xs ≡ spelt x ++ flat_map spelt others)
  apart n before [] good = absurd (omega (arith, good.0))
  apart n before (x ∷ xs) good =
      let both = less before x xs good.1 in
      (x, xs, both.0, (omega (arith, good.0), both.1), refl, refl)

  pub each_inverse : (n before : ℕ)
      → Inverse (each part number n before) (flat_map spelt) (IsGood n before)
  each_inverse zero before =
      record {
        again = λ xs rest good. rw (nothing xs good.0) refl;
        good = λ bytes xs rest e.
            let p : ([], bytes) ≡ (xs, rest) = ok_is ([], bytes) (xs, rest) e in
            subst (IsGood 0 before) (ap said_of p) (refl, none before);
        back = λ bytes xs rest are e.
            let p : ([], bytes) ≡ (xs, rest) = ok_is ([], bytes) (xs, rest) e in
            subst (λ (q : List X × List ℕ). bytes ≡ flat_map spelt q.0 ++ q.1) p refl;
      }
  each_inverse (suc n) before =
      both_inverse (part before) (λ x. each part number n (number x)) (λ x xs. x ∷ xs) spelt (λ x. flat_map spelt) (flat_map spelt)
      (Good before) (λ x. IsGood n (number x)) (IsGood (suc n) before)
      (one before) (λ x _. each_inverse n (number x)) (apart n before)
      (λ x xs g h. ((ap suc h.0, more before x xs g h.1), refl))
