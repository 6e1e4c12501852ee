-- Reading one part after another, from a source whose bytes may be known.
use Rattle.std.proofs.Common.{◌≡◌, ℕ, List, ◌++◌, Option, Some, None, IfSome, Result, Ok, Err, refl, sym, subst, append_assoc}
use Rattle.std.proofs.KnownBytes.{Consumes-trans}
use Rattle.std.specs.Io.KnownBytes.{Consumes}
use Rattle.base.specs.FirstFault.{unless}
use Rattle.image.specs.declared.fault.ImageFault.{ImageFault}
use Rattle.image.specs.declared.fault.ImageFault.TheVariants.{L1, L2, L3, L4, L5, L6, L7, L8, L9, L10, L11, L12, L13, L14, L15}
use Rattle.image.specs.Grammar.{Part, taken, checked, both}
use Rattle.std.specs.Result.{IfErr}
use Rattle.image.specs.Reads.{IsOfBytes, ConsumesBeginning, CountsL10, Takes}

-- what is known of the bytes after some were taken is known of all of them
pub after_known : (a b : Option (List ℕ)) (bytes : List ℕ) (P Q : List ℕ → Type 0) → Consumes a b bytes
    → ((rest : List ℕ) → P rest → Q (bytes ++ rest)) → IfSome b P → IfSome a Q
after_known None b bytes P Q took h p = tt
after_known (Some x) None bytes P Q took h p = absurd took
after_known (Some x) (Some y) bytes P Q took h p = subst Q (sym took) (h y p)

always : (b : Option (List ℕ)) → IfSome b (λ rest. Unit {0})
always None = tt
always (Some rest) = tt

-- a part was read, and its value is y
abbrev pub Got : {Y : Type 0} → Part Y → Option (List ℕ) → Option (List ℕ) → Y → Type 0
Got part a b y = (bytes : List ℕ) × Consumes a b bytes × ((rest : List ℕ) → part (bytes ++ rest) ≡ Ok (y, rest))

-- a part was not read
abbrev pub Stopped : {Y : Type 0} → Part Y → Option (List ℕ) → Option (List ℕ) → ImageFault → Type 0
Stopped part a b fault = ConsumesBeginning a b × (IsOfBytes fault → IfSome a (λ bytes. part bytes ≡ Err fault))

-- a part that was read, and then one that depends on it
module _ {X Y Z : Type 0} (first : Part X) (second : X → Part Y) (join : X → Y → Z) (a b c : Option (List ℕ)) where
  pub Got-both : (x : X) (y : Y) (z : Z) → z ≡ join x y → Got first a b x → Got (second x) b c y → Got (both first second join) a c z
  Got-both x y z e one two = (
    one.0 ++ two.0,
    Consumes-trans a b c one.0 two.0 one.1 two.1,
    λ rest. rw (append_assoc one.0 two.0 rest, one.2 (two.0 ++ rest), two.2 rest, e) refl,
  )

  pub Stopped-second : (x : X) (fault : ImageFault) → Got first a b x → Stopped (second x) b c fault
      → Stopped (both first second join) a c fault
  Stopped-second x fault one two = (
    (one.0 ++ two.0.0, Consumes-trans a b c one.0 two.0.0 one.1 two.0.1),
    λ of_bytes. after_known a b one.0 (λ rest. second x rest ≡ Err fault) (λ all. both first second join all ≡ Err fault) one.1
        (λ rest e. rw (one.2 rest, e) refl) (two.1 of_bytes),
  )

-- which is all that is kept
pub Takes-last : {X Y W : Type 0} (view : W → Y) (first : Part X) (second : X → Part Y) (a b c : Option (List ℕ)) (x : X)
    (r : Result W ImageFault) → Got first a b x → Takes view (second x) b c r → Takes view (both first second (λ x y. y)) a c r
Takes-last view first second a b c x (Ok w) one two = Got-both first second (λ x y. y) a b c x (view w) (view w) refl one two
Takes-last view first second a b c x (Err fault) one two = Stopped-second first second (λ x y. y) a b c x fault one two

-- one that was not
pub Stopped-first : {X Y Z : Type 0} (first : Part X) (second : X → Part Y) (join : X → Y → Z) (a b : Option (List ℕ)) (fault : ImageFault)
    → Stopped first a b fault → Stopped (both first second join) a b fault
Stopped-first first second join None b fault one = (one.0, λ _. tt)
Stopped-first first second join (Some bytes) b fault one = (one.0, λ of_bytes. rw (one.1 of_bytes) refl)

-- bytes that were read, and then a check of them, which takes no byte
pub Takes-checked : {X : Type 0} (size : ℕ) (cut_short : ImageFault) (fault : List ℕ → Option ImageFault) (said : List ℕ → X)
    (a b : Option (List ℕ)) (front : List ℕ) (r : Result X ImageFault)
    → Got (taken size cut_short) a b front → r ≡ unless (fault front) (said front)
    → Takes (λ x. x) (checked size cut_short fault said) a b r
Takes-checked size cut_short fault said a b front (Ok x) one e = (one.0, one.1, λ rest. rw (one.2 rest, ← e) refl)
Takes-checked size cut_short fault said a b front (Err found) one e = (
  (one.0, one.1),
  λ _. after_known a b one.0 (λ rest. Unit {0}) (λ all. checked size cut_short fault said all ≡ Err found) one.1
      (λ rest _. rw (one.2 rest, ← e) refl) (always b),
)

-- the count stays where the answer is no failure of the device
pub CountsL10-of_bytes : {X : Type 0} (old new : ℕ) (r : Result X ImageFault) → new ≡ old → IfErr r IsOfBytes → CountsL10 old new r
CountsL10-of_bytes old new (Ok x) e h = e
CountsL10-of_bytes old new (Err L1) e h = e
CountsL10-of_bytes old new (Err L2) e h = e
CountsL10-of_bytes old new (Err L3) e h = e
CountsL10-of_bytes old new (Err L4) e h = e
CountsL10-of_bytes old new (Err L5) e h = e
CountsL10-of_bytes old new (Err L6) e h = e
CountsL10-of_bytes old new (Err L7) e h = e
CountsL10-of_bytes old new (Err L8) e h = e
CountsL10-of_bytes old new (Err L9) e h = e
CountsL10-of_bytes old new (Err L10) e h = absurd h
CountsL10-of_bytes old new (Err L11) e h = e
CountsL10-of_bytes old new (Err L12) e h = e
CountsL10-of_bytes old new (Err L13) e h = e
CountsL10-of_bytes old new (Err L14) e h = e
CountsL10-of_bytes old new (Err L15) e h = e
