-- What calls that read from a source, or write to a sink, answer and leave.
use Rattle.std.specs.Prelude.{◌≡◌, ◌≢◌, ℕ, ◌+◌, ◌<◌, List, [], ◌++◌, length, Option, IfSome, Result, Ok, Err}
use Rattle.std.specs.Io.KnownBytes.{Consumes}
use Rattle.image.specs.declared.fault.ImageFault.{ImageFault}
use Rattle.image.specs.declared.fault.ImageFault.TheVariants.{L10, L11}
use Rattle.image.specs.Image.{Image}

-- a fault of the bytes themselves, and not the device's or the memory's
abbrev pub IsOfBytes : ImageFault → Type 0
IsOfBytes L10 = ⊥
IsOfBytes L11 = ⊥
IsOfBytes fault = Unit {0}

-- The answer is the reading, but where the device failed or memory ran out.
abbrev pub Answers : Result Image ImageFault → Result Image ImageFault → Type 0
Answers read (Ok image) = read ≡ Ok image
Answers read (Err fault) = IsOfBytes fault → read ≡ Err fault

-- some known byte is left
abbrev pub IsNotAtEnd : Option (List ℕ) → Type 0
IsNotAtEnd left = IfSome left (λ bytes. bytes ≢ [])

-- fewer known bytes than so many are left
abbrev pub HasFewer : ℕ → Option (List ℕ) → Type 0
HasFewer count left = IfSome left (λ bytes. length bytes < count)

-- Known bytes lose some beginning.
abbrev pub ConsumesBeginning : Option (List ℕ) → Option (List ℕ) → Type 0
ConsumesBeginning old new = (bytes : List ℕ) × Consumes old new bytes

-- What was read stands after what there was.
abbrev pub ReadsBehind : Option (List ℕ) → Option (List ℕ) → List ℕ → List ℕ → Type 0
ReadsBehind left_old left_new old new = (bytes : List ℕ) × Consumes left_old left_new bytes × (new ≡ old ++ bytes)

-- The count of failures rises by one where the answer is L10, and else stays.
abbrev pub CountsL10 : {X : Type 0} → ℕ → ℕ → Result X ImageFault → Type 0
CountsL10 old new (Ok x) = new ≡ old
CountsL10 old new (Err L10) = new ≡ old + 1
CountsL10 old new (Err fault) = new ≡ old

-- One part was read: at Ok its bytes were taken and no more, and at a fault of the bytes it is the part's.
abbrev pub Takes : {X Y : Type 0} → (X → Y) → (List ℕ → Result (Y × List ℕ) ImageFault) → Option (List ℕ) → Option (List ℕ)
    → Result X ImageFault → Type 0
Takes view part old new (Ok x) = (bytes : List ℕ) × Consumes old new bytes × ((rest : List ℕ) → part (bytes ++ rest) ≡ Ok (view x, rest))
Takes view part old new (Err fault) = ConsumesBeginning old new × (IsOfBytes fault → IfSome old (λ bytes. part bytes ≡ Err fault))
