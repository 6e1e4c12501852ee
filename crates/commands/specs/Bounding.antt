-- What `bounds` and `word` write: words, or the line of an object.
use Rattle.std.specs.Prelude.{ℕ, Bool, true, false, List, Option, Some, None}
use Rattle.std.specs.Io.KnownBytes.{Appends}
use Rattle.bounds_objects.specs.Bounds.{bounds_object}
use Rattle.bounds_objects.specs.Length.{length_object}
use Rattle.bounds_objects.specs.Word.{IsObjectOfWord}
use Rattle.bounds_text.specs.BoundsText.{bounds_text}
use Rattle.bounds_text.specs.LengthText.{length_text}
use Rattle.bounds_text.specs.WordText.{ShowsWord}
use Rattle.commands.specs.declared.fault.ProgramFault.{ProgramFault}
use Rattle.commands.specs.Files.{IsUnsent, IsUnsentOrMemory}

-- what setting bounds gives, and where no base is named what an allocator asks of the length
abbrev pub bounds_answer : Bool → Option ℕ → ℕ → Option ℕ → List ℕ
bounds_answer false None length address = length_text length
bounds_answer false (Some base) length address = bounds_text base length address
bounds_answer true None length address = length_object length
bounds_answer true (Some base) length address = bounds_object base length address

-- what a word means
abbrev pub TellsWord : Bool → ℕ → List ℕ → Type 0
TellsWord false word text = ShowsWord word text
TellsWord true word text = IsObjectOfWord word text

-- an output grows by that
abbrev pub WritesWord : Bool → ℕ → Option (List ℕ) → Option (List ℕ) → Type 0
WritesWord json word old new = (text : List ℕ) × TellsWord json word text × Appends old new text

-- why an answer isn't shown: it can't be written, or there is no memory for an object
abbrev pub FailsToShow : Bool → ProgramFault → Type 0
FailsToShow false fault = IsUnsent fault
FailsToShow true fault = IsUnsentOrMemory fault
