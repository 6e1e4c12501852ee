-- The files of a folder: what became of them, in order.
use Rattle.std.specs.Prelude.{◌≡◌, ℕ, ◌<◌, List, length, [], ◌∷◌, ◌++◌, bytes_eq, if◌then◌else◌, Option, Some, None, Err}
use Rattle.std.specs.Prelude.{IfSome, ⊤}
use Rattle.std.specs.Io.KnownBytes.{Appends, Keeps}
use Rattle.hints.specs.Printable.{IsHint}
use Rattle.image.specs.Grammar.{reading}
use Rattle.image.specs.Reads.{IsOfBytes}
use Rattle.symbols.specs.Sources.{faulty_place, places_of}
use Rattle.symbols.specs.Symbols.{Symbol, faulty_line, symbols_of}
use Rattle.commands.specs.declared.fault.ProgramFault.{ProgramFault}
use Rattle.commands.specs.declared.fault.ProgramFault.TheVariants.{NoFile, Directory, Read, Write, CutShort, Memory}
use Rattle.commands.specs.declared.fault.ProgramFault.TheVariants as program
use Rattle.machine.specs.declared.fault.MachineFault.TheVariants.{M2}

abbrev pub Text : Type 0
Text = List ℕ

-- a name, and what the file of that name holds; of one that is being written that is not known
abbrev pub File : Type 0
File = Text × Option (List ℕ)

-- a file that is made new, or emptied, to be written
abbrev pub begun : Text → File
begun name = (name, None)

-- a file that is closed, and what it holds
abbrev pub ended : Text → Option (List ℕ) → File
ended name bytes = (name, bytes)

-- a whole file: it is made, and holds these bytes when it is closed
abbrev pub whole : Text → List ℕ → List File
whole name bytes = begun name ∷ ended name (Some bytes) ∷ []

-- Known files get these, in this order.
abbrev pub Gains : Option (List File) → Option (List File) → List File → Type 0
Gains None new more = ⊤
Gains (Some files) new more = new ≡ Some (files ++ more)

-- A file is closed that holds these bytes, where they are known.
abbrev pub Closes : Text → Option (List ℕ) → Option (List File) → Option (List File) → Type 0
Closes name held old new = (now : Option (List ℕ)) × Keeps held now × Gains old new (ended name now ∷ [])

-- A file grows by bytes, and is closed.
abbrev pub Finishes : Text → Option (List ℕ) → List ℕ → Option (List File) → Option (List File) → Type 0
Finishes name held bytes old new = (now : Option (List ℕ)) × Appends held now bytes × Gains old new (ended name now ∷ [])

-- Where files are known, a new one is empty.
abbrev pub IsNew : Option (List File) → Option (List ℕ) → Type 0
IsNew None held = ⊤
IsNew (Some files) held = held ≡ Some []

-- what the file of a name holds: of several entries the last counts
abbrev pub last_of : Text → List File → Option (List ℕ) → Option (List ℕ)
last_of name [] found = found
last_of name (file ∷ files) found = last_of name files (if bytes_eq file.0 name then file.1 else found)

abbrev pub bytes_of : Text → Option (List File) → Option (List ℕ)
bytes_of name None = None
bytes_of name (Some files) = last_of name files None

-- The labels are those of a file, which is a table.
abbrev pub IsTable : Text → Option (List File) → List Symbol → Type 0
IsTable name files symbols = IfSome (bytes_of name files) (λ text. (faulty_line text ≡ None) × (symbols ≡ symbols_of text))

-- The lines of sources are those of a file, which is a table of them.
abbrev pub AreLinesOf : Text → Option (List File) → List Symbol → Type 0
AreLinesOf name files lines = IfSome (bytes_of name files) (λ text. (faulty_place text ≡ None) × (lines ≡ places_of text))

-- What a command changes, where that is known: what an output holds, and what became of files, before and after.
pub record Change : Type 0 where
  pub sent : Option (List ℕ)
  pub out : Option (List ℕ)
  pub old : Option (List File)
  pub new : Option (List File)

abbrev pub changed : Option (List ℕ) → Option (List ℕ) → Option (List File) → Option (List File) → Change
changed sent out old new = record { sent = sent; out = out; old = old; new = new }

-- ---- faults of files, of which each names the one that it is about

-- the system doesn't let a file be opened or made, or there is no memory
abbrev pub IsOpening : Text → ProgramFault → Type 0
IsOpening file (NoFile name kind) = name.now ≡ file
IsOpening file (Directory name) = name.now ≡ file
IsOpening file Memory = ⊤
IsOpening file other = ⊥

-- or an open file be read
abbrev pub IsReading : Text → ProgramFault → Type 0
IsReading file (Read name kind) = name.now ≡ file
IsReading file other = IsOpening file other

-- a file that is to be written: it isn't made, or it is made and cut short
abbrev pub IsUnwritten : Text → Option (List File) → Option (List File) → ProgramFault → Type 0
IsUnwritten file old new (CutShort name) = (name.now ≡ file) × Gains old new (begun file ∷ [])
IsUnwritten file old new other = IsOpening file other × (new ≡ old)

-- a file that was made: it is cut short, and stays so
abbrev pub IsUnfinished : Text → Option (List File) → Option (List File) → ProgramFault → Type 0
IsUnfinished file old new (CutShort name) = (name.now ≡ file) × (new ≡ old)
IsUnfinished file old new other = ⊥

-- no memory, for a machine or for anything else
abbrev pub IsNoMemory : ProgramFault → Type 0
IsNoMemory (program.Machine M2) = ⊤
IsNoMemory Memory = ⊤
IsNoMemory other = ⊥

-- a write to the output fails
abbrev pub IsUnsent : ProgramFault → Type 0
IsUnsent (Write failed) = ⊤
IsUnsent other = ⊥

-- or there is no memory for it
abbrev pub IsUnsentOrMemory : ProgramFault → Type 0
IsUnsentOrMemory Memory = ⊤
IsUnsentOrMemory other = IsUnsent other

-- or for a machine
abbrev pub IsUnsentOrNoMemory : ProgramFault → Type 0
IsUnsentOrNoMemory (Write failed) = ⊤
IsUnsentOrNoMemory other = IsNoMemory other

-- a fault of a file that is to be an image: what its bytes are refused for, with a hint, or the system's
abbrev pub IsImageFault : Text → Option (List File) → ProgramFault → Type 0
IsImageFault image files (program.File name fault hint) =
    (name.now ≡ image) × IsHint hint.now × IfSome (bytes_of image files) (λ bytes. IsOfBytes fault → reading bytes ≡ Err fault)
IsImageFault image files other = IsOpening image other

-- a fault of a file that is to hold a text: more than 256 MiB, or the system's
abbrev pub IsTextFault : Text → Option (List File) → ProgramFault → Type 0
IsTextFault text files (program.LongText name) =
    (name.now ≡ text) × IfSome (bytes_of text files) (λ bytes. 0x1000_0000 < length bytes)
IsTextFault text files other = IsReading text other

-- a fault of a text that is to be a table of symbols: its first invalid line, or no memory
abbrev pub IsTextTableFault : Text → List ℕ → ProgramFault → Type 0
IsTextTableFault table text (program.Symbols name number) = (name.now ≡ table) × (faulty_line text ≡ Some number)
IsTextTableFault table text Memory = ⊤
IsTextTableFault table text other = ⊥

-- a fault of a file that is to be one: the same, or that of a text
abbrev pub IsTableFault : Text → Option (List File) → ProgramFault → Type 0
IsTableFault table files (program.Symbols name number) =
    (name.now ≡ table) × IfSome (bytes_of table files) (λ text. faulty_line text ≡ Some number)
IsTableFault table files other = IsTextFault table files other

-- the same of a table of lines of sources
abbrev pub IsTextSourcesFault : Text → List ℕ → ProgramFault → Type 0
IsTextSourcesFault table text (program.Lines name number) = (name.now ≡ table) × (faulty_place text ≡ Some number)
IsTextSourcesFault table text Memory = ⊤
IsTextSourcesFault table text other = ⊥

abbrev pub IsSourcesFault : Text → Option (List File) → ProgramFault → Type 0
IsSourcesFault table files (program.Lines name number) =
    (name.now ≡ table) × IfSome (bytes_of table files) (λ text. faulty_place text ≡ Some number)
IsSourcesFault table files other = IsTextFault table files other

-- ---- a file that is read, where it is known what it holds

abbrev pub Holds : Text → Option (List File) → List ℕ → Type 0
Holds name files bytes = IfSome (bytes_of name files) (λ held. bytes ≡ held)
