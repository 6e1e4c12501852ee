-- What a file gives that is run, debugged or listed: an image, and the labels that are known of it.
use Rattle.std.specs.Prelude.{◌≡◌, ◌⊎◌, ◌==◌, ℕ, Bool, true, false, List, [], ◌++◌, Option, Some, None, Ok, IfSome, IsSomeAnd, codes}
use Rattle.std.specs.Borrow.{Bor}
use Rattle.std.specs.List.{ends_with}
use Rattle.assembler.specs.Places as places
use Rattle.assembler.specs.Text.{text_fault, text_image}
use Rattle.image.specs.Grammar.{reading}
use Rattle.image.specs.Image.{Image}
use Rattle.symbols.specs.Labels.{table_of}
use Rattle.symbols.specs.Sources.{places_of}
use Rattle.symbols.specs.Symbols.{Symbol, symbols_of, table_text}
use Rattle.commands.specs.declared.fault.ProgramFault.{ProgramFault}
use Rattle.commands.specs.Assembling.{IsFaultyText, own_lines, seen_labels}
use Rattle.commands.specs.Files.{Text, File, AreLinesOf, Holds, IsImageFault, IsSourcesFault, IsTable, IsTableFault, IsTextFault}
use Rattle.commands.specs.Files.{IsTextSourcesFault, IsTextTableFault, bytes_of}

-- A file holds a text where its name ends in `.s`.
abbrev pub is_source : Text → Bool
is_source name = ends_with (λ a b. a == b) name (codes ".s")

-- the image that a text means, or that bytes are
abbrev pub Means : Bool → List ℕ → Image → Type 0
Means true text image = (text_fault text ≡ None) × (image ≡ text_image text)
Means false bytes image = reading bytes ≡ Ok image

abbrev pub GivesImage : Text → Option (List File) → Image → Type 0
GivesImage name files image = IfSome (bytes_of name files) (λ bytes. Means (is_source name) bytes image)

-- the table that `asm` writes of a text's labels
abbrev pub own_table : List ℕ → List ℕ
own_table text = table_text (seen_labels (places.symbols_of text))

-- the labels: those of a table that is named, or else those of a text, or else none
abbrev pub GivesLabels : Bool → Text → Option (Bor Text) → Option (List File) → Option (List Symbol) → Type 0
GivesLabels is_text name (Some table) files labels = IsSomeAnd labels (IsTable table.now files)
GivesLabels true name None files labels =
    IsSomeAnd labels (λ labels. IfSome (bytes_of name files) (λ text. labels ≡ symbols_of (own_table text)))
GivesLabels false name None files labels = labels ≡ None

pub record IsProgram (name : Text) (symbols : Option (Bor Text)) (files : Option (List File)) (image : Image)
    (labels : Option (List Symbol)) : Type 0 where
  pub held : GivesImage name files image
  pub known : GivesLabels (is_source name) name symbols files labels

-- the table of lines that `asm` writes of a text; an image has none
abbrev pub GivesOwnLines : Bool → Text → Option (List File) → List ℕ → Type 0
GivesOwnLines true name files lines = IfSome (bytes_of name files) (λ text. lines ≡ own_lines name text)
GivesOwnLines false name files lines = lines ≡ []

-- the lines of sources: those of a table that is named, or else those of the text, if it is one
abbrev pub GivesLines : Option (Bor Text) → List ℕ → Option (List File) → List Symbol → Type 0
GivesLines None own files lines = lines ≡ places_of own
GivesLines (Some table) own files lines = AreLinesOf table.now files lines

-- What is told with addresses: the labels, and after them the lines of sources.
pub record HasTable (name : Text) (lines : Option (Bor Text)) (files : Option (List File)) (labels : Option (List Symbol))
    (table : List Symbol) : Type 0 where
  pub own : List ℕ
  pub sources : List Symbol
  pub text : GivesOwnLines (is_source name) name files own
  pub given : GivesLines lines own files sources
  pub all : table ≡ table_of labels ++ sources

-- What is read of a file that is run, judged or debugged: its image, and what is told with addresses.
abbrev pub IsProgramLoaded : Text → Option (Bor Text) → Option (Bor Text) → Option (List File) → Image → List Symbol → Type 0
IsProgramLoaded name symbols lines files image table =
    (labels : Option (List Symbol)) × HasTable name lines files labels table × IsProgram name symbols files image labels

-- ---- faults

-- why a file gives no image: its text can't be read or has a fault, or its bytes are none
abbrev pub IsGivenFault : Bool → Text → Option (List File) → ProgramFault → Type 0
IsGivenFault true name files fault =
    IsTextFault name files fault ⊎ ((text : List ℕ) × Holds name files text × IsFaultyText name text fault)
IsGivenFault false name files fault = IsImageFault name files fault

-- why no labels: the table that is named, or else that of the text, is invalid, or there is no memory for it
abbrev pub IsLabelsFault : Bool → Text → Option (Bor Text) → Option (List File) → ProgramFault → Type 0
IsLabelsFault is_text name (Some table) files fault = IsTableFault table.now files fault
IsLabelsFault true name None files fault = IfSome (bytes_of name files) (λ text. IsTextTableFault name (own_table text) fault)
IsLabelsFault false name None files fault = ⊥

-- Why a file isn't a program: it gives no image; or it does, and there are no labels.
pub data IsProgramFault (name : Text) (symbols : Option (Bor Text)) (files : Option (List File)) (fault : ProgramFault) : Type 0 where
  at_image : IsGivenFault (is_source name) name files fault → IsProgramFault name symbols files fault
  at_labels :
      (image : Image) → GivesImage name files image → IsLabelsFault (is_source name) name symbols files fault
      → IsProgramFault name symbols files fault

-- why no lines of sources: the table that is named can't be read or is invalid, or there is no memory for them
abbrev pub IsLinesFault : Text → Option (Bor Text) → List ℕ → Option (List File) → ProgramFault → Type 0
IsLinesFault name None own files fault = IsTextSourcesFault name own fault
IsLinesFault name (Some table) own files fault = IsSourcesFault table.now files fault

-- Why a program isn't read with what is told with addresses: its file isn't one; or it is, and there are no lines.
pub data FailsToLoadProgram (name : Text) (symbols lines : Option (Bor Text)) (files : Option (List File)) (fault : ProgramFault)
    : Type 0 where
  at_program : IsProgramFault name symbols files fault → FailsToLoadProgram name symbols lines files fault
  at_lines :
      (image : Image) (labels : Option (List Symbol)) (own : List ℕ) → IsProgram name symbols files image labels
      → GivesOwnLines (is_source name) name files own → IsLinesFault name lines own files fault
      → FailsToLoadProgram name symbols lines files fault
