-- What `dis` writes of a file.
use Rattle.std.specs.Prelude.{ℕ, Bool, if◌then◌else◌, List, ◌++◌, Option}
use Rattle.std.specs.Borrow.{Bor}
use Rattle.std.specs.Io.KnownBytes.{Appends}
use Rattle.image.specs.Image.{Image}
use Rattle.image_listing.specs.Header.{header_text}
use Rattle.image_listing.specs.Listing.{listing_by}
use Rattle.symbols.specs.Symbols.{Symbol}
use Rattle.commands.specs.declared.fault.ProgramFault.{ProgramFault}
use Rattle.commands.specs.Files.{Text, File, IsUnsentOrMemory}
use Rattle.commands.specs.Programs.{IsProgram, IsProgramFault}

-- with the names of a table, if there is one, after the image's header and capabilities, if they are asked for
abbrev pub listing_of : Bool → Option (List Symbol) → Image → List ℕ
listing_of header table image = if header then header_text image ++ listing_by table image else listing_by table image

-- An output grows by the listing of a file's program.
abbrev pub ListsFile : Bool → Option (List File) → Text → Option (Bor Text) → Option (List ℕ) → Option (List ℕ) → Type 0
ListsFile header files name symbols old new =
    (image : Image) × (labels : Option (List Symbol)) × IsProgram name symbols files image labels
    × Appends old new (listing_of header labels image)

-- Why a file isn't listed: it isn't a program; or it is, and the output can't be written.
pub data FailsToList (name : Text) (symbols : Option (Bor Text)) (files : Option (List File)) (fault : ProgramFault) : Type 0 where
  at_program : IsProgramFault name symbols files fault → FailsToList name symbols files fault
  at_output :
      (image : Image) → (labels : Option (List Symbol)) → IsProgram name symbols files image labels → IsUnsentOrMemory fault
      → FailsToList name symbols files fault
