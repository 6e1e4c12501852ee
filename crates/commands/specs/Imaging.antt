-- The image that `image` makes of a flat file: where the bytes go, and what stands for what isn't named.
use Rattle.std.specs.Prelude.{◌≡◌, ℕ, ◌+◌, ◌-◌, ◌*◌, ◌/◌, ◌^◌, nat_le, min, max, if◌then◌else◌, List, length, take}
use Rattle.std.specs.Prelude.{Bool, true, false, not, ◌&&◌, Option, Some, None, IfSome, ◌⊎◌}
use Rattle.base.specs.Ram.{ram_base, page_bytes, most_pages, most_pages_version_1}
use Rattle.hints.specs.Files.{is_elf}
use Rattle.image.specs.declared.fault.ImageFault.{ImageFault}
use Rattle.image.specs.Image.{Image, flat_fault, flat_image}
use Rattle.image.specs.declared.fault.ImageFault.TheVariants.{L11}
use Rattle.image.specs.Grammar.{spelling}
use Rattle.command_line.specs.declared.layout.Layout.{Layout}
use Rattle.commands.specs.declared.fault.ProgramFault.{ProgramFault}
use Rattle.commands.specs.declared.fault.ProgramFault.TheVariants as program
use Rattle.commands.specs.Files.{Text, File, Gains, whole, IsReading, IsUnwritten, bytes_of}

abbrev pub given : ℕ → Option ℕ → ℕ
given default None = default
given default (Some number) = number

-- 256 pages, or as many more as hold so many bytes from an address on, but no more than there can be
abbrev pub default_pages : ℕ → ℕ → ℕ
default_pages at count = min most_pages (max 256 ((at - ram_base + count + (page_bytes - 1)) / page_bytes))

-- Of a flat file a byte more is read than RAM has room for.
abbrev pub most_read : Option ℕ → ℕ
most_read pages = min (given most_pages pages) most_pages * page_bytes + 1

-- a number of the header, which has 32 bits; the greatest stands for those beyond it
abbrev pub header_number : ℕ → ℕ
header_number number = min number (2 ^ 32 - 1)

-- version 2 where version 1 can't have so many pages
abbrev pub version_of : ℕ → ℕ
version_of pages = if nat_le pages most_pages_version_1 then 1 else 2

-- What stands for a number that isn't named: for the address of the first byte that of RAM's first, for the first instruction that of the
-- first byte, for the mode integer mode, and for the pages 256 or as many more as hold the bytes.
abbrev pub at_of : Layout → ℕ
at_of layout = given ram_base layout.at

abbrev pub entry_of : Layout → ℕ
entry_of layout = given (at_of layout) layout.entry

abbrev pub mode_of : Layout → ℕ
mode_of layout = given 0 layout.mode

abbrev pub pages_of : Layout → ℕ → ℕ
pages_of layout count = given (default_pages (at_of layout) count) layout.pages

abbrev pub image_for : Layout → List ℕ → Image
image_for layout bytes =
    flat_image (version_of (pages_of layout (length bytes))) (pages_of layout (length bytes)) (entry_of layout) (mode_of layout)
    (at_of layout) bytes

abbrev pub fault_for : Layout → List ℕ → Option ImageFault
fault_for layout bytes =
    flat_fault (version_of (pages_of layout (length bytes))) (pages_of layout (length bytes)) (entry_of layout) (mode_of layout)
    (at_of layout) bytes

-- An ELF is refused, unless its bytes are to be taken as they stand: what is read of it tells.
abbrev pub is_refused : Layout → List ℕ → Bool
is_refused layout bytes = not layout.flat_elf && is_elf (take (most_read layout.pages) bytes)

-- The image of the bytes is written to a file, and no other file is.
abbrev pub MakesImage : Layout → Text → List ℕ → Option (List File) → Option (List File) → Type 0
MakesImage layout output bytes old new =
    (is_refused layout bytes ≡ false) × (fault_for layout bytes ≡ None)
    × Gains old new (whole output (spelling (image_for layout bytes)))

-- an ELF that is refused
abbrev pub IsElfFault : Layout → Text → Option (List ℕ) → ProgramFault → Type 0
IsElfFault layout flat known (program.Elf name) = (name.now ≡ flat) × IfSome known (λ bytes. is_refused layout bytes ≡ true)
IsElfFault layout flat known other = ⊥

-- what no image is built of these bytes of a file for: the first fault of its build, unless there was no memory
abbrev pub IsFlatFault : Layout → Text → Option (List ℕ) → ProgramFault → Type 0
IsFlatFault layout flat known (program.File name fault hint) =
    (name.now ≡ flat) × IfSome known (λ bytes. (fault ≡ L11) ⊎ (fault_for layout bytes ≡ Some fault))
IsFlatFault layout flat known other = ⊥

-- Why no image is made of a flat file: it can't be read; or it is an ELF that is refused; or no image is built of its bytes; or the
-- image can't be written.
pub data FailsToImage (layout : Layout) (flat output : Text) (old new : Option (List File)) (fault : ProgramFault) : Type 0 where
  at_flat : IsReading flat fault → new ≡ old → FailsToImage layout flat output old new fault
  at_elf : IsElfFault layout flat (bytes_of flat old) fault → new ≡ old → FailsToImage layout flat output old new fault
  at_build :
      IfSome (bytes_of flat old) (λ bytes. is_refused layout bytes ≡ false) → IsFlatFault layout flat (bytes_of flat old) fault
      → new ≡ old → FailsToImage layout flat output old new fault
  at_output :
      IfSome (bytes_of flat old) (λ bytes. is_refused layout bytes ≡ false)
      → IfSome (bytes_of flat old) (λ bytes. fault_for layout bytes ≡ None) → IsUnwritten output old new fault
      → FailsToImage layout flat output old new fault
