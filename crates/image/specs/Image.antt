-- Images: what a machine begins with.
use Rattle.std.specs.Prelude.{◌≡◌, ℕ, ◌+◌, ◌%◌, ◌^◌, Bool, ◌&&◌, ◌||◌, ◌==◌, nat_le, nat_lt, if◌then◌else◌, List, [], ◌∷◌, ◌++◌, length}
use Rattle.std.specs.Prelude.{map}
use Rattle.std.specs.Prelude.{Option, Some, None, Result, Ok, Err}
use Rattle.std.specs.Borrow.{Bor}
use Rattle.base.specs.FirstFault.{first_fault}
use Rattle.base.specs.Ram.{ram_base, ram_end, most_pages, most_pages_version_1}
use Rattle.cap_bounds.specs.Rounding.{is_exact}
use Rattle.image.specs.declared.cap_entry.CapEntry.{CapEntry}
use Rattle.image.specs.declared.fault.ImageFault.{ImageFault}
use Rattle.image.specs.declared.fault.ImageFault.TheVariants.{L3, L4, L5, L6, L7, L11, L12, L13, L14, L15}

-- bytes that RAM holds from an address on
pub record Section : Type 0 where
  pub address : ℕ
  pub bytes : List ℕ

-- Pages of 4096 bytes, where the first instruction lies, whether it is done in capability mode, and what RAM holds: sections, and in
-- version 2 capabilities that are put over them.
pub record Image : Type 0 where
  pub version : ℕ
  pub pages : ℕ
  pub entry : ℕ
  pub mode : Bool
  pub sections : List Section
  pub capabilities : List CapEntry

-- ---- what a version allows

abbrev pub is_version : ℕ → Bool
is_version version = (version == 1) || (version == 2)

abbrev pub most_pages_of : ℕ → ℕ
most_pages_of version = if version == 1 then most_pages_version_1 else most_pages

abbrev pub most_capabilities_of : ℕ → ℕ
most_capabilities_of version = if version == 1 then 0 else 1024

-- ---- the conditions of each part

-- 1 to the most pages of the version; an entry that is a multiple of 4 with four bytes in RAM; a mode of 0 or 1
unfoldable pub is_good_header : ℕ → ℕ → ℕ → ℕ → Bool
is_good_header version pages entry mode =
    (nat_le 1 pages && nat_le pages (most_pages_of version))
    && ((entry % 4 == 0) && (nat_le ram_base entry && nat_le (entry + 4) (ram_end pages)))
    && nat_le mode 1

-- A section at this address with so many bytes, where the one before it ended at `free`: it lies in RAM, and past the one before.
abbrev pub span_checks : ℕ → ℕ → ℕ → ℕ → List (Bool × ImageFault)
span_checks pages free address size =
    (nat_le ram_base address && nat_le (address + size) (ram_end pages), L6)
    ∷ (nat_le free address, L7)
    ∷ []

unfoldable pub span_fault : ℕ → ℕ → ℕ → ℕ → Option ImageFault
span_fault pages free address size = first_fault (span_checks pages free address size)

-- Sections, of which the one before ended at `free`, one after the other.
abbrev pub sections_checks : ℕ → ℕ → List Section → List (Bool × ImageFault)
sections_checks pages free [] = []
sections_checks pages free (s ∷ ss) =
    span_checks pages free s.address (length s.bytes) ++ sections_checks pages (s.address + length s.bytes) ss

abbrev pub sections_fault : ℕ → ℕ → List Section → Option ImageFault
sections_fault pages free sections = first_fault (sections_checks pages free sections)

-- a granule of RAM, above the place before
unfoldable pub is_capability_place : ℕ → ℕ → ℕ → Bool
is_capability_place pages before place =
    ((place % 16 == 0) && (nat_le ram_base place && nat_le (place + 16) (ram_end pages))) && nat_lt before place

-- 64 bits each, with an end at 2^64 or before, of which rounding out changes nothing
unfoldable pub is_exact_range : ℕ → ℕ → Bool
is_exact_range base size =
    ((nat_lt base (2 ^ 64) && nat_lt size (2 ^ 64)) && nat_le (base + size) (2 ^ 64)) && is_exact base (base + size)

-- A capability, where the one before it stands at `before` (0 if none does): its place, its bounds, its permissions and flag.
abbrev pub capability_checks : ℕ → ℕ → CapEntry → List (Bool × ImageFault)
capability_checks pages before c =
    (is_capability_place pages before c.place, L12)
    ∷ (is_exact_range c.base c.length, L13)
    ∷ (nat_le c.perms 0xffff && nat_le c.flag 1, L14)
    ∷ []

unfoldable pub capability_fault : ℕ → ℕ → CapEntry → Option ImageFault
capability_fault pages before c = first_fault (capability_checks pages before c)

-- Capabilities, of which the one before stands at `before`, one after the other.
abbrev pub capabilities_checks : ℕ → ℕ → List CapEntry → List (Bool × ImageFault)
capabilities_checks pages before [] = []
capabilities_checks pages before (c ∷ cs) = capability_checks pages before c ++ capabilities_checks pages c.place cs

abbrev pub capabilities_fault : ℕ → ℕ → List CapEntry → Option ImageFault
capabilities_fault pages before capabilities = first_fault (capabilities_checks pages before capabilities)

-- ---- the whole

-- What an image is to be made of, in this order: its version, its header, its number of sections, its sections, its number of
-- capabilities, its capabilities.
abbrev pub build_checks : ℕ → ℕ → ℕ → ℕ → List Section → List CapEntry → List (Bool × ImageFault)
build_checks version pages entry mode sections capabilities =
    (is_version version, L3)
    ∷ (is_good_header version pages entry mode, L4)
    ∷ (nat_le (length sections) 64, L5)
    ∷ sections_checks pages 0 sections
    ++ ((nat_le (length capabilities) (most_capabilities_of version), L15) ∷ capabilities_checks pages 0 capabilities)

unfoldable pub build_fault : ℕ → ℕ → ℕ → ℕ → List Section → List CapEntry → Option ImageFault
build_fault version pages entry mode sections capabilities =
    first_fault (build_checks version pages entry mode sections capabilities)

-- the mode's number
abbrev pub mode_number : Bool → ℕ
mode_number mode = if mode then 1 else 0

-- An image has no fault.
abbrev pub IsImage : Image → Type 0
IsImage i = build_fault i.version i.pages i.entry (mode_number i.mode) i.sections i.capabilities ≡ None

-- addresses and bytes, as a caller lends them
abbrev pub lent_section : ℕ × Bor (List ℕ) → Section
lent_section p = record { address = p.0; bytes = p.1.now }

abbrev pub lent_sections : List (ℕ × Bor (List ℕ)) → List Section
lent_sections parts = map lent_section parts

abbrev pub image_of : ℕ → ℕ → ℕ → ℕ → List Section → List CapEntry → Image
image_of version pages entry mode sections capabilities =
    record {
      version = version;
      pages = pages;
      entry = entry;
      mode = mode == 1;
      sections = sections;
      capabilities = capabilities;
    }

-- A flat image: these bytes at an address, and no capability.
abbrev pub flat_sections : ℕ → List ℕ → List Section
flat_sections at bytes = record { address = at; bytes = bytes } ∷ []

abbrev pub flat_fault : ℕ → ℕ → ℕ → ℕ → ℕ → List ℕ → Option ImageFault
flat_fault version pages entry mode at bytes = build_fault version pages entry mode (flat_sections at bytes) []

abbrev pub flat_image : ℕ → ℕ → ℕ → ℕ → ℕ → List ℕ → Image
flat_image version pages entry mode at bytes = image_of version pages entry mode (flat_sections at bytes) []

-- The answer to a build: the first fault, or else the image, unless memory runs out.
abbrev pub Builds : Option ImageFault → Image → Result Image ImageFault → Type 0
Builds (Some fault) image answer = answer ≡ Err fault
Builds None image (Ok made) = made ≡ image
Builds None image (Err fault) = fault ≡ L11
