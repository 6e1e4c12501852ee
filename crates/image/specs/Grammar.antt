-- Images as bytes. All numbers are little-endian.
use Rattle.std.specs.Prelude.{◌≡◌, ◌<◌, ℕ, zero, suc, ◌+◌, Bool, ◌==◌, nat_eq, nat_lt, nat_le, if◌then◌else◌, List, [], ◌∷◌}
use Rattle.std.specs.Prelude.{◌++◌, length, slice_index, take, drop, Option, Result, Ok, Err, codes}
use Rattle.std.specs.List.{flat_map, starts_with}
use Rattle.byteorder.specs.Endian.{little_bytes, little_number}
use Rattle.base.specs.FirstFault.{first_fault, unless}
use Rattle.image.specs.declared.cap_entry.CapEntry.{CapEntry}
use Rattle.image.specs.declared.fault.ImageFault.{ImageFault}
use Rattle.image.specs.declared.fault.ImageFault.TheVariants.{L1, L2, L3, L4, L5, L8, L9, L15}
use Rattle.image.specs.declared.parts.Header.{Header}
use Rattle.image.specs.declared.parts.Span.{Span}
use Rattle.image.specs.Image.{Image, Section, IsImage, image_of, is_version, is_good_header, mode_number, span_fault}
use Rattle.image.specs.Image.{most_capabilities_of, capability_fault}

-- ---- the spelling of an image

-- the first 8 bytes
abbrev pub magic : List ℕ
magic = codes "CHERIIMG"

-- fields, each of so many bytes and with a number
abbrev pub fields : List (ℕ × ℕ) → List ℕ
fields numbers = flat_map (λ (field : ℕ × ℕ). little_bytes field.0 field.1) numbers

-- 32 bytes: the magic, and the fields of a header
unfoldable pub header_bytes : ℕ → ℕ → ℕ → ℕ → ℕ → List ℕ
header_bytes version pages entry count mode =
    magic ++ fields ((4, version) ∷ (4, pages) ∷ (8, entry) ∷ (4, count) ∷ (4, mode) ∷ [])

-- 16 bytes: where a section lies, and how many bytes it has
unfoldable pub span_bytes : ℕ → ℕ → List ℕ
span_bytes address size = fields ((8, address) ∷ (8, size) ∷ [])

abbrev pub section_bytes : Section → List ℕ
section_bytes s = span_bytes s.address (length s.bytes) ++ s.bytes

-- 32 bytes: the place, the base, the length, the permissions and the flag
unfoldable pub capability_bytes : CapEntry → List ℕ
capability_bytes c = fields ((8, c.place) ∷ (8, c.base) ∷ (8, c.length) ∷ (4, c.perms) ∷ (4, c.flag) ∷ [])

-- after the sections: in version 1 nothing, in version 2 the count of capabilities in 4 bytes, and each of them
unfoldable pub capabilities_bytes : ℕ → List CapEntry → List ℕ
capabilities_bytes version capabilities =
    if version == 1 then [] else little_bytes 4 (length capabilities) ++ flat_map capability_bytes capabilities

unfoldable pub spelling : Image → List ℕ
spelling i =
    header_bytes i.version i.pages i.entry (length i.sections) (mode_number i.mode)
    ++ (flat_map section_bytes i.sections ++ capabilities_bytes i.version i.capabilities)

-- These bytes are the image, each of them.
abbrev pub IsSpelling : List ℕ → Image → Type 0
IsSpelling bytes image = IsImage image × (bytes ≡ spelling image)

-- each number of a list is a byte
abbrev pub AreBytes : List ℕ → Type 0
AreBytes bytes = (k : ℕ) → slice_index bytes k < 256

-- ---- the reading of bytes, with the first fault in order

-- A part of a file is read from the front of bytes: what it says and the rest, or the first fault.
abbrev pub Part : Type 0 → Type 0
Part X = List ℕ → Result (X × List ℕ) ImageFault

infixl 10 ◌>>=◌
abbrev pub ◌>>=◌ : {A B : Type 0} → Result A ImageFault → (A → Result B ImageFault) → Result B ImageFault
(Ok x) >>= f = f x
(Err fault) >>= f = Err fault

-- the number in so many bytes from a place on
abbrev pub number_at : ℕ → ℕ → List ℕ → ℕ
number_at place size bytes = little_number size (take size (drop place bytes))

-- so many bytes, or the fault that they are cut short
abbrev pub taken : ℕ → ImageFault → Part (List ℕ)
taken size cut_short bytes = if nat_lt (length bytes) size then Err cut_short else Ok (take size bytes, drop size bytes)

-- what so many bytes say, or the fault that they have
abbrev pub checked : {X : Type 0} → ℕ → ImageFault → (List ℕ → Option ImageFault) → (List ℕ → X) → Part X
checked size cut_short fault said bytes = do
  front ← taken size cut_short bytes
  x ← unless (fault front.0) (said front.0)
  Ok (x, front.1)

-- a part, and then one that depends on what it says
abbrev pub both : {X Y Z : Type 0} → Part X → (X → Part Y) → (X → Y → Z) → Part Z
both first second join bytes = do
  x ← first bytes
  y ← second x.0 x.1
  Ok (join x.0 y.0, y.1)

-- so many parts of one kind, each of which depends on a number of the one before
abbrev pub each : {X : Type 0} → (ℕ → Part X) → (X → ℕ) → ℕ → ℕ → Part (List X)
each part number zero before = λ bytes. Ok ([], bytes)
each part number (suc n) before = both (part before) (λ x. each part number n (number x)) (λ x xs. x ∷ xs)

-- the 32 bytes of a header
abbrev pub header_of : List ℕ → Header
header_of bytes =
    record {
      version = number_at 8 4 bytes;
      pages = number_at 12 4 bytes;
      entry = number_at 16 8 bytes;
      count = number_at 24 4 bytes;
      mode = number_at 28 4 bytes;
    }

-- the version, pages with entry and mode, the count of sections
abbrev pub header_checks : Header → List (Bool × ImageFault)
header_checks h =
    (is_version h.version, L3) ∷ (is_good_header h.version h.pages h.entry h.mode, L4) ∷ (nat_le h.count 64, L5) ∷ []

-- the magic, and then what it says
unfoldable pub header_fault : List ℕ → Option ImageFault
header_fault bytes = first_fault ((starts_with nat_eq bytes magic, L2) ∷ header_checks (header_of bytes))

unfoldable pub header_at : Part Header
header_at = checked 32 L1 header_fault header_of

-- where a section lies: 16 bytes
abbrev pub span_of : List ℕ → Span
span_of bytes = record { address = number_at 0 8 bytes; size = number_at 8 8 bytes }

-- where the section in front lies, if the one before it ended at `free`
unfoldable pub span_at : ℕ → ℕ → Part Span
span_at pages free = checked 16 L8 (λ bytes. span_fault pages free (span_of bytes).address (span_of bytes).size) span_of

unfoldable pub section_at : ℕ → ℕ → Part Section
section_at pages free =
    both (span_at pages free) (λ span. taken span.size L8) (λ span body. record { address = span.address; bytes = body })

abbrev pub section_end : Section → ℕ
section_end s = s.address + length s.bytes

-- so many sections in order
abbrev pub sections_at : ℕ → ℕ → ℕ → Part (List Section)
sections_at pages = each (section_at pages) section_end

-- the capability that 32 bytes are
abbrev pub capability_in : List ℕ → CapEntry
capability_in bytes =
    record {
      place = number_at 0 8 bytes;
      base = number_at 8 8 bytes;
      length = number_at 16 8 bytes;
      perms = number_at 24 4 bytes;
      flag = number_at 28 4 bytes;
    }

-- the capability in front, if the one before it stands at `before`
unfoldable pub capability_at : ℕ → ℕ → Part CapEntry
capability_at pages before = checked 32 L8 (λ bytes. capability_fault pages before (capability_in bytes)) capability_in

abbrev pub place_of : CapEntry → ℕ
place_of c = c.place

-- so many capabilities in order
abbrev pub entries_at : ℕ → ℕ → ℕ → Part (List CapEntry)
entries_at pages = each (capability_at pages) place_of

-- a count of capabilities is not more than the version allows
abbrev pub count_fault : ℕ → ℕ → Option ImageFault
count_fault version count = first_fault ((nat_le count (most_capabilities_of version), L15) ∷ [])

unfoldable pub count_at : ℕ → Part ℕ
count_at version = checked 4 L8 (λ bytes. count_fault version (number_at 0 4 bytes)) (number_at 0 4)

-- the capabilities in front, which version 1 has not
unfoldable pub capabilities_at : ℕ → ℕ → Part (List CapEntry)
capabilities_at version pages =
    if version == 1 then (λ bytes. Ok ([], bytes)) else both (count_at version) (λ count. entries_at pages count 0) (λ count cs. cs)

-- the image of a header, sections and capabilities
abbrev pub headed : Header → List Section → List CapEntry → Image
headed header sections capabilities = image_of header.version header.pages header.entry header.mode sections capabilities

-- sections, and then capabilities
abbrev pub rest_at : Header → Part (List Section × List CapEntry)
rest_at h = both (sections_at h.pages h.count 0) (λ ss. capabilities_at h.version h.pages) (λ ss cs. (ss, cs))

unfoldable pub image_at : Part Image
image_at = both header_at rest_at (λ h rest. headed h rest.0 rest.1)

-- the image that the bytes are, each of them
unfoldable pub reading : List ℕ → Result Image ImageFault
reading bytes = do
  image ← image_at bytes
  if length image.1 == 0 then Ok image.0 else Err L9
