-- The listing of an image, with the names of a table of symbols or without: each section from its first byte, in the image's mode.
use Rattle.std.specs.Prelude.{ℕ, ◌+◌, Bool, List, [], ◌∷◌, ◌++◌, Option, Some, None, codes}
use Rattle.std.specs.List.{flat_map}
use Rattle.byteorder.specs.Endian.{little_number}
use Rattle.image.specs.Image.{Image, Section}
use Rattle.texts.specs.Hex.{hex_of}
use Rattle.disassembler.specs.Shown.{byte_line, shown_word}
use Rattle.symbols.specs.Symbols.{Symbol}
use Rattle.image_listing.specs.Named.{before, after}

-- the line of a word in a mode: without a table `word_line`
abbrev pub named_line : Option (List Symbol) → Bool → ℕ → ℕ → List ℕ
named_line table mode address word =
    hex_of 16 address ++ codes " " ++ hex_of 8 word ++ codes " " ++ shown_word mode word ++ (after table address word ++ codes "\n")

-- the lines of a word, and of a byte that is no part of a word
abbrev pub word_lines : Option (List Symbol) → Bool → ℕ → ℕ → List ℕ
word_lines table mode address word = before table address ++ named_line table mode address word

abbrev pub byte_lines : Option (List Symbol) → ℕ → ℕ → List ℕ
byte_lines table address byte = before table address ++ byte_line address byte

-- bytes from an address on, one a line
abbrev pub lines_of_bytes : Option (List Symbol) → ℕ → List ℕ → List ℕ
lines_of_bytes table address [] = []
lines_of_bytes table address (b ∷ bs) = byte_lines table address b ++ lines_of_bytes table (address + 1) bs

-- bytes from an address on: four by four as words, lowest byte first; then what is left over, byte by byte
abbrev pub lines_from : Option (List Symbol) → Bool → ℕ → List ℕ → List ℕ
lines_from table mode address [] = []
lines_from table mode address (a ∷ []) = lines_of_bytes table address (a ∷ [])
lines_from table mode address (a ∷ b ∷ []) = lines_of_bytes table address (a ∷ b ∷ [])
lines_from table mode address (a ∷ b ∷ c ∷ []) = lines_of_bytes table address (a ∷ b ∷ c ∷ [])
lines_from table mode address (a ∷ b ∷ c ∷ d ∷ rest) =
    word_lines table mode address (little_number 4 (a ∷ b ∷ c ∷ d ∷ [])) ++ lines_from table mode (address + 4) rest

abbrev pub section_lines : Option (List Symbol) → Bool → Section → List ℕ
section_lines table mode s = lines_from table mode s.address s.bytes

-- of an image with a table or without
abbrev pub listing_by : Option (List Symbol) → Image → List ℕ
listing_by table image = flat_map (section_lines table image.mode) image.sections

abbrev pub listing : Image → List ℕ
listing image = listing_by None image

abbrev pub listing_named : List Symbol → Image → List ℕ
listing_named symbols image = listing_by (Some symbols) image
