-- A listing, piece by piece, and where an image's sections lie.
use Rattle.std.proofs.Common.{◌≡◌, ℕ, ◌+◌, ◌-◌, ◌^◌, ◌<◌, ◌≤◌, zero, suc, Bool, List, Option, [], ◌∷◌, ◌++◌}
use Rattle.std.proofs.Common.{length, get_or, take, drop, refl, sym, subst, ap, ◌∙◌, append_assoc, append-nil, length-drop, arith}
use Rattle.std.specs.List.{flat_map}
use Rattle.std.proofs.lemmas.List.{take_all}
use Rattle.std.specs.Io.KnownBytes.{Appends}
use Rattle.image.specs.Devices.{AppendsBeginning}
use Rattle.image.specs.BeginningLaws.{beginning_more, beginning_after}
use Rattle.byteorder.specs.Endian.{little_number}
use Rattle.base.specs.Ram.{ram_end}
use Rattle.image.specs.Image.{Image, Section, IsImage, mode_number}
use Rattle.image.specs.ImageLaws.{AllInRam, AllInRam-image, image_parts, header_ranges}
use Rattle.symbols.specs.Symbols.{Symbol}
use Rattle.image_listing.specs.Listing.{byte_lines, lines_of_bytes, lines_from, word_lines}

-- the piece of an item after those of the items before it
pub next_item : {X : Type 0} (f : X → List ℕ) (xs : List X) (i : ℕ) (d : X) → i < length xs
    → flat_map f (take i xs) ++ f (get_or xs i d) ≡ flat_map f (take (suc i) xs)
next_item f [] i d lt = absurd (omega (arith, lt))
next_item f (x ∷ xs) zero d lt = sym (append-nil (f x))
next_item f (x ∷ xs) (suc i) d lt =
    append_assoc (f x) (flat_map f (take i xs)) (f (get_or xs i d))
    ∙ ap (λ (b : List ℕ). f x ++ b) (next_item f xs i d (omega (arith, lt)))

-- ---- lines

-- what is left after one more line
pub line_less : (done line left rest whole : List ℕ) → left ≡ line ++ rest → done ++ left ≡ whole → (done ++ line) ++ rest ≡ whole
line_less done line left rest whole cut is = append_assoc done line rest ∙ ap (λ ls. done ++ ls) (sym cut) ∙ is

-- a beginning of that line, after those that are written, is one of the whole
pub line_began : (a b c : Option (List ℕ)) (done line left rest whole : List ℕ) → left ≡ line ++ rest → done ++ left ≡ whole
    → Appends a b done → AppendsBeginning b c line → AppendsBeginning a c whole
line_began a b c done line left rest whole cut is all began =
    subst (AppendsBeginning a c) (line_less done line left rest whole cut is)
    (beginning_more a c (done ++ line) rest (beginning_after a b c done line all began))

-- the first four bytes are a word
pub one_word : (table : Option (List Symbol)) (mode : Bool) (address : ℕ) (bytes : List ℕ) → 4 ≤ length bytes
    → lines_from table mode address bytes
    ≡ word_lines table mode address (little_number 4 bytes) ++ lines_from table mode (address + 4) (drop 4 bytes)
one_word table mode address (a ∷ b ∷ c ∷ d ∷ rest) fits = refl
one_word table mode address [] fits = absurd (omega (arith, fits))
one_word table mode address (a ∷ []) fits = absurd (omega (arith, fits))
one_word table mode address (a ∷ b ∷ []) fits = absurd (omega (arith, fits))
one_word table mode address (a ∷ b ∷ c ∷ []) fits = absurd (omega (arith, fits))

-- fewer than four bytes are listed byte by byte
pub left_over : (table : Option (List Symbol)) (mode : Bool) (address : ℕ) (bytes : List ℕ) → length bytes < 4
    → lines_from table mode address bytes ≡ lines_of_bytes table address bytes
left_over table mode address [] few = refl
left_over table mode address (a ∷ []) few = refl
left_over table mode address (a ∷ b ∷ []) few = refl
left_over table mode address (a ∷ b ∷ c ∷ []) few = refl
left_over table mode address (a ∷ b ∷ c ∷ d ∷ rest) few = absurd (omega (arith, few))

-- the line of the first byte, and those of the others
pub one_byte : (table : Option (List Symbol)) (address byte : ℕ) (bytes after : List ℕ) → bytes ≡ byte ∷ after
    → lines_of_bytes table address bytes ≡ byte_lines table address byte ++ lines_of_bytes table (address + 1) after
one_byte table address byte bytes after is = rw is refl

-- no bytes have no lines
pub all_listed : (table : Option (List Symbol)) (address : ℕ) (bytes : List ℕ) → length bytes ≡ 0 → lines_of_bytes table address bytes ≡ []
all_listed table address [] none = refl
all_listed table address (b ∷ bs) none = absurd (omega (arith, none))

-- a slice up to the end is the rest
pub to_the_end : (at : ℕ) (bytes : List ℕ) → take (length bytes - at) (drop at bytes) ≡ drop at bytes
to_the_end at bytes = take_all _ _ (rw length-drop (omega arith))

-- ---- sections

in_ram_at : (pages k : ℕ) (sections : List Section) (d : Section) → AllInRam pages sections → k < length sections
    → (get_or sections k d).address + length (get_or sections k d).bytes ≤ ram_end pages
in_ram_at pages k [] d all below = absurd (omega (arith, below))
in_ram_at pages zero (s ∷ ss) d all below = all.0.1
in_ram_at pages (suc k) (s ∷ ss) d all below = in_ram_at pages k ss d all.1 (omega (arith, below))

-- an image's sections end below the end of all addresses
pub ends_below : (image : Image) → IsImage image → (k : ℕ) (d : Section) → k < length image.sections
    → (get_or image.sections k d).address + length (get_or image.sections k d).bytes < 2 ^ 64
ends_below image valid k d below =
    let end = in_ram_at image.pages k image.sections d (AllInRam-image image valid) below in
    let few =
    (header_ranges image.version image.pages image.entry (mode_number image.mode) (image_parts image valid).header).0 in
    omega (arith, end, few)
