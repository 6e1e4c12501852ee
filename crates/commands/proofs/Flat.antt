-- The image of a flat file: numbers that a header can't hold, and bytes past those that RAM has room for, change no fault.
use Rattle.std.specs.Prelude.{◌≡◌, ℕ, ◌+◌, ◌-◌, ◌*◌, ◌^◌, ◌<◌, ◌≤◌, min, nat_le, Bool, true, false, not, ◌&&◌, List, [], length, take}
use Rattle.std.specs.Prelude.{Option, Some, None, Result, Ok, Err, refl, IfSome, ◌⊎◌}
use Rattle.std.proofs.Common.{sym, ap, ◌∙◌, arith, inl, inr}
use Rattle.std.proofs.Math.Nat.{min-eq_left}
use Rattle.std.proofs.lemmas.Bool.{cases_Bool, cases_lt, and_left, and_right, lt-leb}
use Rattle.std.proofs.lemmas.List.{take_all, length-take-le}
use Rattle.base.specs.Ram.{ram_base, ram_end, page_bytes, most_pages, most_pages_version_1}
use Rattle.image.specs.declared.cap_entry.CapEntry.{CapEntry}
use Rattle.image.specs.declared.fault.ImageFault.{ImageFault}
use Rattle.image.specs.declared.fault.ImageFault.TheVariants.{L4, L6, L11}
use Rattle.image.specs.Image.{Image, Section, Builds, build_fault, flat_fault, flat_sections, image_of, is_version, is_good_header}
use Rattle.image.specs.ImageLaws.{header_ranges}
use Rattle.commands.specs.Imaging.{given, default_pages, most_read, header_number, version_of, at_of, entry_of}
use Rattle.commands.specs.Imaging.{mode_of, pages_of, fault_for, image_for, is_refused, MakesImage}
use Rattle.hints.specs.Files.{is_elf}
use Rattle.commands.specs.Files.{File, Gains, whole}
use Rattle.image.specs.Grammar.{spelling}
use Rattle.command_line.specs.declared.layout.Layout.{Layout}

-- the smaller of two numbers
pub min_small : (a b : ℕ) → a ≤ b → min a b ≡ a
min_small a b small = min-eq_left small

-- a header that isn't good is the fault
pub bad_header : (v pages entry mode : ℕ) (ss : List Section) (cs : List CapEntry) → is_version v ≡ true
    → is_good_header v pages entry mode ≡ false → build_fault v pages entry mode ss cs ≡ Some L4
unfolding build_fault
bad_header v pages entry mode ss cs version bad = rw (version, bad) refl

-- numbers that a header can't hold make no good header
pub header_same : (v pages entry mode : ℕ)
    → is_good_header v (header_number pages) entry (header_number mode) ≡ is_good_header v pages entry mode
header_same v pages entry mode = elim (cases_Bool (is_good_header v pages entry mode)) [
  | inl good ↦ (let r = header_ranges v pages entry mode good in
      rw (min_small pages (2 ^ 32 - 1) (omega (arith, r.0)), min_small mode (2 ^ 32 - 1) (omega (arith, r.2))) refl)
  | inr bad ↦ elim (cases_Bool (is_good_header v (header_number pages) entry (header_number mode))) [
    | inl good ↦ (let r = header_ranges v (header_number pages) entry (header_number mode) good in
        let p : pages ≤ 2 ^ 32 - 1 = omega (arith, r.0) in
        let m : mode ≤ 2 ^ 32 - 1 = omega (arith, r.2) in
        rw (min_small pages (2 ^ 32 - 1) p, min_small mode (2 ^ 32 - 1) m) refl)
    | inr bad_too ↦ bad_too ∙ sym bad
  ]
]

-- so they change nothing of a build
pub builds_same : (v pages entry mode : ℕ) (ss : List Section) (cs : List CapEntry) (answer : Result Image ImageFault)
    → is_version v ≡ true
    → Builds (build_fault v (header_number pages) entry (header_number mode) ss cs)
    (image_of v (header_number pages) entry (header_number mode) ss cs) answer
    → Builds (build_fault v pages entry mode ss cs) (image_of v pages entry mode ss cs) answer
builds_same v pages entry mode ss cs answer version builds = elim (cases_Bool (is_good_header v pages entry mode)) [
  | inl good ↦ (let r = header_ranges v pages entry mode good in
      let p : header_number pages ≡ pages = min_small pages (2 ^ 32 - 1) (omega (arith, r.0)) in
      let m : header_number mode ≡ mode = min_small mode (2 ^ 32 - 1) (omega (arith, r.2)) in
      rw (p, m) at builds)
  | inr bad ↦ (let e = bad_header v pages entry mode ss cs version bad in
      let f = bad_header v (header_number pages) entry (header_number mode) ss cs version (header_same v pages entry mode ∙ bad) in
      let g : answer ≡ Err L4 = rw f at builds in
      rw e g)
]

-- bytes that RAM has no room for are the fault, after the header
pub too_large : (v pages entry mode at : ℕ) (bytes : List ℕ) → is_version v ≡ true → is_good_header v pages entry mode ≡ true
    → page_bytes * pages < length bytes → build_fault v pages entry mode (flat_sections at bytes) [] ≡ Some L6
unfolding build_fault
too_large v pages entry mode at bytes version good large =
    let outside : (nat_le ram_base at) && (nat_le (at + length bytes) (ram_end pages)) ≡ false =
    elim (cases_lt at ram_base) [
      | inl below ↦ and_left _ _ (lt-leb ram_base at below)
      | inr above ↦ and_right _ _ (lt-leb (at + length bytes) (ram_end pages) (omega (arith, above, large)))
    ] in
    rw (version, good, outside) refl

-- where even the bytes that are read are too many, so are all pages
pub full : (at count : ℕ) → most_pages * page_bytes < count → default_pages at count ≡ most_pages
full at count large = omega arith

pub pages_same : (at count : ℕ) (named : Option ℕ) → most_read named ≤ count
    → given (default_pages at count) named ≡ given (default_pages at (most_read named)) named
pages_same at count None large = full at count (omega (arith, large)) ∙ sym (full at (most_read None) (omega arith))
pages_same at count (Some pages) large = refl

-- more bytes are read than so many pages have room for
pub read_enough : (at count : ℕ) (named : Option ℕ) → given (default_pages at count) named ≤ most_pages
    → page_bytes * given (default_pages at count) named < most_read named
read_enough at count None few = omega (arith, few)
read_enough at count (Some pages) few = rw (min_small pages most_pages few) (omega arith)

pub version_good : (pages : ℕ) → is_version (version_of pages) ≡ true
version_good pages = elim (cases_Bool (nat_le pages most_pages_version_1)) [
  | inl few ↦ rw few refl
  | inr many ↦ rw many refl
]

pub not_none : (fault : ImageFault) → Some fault ≡ None → ⊥
not_none fault e = absurd cc

-- the fault of bytes that RAM has no room for says nothing of them
pub same_fault : (pages entry mode at : ℕ) (xs ys : List ℕ)
    → (pages ≤ most_pages → page_bytes * pages < length xs) → (pages ≤ most_pages → page_bytes * pages < length ys)
    → (flat_fault (version_of pages) pages entry mode at xs ≡ flat_fault (version_of pages) pages entry mode at ys)
    × (flat_fault (version_of pages) pages entry mode at ys ≡ None → ⊥)
same_fault pages entry mode at xs ys large large_too = elim (cases_Bool (is_good_header (version_of pages) pages entry mode)) [
  | inl good ↦ (let few = (header_ranges (version_of pages) pages entry mode good).0 in
      let x = too_large (version_of pages) pages entry mode at xs (version_good pages) good (large few) in
      let y = too_large (version_of pages) pages entry mode at ys (version_good pages) good (large_too few) in
      (x ∙ sym y, λ none. not_none L6 (sym y ∙ none)))
  | inr bad ↦ (let x = bad_header (version_of pages) pages entry mode (flat_sections at xs) [] (version_good pages) bad in
      let y = bad_header (version_of pages) pages entry mode (flat_sections at ys) [] (version_good pages) bad in
      (x ∙ sym y, λ none. not_none L4 (sym y ∙ none)))
]

-- What is read of a file has the fault that all of it has, and where it has none it is all.
pub read_all : (layout : Layout) (bytes : List ℕ)
    → (fault_for layout (take (most_read layout.pages) bytes) ≡ fault_for layout bytes)
    × (fault_for layout bytes ≡ None → take (most_read layout.pages) bytes ≡ bytes)
read_all layout bytes =
    let most = most_read layout.pages in
    elim (cases_lt most (length bytes)) [
      | inl more ↦ (let cut : length (take most bytes) ≡ most = length-take-le most bytes (omega (arith, more)) in
          let same = pages_same (at_of layout) (length bytes) layout.pages (omega (arith, more)) in
          let enough = read_enough (at_of layout) (length bytes) layout.pages in
          let r = same_fault (pages_of layout (length bytes)) (entry_of layout) (mode_of layout) (at_of layout) (take most bytes) bytes
          (λ few. rw cut (enough few)) (λ few. omega (arith, more, enough few)) in
          (rw (cut, sym same) r.0, λ none. absurd (r.1 none)))
      | inr all ↦ (let same = take_all most bytes all in (rw same refl, λ none. same))
    ]

-- what an answer to a build says
pub builds_ok : (fault : Option ImageFault) (image made : Image) → Builds fault image (Ok made) → (fault ≡ None) × (made ≡ image)
builds_ok None image made builds = (refl, builds)
builds_ok (Some fault) image made builds = absurd cc

pub builds_err : (fault : Option ImageFault) (image : Image) (found : ImageFault) → Builds fault image (Err found)
    → (found ≡ L11) ⊎ (fault ≡ Some found)
builds_err None image found builds = inl builds
builds_err (Some fault) image found builds = inr cc

-- the image that was written is that of the whole file
pub written_whole : (layout : Layout) (output read : List ℕ) (known : Option (List ℕ)) (made : Image) (old new : Option (List File))
    → IfSome known (λ bytes. read ≡ take (most_read layout.pages) bytes)
    → IfSome known (λ bytes. is_refused layout bytes ≡ false)
    → Builds (fault_for layout read) (image_for layout read) (Ok made) → Gains old new (whole output (spelling made))
    → IfSome known (λ bytes. MakesImage layout output bytes old new)
written_whole layout output read None made old new part taken builds gains = tt
written_whole layout output read (Some bytes) made old new part taken builds gains =
    let all = read_all layout bytes in
    let built = builds_ok _ _ made builds in
    let none : fault_for layout bytes ≡ None = sym all.0 ∙ (rw part at built.0) in
    let same : read ≡ bytes = part ∙ all.1 none in
    (taken, none, rw (built.1, same) at gains)

-- and the fault of its build that of the whole file
pub fault_whole : (layout : Layout) (read : List ℕ) (bytes : List ℕ) (found : ImageFault) → read ≡ take (most_read layout.pages) bytes
    → Builds (fault_for layout read) (image_for layout read) (Err found) → (found ≡ L11) ⊎ (fault_for layout bytes ≡ Some found)
fault_whole layout read bytes found part builds = elim (builds_err _ _ found builds) [
  | inl memory ↦ inl memory
  | inr fault ↦ inr (sym (read_all layout bytes).0 ∙ (rw part at fault))
]

-- whether a file is refused by what is read of it
pub elf_known : (layout : Layout) (read : List ℕ) (known : Option (List ℕ)) (answer wanted : Bool)
    → IfSome known (λ bytes. read ≡ take (most_read layout.pages) bytes) → answer ≡ (not layout.flat_elf && is_elf read)
    → answer ≡ wanted → IfSome known (λ bytes. is_refused layout bytes ≡ wanted)
elf_known layout read None answer wanted part is e = tt
elf_known layout read (Some bytes) answer wanted part is e =
    ap (λ bs. not layout.flat_elf && is_elf bs) (sym part) ∙ sym is ∙ e

-- where a file's bytes are known
pub fault_known : (layout : Layout) (read : List ℕ) (known : Option (List ℕ)) (found : ImageFault)
    → IfSome known (λ bytes. read ≡ take (most_read layout.pages) bytes)
    → Builds (fault_for layout read) (image_for layout read) (Err found)
    → IfSome known (λ bytes. (found ≡ L11) ⊎ (fault_for layout bytes ≡ Some found))
fault_known layout read None found part builds = tt
fault_known layout read (Some bytes) found part builds = fault_whole layout read bytes found part builds

pub no_fault : (layout : Layout) (read : List ℕ) (known : Option (List ℕ)) (made : Image)
    → IfSome known (λ bytes. read ≡ take (most_read layout.pages) bytes)
    → Builds (fault_for layout read) (image_for layout read) (Ok made) → IfSome known (λ bytes. fault_for layout bytes ≡ None)
no_fault layout read None made part builds = tt
no_fault layout read (Some bytes) made part builds =
    let built = builds_ok _ _ made builds in sym (read_all layout bytes).0 ∙ (rw part at built.0)
