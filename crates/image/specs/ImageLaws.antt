-- An image's sections and capabilities lie in its RAM.
use Rattle.std.proofs.Common.{eqb, leb, sym, ◌∙◌, arith, inl, inr, ◌≡◌, ℕ, ◌+◌, ◌%◌, ◌^◌, ◌<◌, ◌≤◌, true, List, [], ◌∷◌, ◌++◌, length}
use Rattle.std.proofs.Common.{Option, None}
use Rattle.std.proofs.Common.{Some, refl, lit≤}
use Rattle.std.specs.Prelude.{if◌then◌else◌}
use Rattle.std.specs.Option.{option_or}
use Rattle.std.proofs.lemmas.Bool.{and_parts, eqb-true, and_from, cases_eq, eq-eqb, ne_eqb, leb-true, ltb-true, le-leb}
use Rattle.base.specs.FirstFaultLaws.{EachHolds, first_fault-cons, first_fault-none, first_fault-append}
use Rattle.base.specs.Ram.{ram_base, ram_end, most_pages, most_pages_version_1}
use Rattle.image.specs.declared.fault.ImageFault.{ImageFault}
use Rattle.image.specs.declared.fault.ImageFault.TheVariants.{L3, L4, L5, L15}
use Rattle.cap_bounds.specs.Rounding.{is_exact}
use Rattle.image.specs.declared.cap_entry.CapEntry.{CapEntry}
use Rattle.image.specs.Image.{Section, Image, IsImage, is_version, most_pages_of, most_capabilities_of, is_good_header}
use Rattle.image.specs.Image.{span_checks, span_fault, sections_checks, sections_fault, is_capability_place, is_exact_range}
use Rattle.image.specs.Image.{capability_checks, capability_fault, capabilities_checks, capabilities_fault, build_fault}
use Rattle.image.specs.Image.{mode_number, image_of}

-- each section begins and ends in RAM
abbrev pub AllInRam : ℕ → List Section → Type 0
AllInRam pages [] = Unit {0}
AllInRam pages (s ∷ ss) = ((ram_base ≤ s.address) × (s.address + length s.bytes ≤ ram_end pages)) × AllInRam pages ss

-- a section without fault lies in RAM
pub in_ram : (pages free address size : ℕ) → span_fault pages free address size ≡ None
    → (ram_base ≤ address) × (address + size ≤ ram_end pages)
unfolding span_fault
in_ram pages free address size none =
    let all : EachHolds (span_checks pages free address size) = first_fault-none (span_checks pages free address size) none in
    let inside = and_parts _ _ all.0 in
    (leb-true _ _ inside.0, leb-true _ _ inside.1)

-- sections have the fault of the first of them, or else that of the others
pub sections_fault-cons : (pages free : ℕ) (s : Section) (ss : List Section)
    → sections_fault pages free (s ∷ ss)
    ≡ option_or (span_fault pages free s.address (length s.bytes)) (sections_fault pages (s.address + length s.bytes) ss)
unfolding span_fault
sections_fault-cons pages free s ss =
    first_fault-append (span_checks pages free s.address (length s.bytes)) (sections_checks pages (s.address + length s.bytes) ss)

-- neither of two faults is there
pub no_fault : (first others : Option ImageFault) → option_or first others ≡ None → (first ≡ None) × (others ≡ None)
no_fault None others e = (refl, e)
no_fault (Some fault) others e = absurd cc

-- where the first of sections has no fault, nor have the others, they have none
pub sections_fault-none : (pages free : ℕ) (s : Section) (ss : List Section) → span_fault pages free s.address (length s.bytes) ≡ None
    → sections_fault pages (s.address + length s.bytes) ss ≡ None → sections_fault pages free (s ∷ ss) ≡ None
sections_fault-none pages free s ss first others = sections_fault-cons pages free s ss ∙ (rw first others)

-- and else one of them has it
pub no_fault_cons : (pages free : ℕ) (s : Section) (ss : List Section) → sections_fault pages free (s ∷ ss) ≡ None
    → (span_fault pages free s.address (length s.bytes) ≡ None) × (sections_fault pages (s.address + length s.bytes) ss ≡ None)
no_fault_cons pages free s ss none = no_fault _ _ (sym (sections_fault-cons pages free s ss) ∙ none)

pub AllInRam-sections : (pages free : ℕ) (sections : List Section) → sections_fault pages free sections ≡ None → AllInRam pages sections
AllInRam-sections pages free [] none = tt
AllInRam-sections pages free (s ∷ ss) none =
    let neither = no_fault_cons pages free s ss none in
    (in_ram pages free s.address (length s.bytes) neither.0, AllInRam-sections pages (s.address + length s.bytes) ss neither.1)

-- ---- capabilities

-- what is true of a capability without fault
pub record IsGoodCapability (pages : ℕ) (c : CapEntry) : Type 0 where
  pub aligned : c.place % 16 ≡ 0
  pub above_base : ram_base ≤ c.place
  pub inside : c.place + 16 ≤ ram_end pages
  pub base_fits : c.base < 2 ^ 64
  pub length_fits : c.length < 2 ^ 64
  pub end_fits : c.base + c.length ≤ 2 ^ 64
  pub exact : is_exact c.base (c.base + c.length) ≡ true
  pub perms_fit : c.perms < 2 ^ 16
  pub flag_fits : c.flag ≤ 1

pub good_capability : (pages before : ℕ) (c : CapEntry) → capability_fault pages before c ≡ None → IsGoodCapability pages c
unfolding capability_fault is_capability_place is_exact_range
good_capability pages before c none =
    let all : EachHolds (capability_checks pages before c) = first_fault-none (capability_checks pages before c) none in
    let place = and_parts _ _ (and_parts _ _ all.0).0 in
    let inside = and_parts _ _ place.1 in
    let range = and_parts _ _ all.1.0 in
    let below = and_parts _ _ range.0 in
    let fits = and_parts _ _ below.0 in
    let small = and_parts _ _ all.1.1.0 in
    record {
      aligned = eqb-true _ _ place.0;
      above_base = leb-true _ _ inside.0;
      inside = leb-true _ _ inside.1;
      base_fits = ltb-true _ _ fits.0;
      length_fits = ltb-true _ _ fits.1;
      end_fits = leb-true _ _ below.1;
      exact = range.1;
      perms_fit = omega (arith, leb-true _ _ small.0);
      flag_fits = leb-true _ _ small.1;
    }

abbrev pub AreGoodCapabilities : ℕ → List CapEntry → Type 0
AreGoodCapabilities pages [] = Unit {0}
AreGoodCapabilities pages (c ∷ cs) = IsGoodCapability pages c × AreGoodCapabilities pages cs

-- capabilities have the fault of the first of them, or else that of the others
pub capabilities_fault-cons : (pages before : ℕ) (c : CapEntry) (cs : List CapEntry)
    → capabilities_fault pages before (c ∷ cs) ≡ option_or (capability_fault pages before c) (capabilities_fault pages c.place cs)
unfolding capability_fault
capabilities_fault-cons pages before c cs =
    first_fault-append (capability_checks pages before c) (capabilities_checks pages c.place cs)

-- where the first of capabilities has no fault, nor have the others, they have none
pub capabilities_fault-none : (pages before : ℕ) (c : CapEntry) (cs : List CapEntry) → capability_fault pages before c ≡ None
    → capabilities_fault pages c.place cs ≡ None → capabilities_fault pages before (c ∷ cs) ≡ None
capabilities_fault-none pages before c cs first others = capabilities_fault-cons pages before c cs ∙ (rw first others)

-- and else one of them has it
pub no_capability_fault : (pages before : ℕ) (c : CapEntry) (cs : List CapEntry) → capabilities_fault pages before (c ∷ cs) ≡ None
    → (capability_fault pages before c ≡ None) × (capabilities_fault pages c.place cs ≡ None)
no_capability_fault pages before c cs none = no_fault _ _ (sym (capabilities_fault-cons pages before c cs) ∙ none)

pub AreGoodCapabilities-list : (pages before : ℕ) (cs : List CapEntry) → capabilities_fault pages before cs ≡ None
    → AreGoodCapabilities pages cs
AreGoodCapabilities-list pages before [] none = tt
AreGoodCapabilities-list pages before (c ∷ cs) none =
    let neither = no_capability_fault pages before c cs none in
    (good_capability pages before c neither.0, AreGoodCapabilities-list pages c.place cs neither.1)

-- ---- the whole

-- what has no fault has none in any part
pub record GoodParts (v pages entry mode : ℕ) (ss : List Section) (cs : List CapEntry) : Type 0 where
  pub version : is_version v ≡ true
  pub header : is_good_header v pages entry mode ≡ true
  pub few_sections : length ss ≤ 64
  pub sections : sections_fault pages 0 ss ≡ None
  pub few_capabilities : length cs ≤ most_capabilities_of v
  pub capabilities : capabilities_fault pages 0 cs ≡ None

pub build_parts : (v pages entry mode : ℕ) (ss : List Section) (cs : List CapEntry) → build_fault v pages entry mode ss cs ≡ None
    → GoodParts v pages entry mode ss cs
unfolding build_fault
build_parts v pages entry mode ss cs none =
    let entries = capabilities_checks pages 0 cs in
    let past = (leb (length cs) (most_capabilities_of v), L15) ∷ entries in
    let both = sections_checks pages 0 ss ++ past in
    let first = first_fault-cons (is_version v) L3
    ((is_good_header v pages entry mode, L4) ∷ (leb (length ss) 64, L5) ∷ both) none in
    let second = first_fault-cons (is_good_header v pages entry mode) L4 ((leb (length ss) 64, L5) ∷ both) first.1 in
    let third = first_fault-cons (leb (length ss) 64) L5 both second.1 in
    let neither = no_fault _ _ (sym (first_fault-append (sections_checks pages 0 ss) past) ∙ third.1) in
    let fourth = first_fault-cons (leb (length cs) (most_capabilities_of v)) L15 entries neither.1 in
    record {
      version = first.0;
      header = second.0;
      few_sections = leb-true _ _ third.0;
      sections = neither.0;
      few_capabilities = leb-true _ _ fourth.0;
      capabilities = fourth.1;
    }

-- after a version, a header and a number of sections without fault comes the fault of the sections, or else of the capabilities
pub build_fault-sections : (v pages entry mode : ℕ) (ss : List Section) (cs : List CapEntry) → is_version v ≡ true
    → is_good_header v pages entry mode ≡ true → length ss ≤ 64
    → build_fault v pages entry mode ss cs
    ≡ option_or (sections_fault pages 0 ss)
    (if leb (length cs) (most_capabilities_of v) then capabilities_fault pages 0 cs else Some L15)
unfolding build_fault
build_fault-sections v pages entry mode ss cs version header few =
    rw (version, header, le-leb (length ss) 64 few)
    (first_fault-append (sections_checks pages 0 ss) ((leb (length cs) (most_capabilities_of v), L15) ∷ capabilities_checks pages 0 cs))

-- and what has none in any part has none
pub no_build_fault : (v pages entry mode : ℕ) (ss : List Section) (cs : List CapEntry) → GoodParts v pages entry mode ss cs
    → build_fault v pages entry mode ss cs ≡ None
no_build_fault v pages entry mode ss cs good =
    build_fault-sections v pages entry mode ss cs good.version good.header good.few_sections
    ∙ rw (good.sections, le-leb (length cs) (most_capabilities_of v) good.few_capabilities) good.capabilities

-- the parts of an image
pub image_parts : (i : Image) → IsImage i → GoodParts i.version i.pages i.entry (mode_number i.mode) i.sections i.capabilities
image_parts i valid = build_parts i.version i.pages i.entry (mode_number i.mode) i.sections i.capabilities valid

pub AllInRam-image : (i : Image) → IsImage i → AllInRam i.pages i.sections
AllInRam-image i valid = AllInRam-sections i.pages 0 i.sections (image_parts i valid).sections

pub AreGoodCapabilities-image : (i : Image) → IsImage i → AreGoodCapabilities i.pages i.capabilities
AreGoodCapabilities-image i valid = AreGoodCapabilities-list i.pages 0 i.capabilities (image_parts i valid).capabilities

-- the entry is a multiple of 4
pub entry_aligned : (i : Image) → IsImage i → i.entry % 4 ≡ 0
unfolding is_good_header
entry_aligned i valid = eqb-true _ _ (and_parts _ _ (and_parts _ _ (and_parts _ _ (image_parts i valid).header).0).1).0

-- no version allows more pages than RAM has
pub most_pages_of-most : (v : ℕ) → most_pages_of v ≤ most_pages
most_pages_of-most v = elim (cases_eq v 1) [
  | inl one ↦ rw (eq-eqb v 1 one) (lit≤ tt)
  | inr other ↦ rw (ne_eqb v 1 other) (lit≤ tt)
]

-- the numbers of a good header: pages of 1 to the most, an entry with four bytes in RAM, a mode of 0 or 1
pub header_ranges : (v pages entry mode : ℕ) → is_good_header v pages entry mode ≡ true
    → (pages ≤ most_pages) × (entry + 4 ≤ ram_end pages) × (mode ≤ 1)
unfolding is_good_header
header_ranges v pages entry mode good =
    let p = and_parts _ _ good in
    let q = and_parts _ _ p.0 in
    let most : pages ≤ most_pages_of v = leb-true _ _ (and_parts _ _ q.0).1 in
    let below : most_pages_of v ≤ most_pages = most_pages_of-most v in
    (omega (arith, most, below), leb-true _ _ (and_parts _ _ (and_parts _ _ q.1).1).1, leb-true _ _ p.1)

-- a header of version 2 with no more pages than version 1 allows is one of version 1
pub good_header-version_1 : (pages entry mode : ℕ) → is_good_header 2 pages entry mode ≡ true → pages ≤ most_pages_version_1
    → is_good_header 1 pages entry mode ≡ true
unfolding is_good_header
good_header-version_1 pages entry mode good few =
    let p = and_parts _ _ good in
    let q = and_parts _ _ p.0 in
    let some = (and_parts _ _ q.0).0 in
    and_from _ _ (and_from _ _ (and_from _ _ some (le-leb _ _ few)) q.1) p.1

-- a mode of 0 or 1 is the number of its truth value
pub mode_again : (mode : ℕ) → mode ≤ 1 → mode_number (eqb mode 1) ≡ mode
mode_again mode small = elim (cases_eq mode 1) [
  | inl one ↦ rw (eq-eqb mode 1 one) (sym one)
  | inr other ↦ rw (ne_eqb mode 1 other) (let zero : mode ≡ 0 = omega arith in sym zero)
]

-- what has no fault makes an image
pub IsImage-image_of : (v pages entry mode : ℕ) (ss : List Section) (cs : List CapEntry) → build_fault v pages entry mode ss cs ≡ None
    → IsImage (image_of v pages entry mode ss cs)
IsImage-image_of v pages entry mode ss cs none =
    let small = (header_ranges v pages entry mode (build_parts v pages entry mode ss cs none).header).2 in
    rw (mode_again mode small) none

-- an image has at most 64 sections
pub few_sections : (i : Image) → IsImage i → length i.sections ≤ 64
few_sections i valid = (image_parts i valid).few_sections

-- a version is 1 or 2
pub version-small : (v : ℕ) → is_version v ≡ true → v ≤ 2
version-small v some =
    elim (cases_eq v 1) [
      | inl one ↦ omega arith
      | inr other ↦ (let two = eqb-true v 2 (rw (ne_eqb v 1 other) at some) in omega (arith, two))
    ]

-- and at most 1024 capabilities
pub few_capabilities : (i : Image) → IsImage i → length i.capabilities ≤ 1024
few_capabilities i valid =
    let few = (image_parts i valid).few_capabilities in
    elim (cases_eq i.version 1) [
      | inl one ↦ (let none : length i.capabilities ≤ 0 = rw (eq-eqb i.version 1 one) at few in omega (arith, none))
      | inr other ↦ (rw (ne_eqb i.version 1 other) at few)
    ]

-- and at least one page
pub pages_some : (v pages entry mode : ℕ) → is_good_header v pages entry mode ≡ true → 1 ≤ pages
unfolding is_good_header
pages_some v pages entry mode good =
    let p = and_parts _ _ good in
    let q = and_parts _ _ p.0 in
    leb-true _ _ (and_parts _ _ q.0).0
