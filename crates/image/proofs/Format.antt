-- Each part of an image, and the whole, read and spelt as inverses of each other.
use Rattle.std.proofs.Common.{◌≡◌, ℕ, suc, ◌≤◌, Bool, true, false, cond, eqb, List, [], ◌∷◌, ◌++◌, length, drop, take, None}
use Rattle.std.proofs.Common.{Result, Ok, Err, refl, sym, ap, subst, ◌∙◌, append-nil, arith, inl, inr}
use Rattle.std.specs.List.{flat_map}
use lib.Pointwise.{bytes_decides}
use Rattle.std.proofs.lemmas.Bool.{cases_eq, eq-eqb, ne_eqb, leb-true, le-leb}
use Rattle.std.proofs.lemmas.List.{take-append-drop}
use Rattle.byteorder.specs.Endian.{little_bytes}
use Rattle.byteorder.specs.Numbers.{little_number-reads_back}
use Rattle.base.specs.Ram.{most_pages}
use Rattle.base.specs.FirstFault.{first_fault}
use Rattle.base.specs.FirstFaultLaws.{first_fault-cons, first_fault-none}
use Rattle.image.specs.declared.fault.ImageFault.{ImageFault}
use Rattle.image.specs.declared.fault.ImageFault.TheVariants.{L1, L2, L8, L9, L15}
use Rattle.image.specs.declared.cap_entry.CapEntry.{CapEntry}
use Rattle.image.specs.declared.parts.Header.{Header}
use Rattle.image.specs.declared.parts.Span.{Span}
use Rattle.image.specs.Image.{Section, Image, IsImage, is_version, is_good_header, span_fault, sections_fault, mode_number}
use Rattle.image.specs.Image.{capability_fault, capabilities_fault, most_capabilities_of, build_fault}
use Rattle.image.specs.Grammar.{AreBytes, magic, number_at, header_bytes, span_bytes, section_bytes, capability_bytes}
use Rattle.image.specs.Grammar.{capabilities_bytes, spelling, taken, both, header_of, header_checks, header_fault, header_at, span_of}
use Rattle.image.specs.Grammar.{span_at}
use Rattle.image.specs.Grammar.{section_at, section_end, sections_at, capability_in, capability_at, entries_at, count_fault, count_at}
use Rattle.image.specs.Grammar.{place_of, capabilities_at, headed, rest_at, image_at, reading}
use Rattle.image.specs.ImageLaws.{sections_fault-none, no_fault_cons, in_ram, good_capability, capabilities_fault-none, no_capability_fault}
use Rattle.image.specs.ImageLaws.{image_parts, no_build_fault, header_ranges, mode_again, IsImage-image_of, version-small}
use Rattle.image.proofs.Numbers.{fields_back}
use Rattle.image.proofs.Inverse.{Inverse, bind_ok, ok_is, taken_inverse, checked_inverse, both_inverse, each_inverse, nothing}

-- ---- the header

abbrev header_text : Header → List ℕ
header_text h = header_bytes h.version h.pages h.entry h.count h.mode

abbrev pub IsGoodHeader : Header → Type 0
IsGoodHeader h = first_fault (header_checks h) ≡ None

-- what the checks of a header say
pub record HeaderParts (h : Header) : Type 0 where
  pub version : is_version h.version ≡ true
  pub good : is_good_header h.version h.pages h.entry h.mode ≡ true
  pub few : h.count ≤ 64

pub header_parts : (h : Header) → IsGoodHeader h → HeaderParts h
header_parts h none =
    let all = first_fault-none (header_checks h) none in
    record { version = all.0; good = all.1.0; few = leb-true _ _ all.1.1.0 }

header_is : (a b : Header) → a.version ≡ b.version → a.pages ≡ b.pages → a.entry ≡ b.entry → a.count ≡ b.count → a.mode ≡ b.mode
    → a ≡ b
header_is a b v p e c m = λ i. record { version = v i; pages = p i; entry = e i; count = c i; mode = m i }

header_again : (h : Header) → IsGoodHeader h
    → (length (header_text h) ≡ 32) × (header_fault (header_text h) ≡ None) × (header_of (header_text h) ≡ h)
unfolding header_bytes header_fault
header_again h none =
    let parts = header_parts h none in
    let ranges = header_ranges h.version h.pages h.entry h.mode parts.good in
    let small = version-small h.version parts.version in
    let same : header_of (header_text h) ≡ h = header_is (header_of (header_text h)) h
    (little_number-reads_back 4 h.version [] (omega (arith, small))) (little_number-reads_back 4 h.pages [] (omega (arith, ranges.0)))
    (little_number-reads_back 8 h.entry [] (omega (arith, ranges.0, ranges.1)))
    (little_number-reads_back 4 h.count [] (omega (arith, parts.few))) (little_number-reads_back 4 h.mode [] (omega (arith, ranges.2))) in
    (refl, ap (λ q. first_fault (header_checks q)) same ∙ none, same)

header_respelt : (bytes : List ℕ) → AreBytes bytes → length bytes ≡ 32 → header_fault bytes ≡ None → bytes ≡ header_text (header_of bytes)
unfolding header_bytes header_fault
header_respelt bytes fits len none =
    let begins : magic ≡ take 8 bytes =
    (bytes_decides magic (take 8 bytes)).0 (first_fault-cons _ L2 (header_checks (header_of bytes)) none).0 in
    sym (take-append-drop 8 bytes) ∙ ap (λ (l : List ℕ). l ++ drop 8 bytes) (sym begins)
    ∙ ap (λ (l : List ℕ). magic ++ l) (fields_back (false ∷ false ∷ true ∷ false ∷ false ∷ []) 8 bytes fits len)

header_fine : (bytes : List ℕ) → header_fault bytes ≡ None → IsGoodHeader (header_of bytes)
unfolding header_fault
header_fine bytes none = (first_fault-cons _ L2 (header_checks (header_of bytes)) none).1

pub header_inverse : Inverse header_at header_text IsGoodHeader
unfolding header_at
header_inverse = checked_inverse 32 L1 header_fault header_of header_text IsGoodHeader header_again header_fine header_respelt

-- ---- the parts of RAM's pages

abbrev AreGoodEntries : ℕ → ℕ → List CapEntry → Type 0
AreGoodEntries pages version cs = (count_fault version (length cs) ≡ None) × (capabilities_fault pages 0 cs ≡ None)

module _ (pages : ℕ) (small : pages ≤ most_pages) where
  -- a section

  abbrev IsGoodSpan : ℕ → Span → Type 0
  IsGoodSpan free s = span_fault pages free s.address s.size ≡ None

  abbrev span_text : Span → List ℕ
  span_text s = span_bytes s.address s.size

  span_is : (a b : Span) → a.address ≡ b.address → a.size ≡ b.size → a ≡ b
  span_is a b p q = λ i. record { address = p i; size = q i }

  span_again : (free : ℕ) (s : Span) → IsGoodSpan free s
      → (length (span_text s) ≡ 16)
      × (span_fault pages free (span_of (span_text s)).address (span_of (span_text s)).size ≡ None)
      × (span_of (span_text s) ≡ s)
  unfolding span_bytes
  span_again free s good =
      let inside = (in_ram pages free s.address s.size good).1 in
      let same : span_of (span_text s) ≡ s = span_is (span_of (span_text s)) s
      (little_number-reads_back 8 s.address [] (omega (arith, inside, small)))
      (little_number-reads_back 8 s.size [] (omega (arith, inside, small))) in
      (refl, ap (λ (q : Span). span_fault pages free q.address q.size) same ∙ good, same)

  span_respelt : (bytes : List ℕ) → AreBytes bytes → length bytes ≡ 16 → bytes ≡ span_text (span_of bytes)
  unfolding span_bytes
  span_respelt bytes fits len = fields_back (true ∷ true ∷ []) 0 bytes fits len

  span_inverse : (free : ℕ) → Inverse (span_at pages free) span_text (IsGoodSpan free)
  unfolding span_at
  span_inverse free =
      checked_inverse 16 L8 (λ bytes. span_fault pages free (span_of bytes).address (span_of bytes).size) span_of span_text
      (IsGoodSpan free) (span_again free) (λ bytes none. none) (λ bytes fits len none. span_respelt bytes fits len)

  abbrev IsGoodSection : ℕ → Section → Type 0
  IsGoodSection free s = span_fault pages free s.address (length s.bytes) ≡ None

  section_inverse : (free : ℕ) → Inverse (section_at pages free) section_bytes (IsGoodSection free)
  unfolding section_at
  section_inverse free =
      both_inverse (span_at pages free) (λ span. taken span.size L8) (λ span body. record { address = span.address; bytes = body })
      span_text (λ span body. body) section_bytes (IsGoodSpan free) (λ span body. length body ≡ span.size) (IsGoodSection free)
      (span_inverse free) (λ span good. taken_inverse span.size L8)
      (λ s good. (record { address = s.address; size = length s.bytes }, s.bytes, good, refl, refl, refl))
      (λ span body good len. (
        ap (span_fault pages free span.address) len ∙ good,
        ap (λ n. span_bytes span.address n ++ body) len,
      ))

  sections_inverse : (n free : ℕ) → Inverse (sections_at pages n free) (flat_map section_bytes)
      (λ (ss : List Section). (length ss ≡ n) × (sections_fault pages free ss ≡ None))
  sections_inverse =
      each_inverse (section_at pages) section_end section_bytes IsGoodSection (λ free ss. sections_fault pages free ss ≡ None)
      section_inverse (λ free. refl) (sections_fault-none pages) (no_fault_cons pages)

  -- a capability

  abbrev IsGoodEntry : ℕ → CapEntry → Type 0
  IsGoodEntry before c = capability_fault pages before c ≡ None

  capability_is : (a b : CapEntry) → a.place ≡ b.place → a.base ≡ b.base → a.length ≡ b.length → a.perms ≡ b.perms → a.flag ≡ b.flag
      → a ≡ b
  capability_is a b p q l r f = λ i. record { place = p i; base = q i; length = l i; perms = r i; flag = f i }

  capability_again : (before : ℕ) (c : CapEntry) → IsGoodEntry before c
      → (length (capability_bytes c) ≡ 32) × (capability_fault pages before (capability_in (capability_bytes c)) ≡ None)
      × (capability_in (capability_bytes c) ≡ c)
  unfolding capability_bytes
  capability_again before c none =
      let good = good_capability pages before c none in
      let same : capability_in (capability_bytes c) ≡ c = capability_is (capability_in (capability_bytes c)) c
      (little_number-reads_back 8 c.place [] (omega (arith, good.inside, small)))
      (little_number-reads_back 8 c.base [] (omega (arith, good.base_fits)))
      (little_number-reads_back 8 c.length [] (omega (arith, good.length_fits)))
      (little_number-reads_back 4 c.perms [] (omega (arith, good.perms_fit)))
      (little_number-reads_back 4 c.flag [] (omega (arith, good.flag_fits))) in
      (refl, ap (capability_fault pages before) same ∙ none, same)

  capability_respelt : (bytes : List ℕ) → AreBytes bytes → length bytes ≡ 32 → bytes ≡ capability_bytes (capability_in bytes)
  unfolding capability_bytes
  capability_respelt bytes fits len = fields_back (true ∷ true ∷ true ∷ false ∷ false ∷ []) 0 bytes fits len

  entries_inverse : (n before : ℕ) → Inverse (entries_at pages n before) (flat_map capability_bytes)
      (λ (cs : List CapEntry). (length cs ≡ n) × (capabilities_fault pages before cs ≡ None))
  unfolding capability_at
  entries_inverse =
      each_inverse (capability_at pages) place_of capability_bytes IsGoodEntry
      (λ before cs. capabilities_fault pages before cs ≡ None)
      (λ before. checked_inverse 32 L8 (λ bytes. capability_fault pages before (capability_in bytes)) capability_in capability_bytes
      (IsGoodEntry before) (capability_again before) (λ bytes none. none) (λ bytes fits len none. capability_respelt bytes fits len))
      (λ before. refl) (capabilities_fault-none pages) (no_capability_fault pages)

  -- the count of capabilities, and capabilities

  few_of : (version n : ℕ) → count_fault version n ≡ None → n ≤ most_capabilities_of version
  few_of version n none = leb-true _ _ (first_fault-cons _ L15 [] none).0

  most-few : (version : ℕ) → most_capabilities_of version ≤ 1024
  most-few version = elim (cases_eq version 1) [
    | inl one ↦ rw (eq-eqb version 1 one) (omega arith)
    | inr other ↦ rw (ne_eqb version 1 other) (omega arith)
  ]

  count_inverse : (version : ℕ) → Inverse (count_at version) (little_bytes 4) (λ n. count_fault version n ≡ None)
  unfolding count_at
  count_inverse version =
      checked_inverse 4 L8 (λ bytes. count_fault version (number_at 0 4 bytes)) (number_at 0 4) (little_bytes 4)
      (λ n. count_fault version n ≡ None)
      (λ n none.
      let few = few_of version n none in
      let same : number_at 0 4 (little_bytes 4 n) ≡ n = little_number-reads_back 4 n [] (omega (arith, few, most-few version)) in
      (refl, ap (count_fault version) same ∙ none, same))
      (λ bytes none. none)
      (λ bytes fits len none. fields_back (false ∷ []) 0 bytes fits len)

  none_inverse : (version : ℕ) → eqb version 1 ≡ true
      → Inverse (λ bytes. Ok ([], bytes)) (λ (cs : List CapEntry). []) (AreGoodEntries pages version)
  none_inverse version one =
      record {
        again = λ cs rest good.
            let few : length cs ≤ 0 = rw one at (few_of version (length cs) good.0) in
            rw (nothing cs (omega (arith, few))) refl;
        good = λ bytes cs rest e.
            let p : ([], bytes) ≡ (cs, rest) = ok_is ([], bytes) (cs, rest) e in
            subst (λ (q : List CapEntry × List ℕ). AreGoodEntries pages version q.0) p (rw one refl, refl);
        back = λ bytes cs rest fits e.
            let p : ([], bytes) ≡ (cs, rest) = ok_is ([], bytes) (cs, rest) e in
            ap (λ (q : List CapEntry × List ℕ). q.1) p;
      }

  counted_inverse : (version : ℕ)
      → Inverse (both (count_at version) (λ count. entries_at pages count 0) (λ count cs. cs))
      (λ (cs : List CapEntry). little_bytes 4 (length cs) ++ flat_map capability_bytes cs) (AreGoodEntries pages version)
  counted_inverse version =
      both_inverse (count_at version) (λ count. entries_at pages count 0) (λ count cs. cs) (little_bytes 4) (λ n. flat_map capability_bytes)
      (λ (cs : List CapEntry). little_bytes 4 (length cs) ++ flat_map capability_bytes cs) (λ n. count_fault version n ≡ None)
      (λ n (cs : List CapEntry). (length cs ≡ n) × (capabilities_fault pages 0 cs ≡ None)) (AreGoodEntries pages version)
      (count_inverse version) (λ n few. entries_inverse n 0)
      (λ cs good. (length cs, cs, good.0, (refl, good.1), refl, refl))
      (λ n cs few good. (
        (ap (count_fault version) good.0 ∙ few, good.1),
        ap (λ k. little_bytes 4 k ++ flat_map capability_bytes cs) good.0,
      ))

  by_version : (version : ℕ) (one : Bool) → eqb version 1 ≡ one
      → Inverse (cond one (λ bytes. Ok ([], bytes)) (both (count_at version) (λ count. entries_at pages count 0) (λ count cs. cs)))
      (λ (cs : List CapEntry). cond one [] (little_bytes 4 (length cs) ++ flat_map capability_bytes cs)) (AreGoodEntries pages version)
  by_version version true one = none_inverse version one
  by_version version false other = counted_inverse version

  capabilities_inverse : (version : ℕ) → Inverse (capabilities_at version pages) (capabilities_bytes version) (AreGoodEntries pages version)
  unfolding capabilities_at capabilities_bytes
  capabilities_inverse version = by_version version (eqb version 1) refl

-- ---- the image

abbrev AreGoodParts : Header → List Section × List CapEntry → Type 0
AreGoodParts h p =
    ((length p.0 ≡ h.count) × (sections_fault h.pages 0 p.0 ≡ None)) × AreGoodEntries h.pages h.version p.1

abbrev rest_text : Header → List Section × List CapEntry → List ℕ
rest_text h p = flat_map section_bytes p.0 ++ capabilities_bytes h.version p.1

few_pages : (h : Header) → IsGoodHeader h → h.pages ≤ most_pages
few_pages h good = (header_ranges h.version h.pages h.entry h.mode (header_parts h good).good).0

pub rest_inverse : (h : Header) → IsGoodHeader h → Inverse (rest_at h) (rest_text h) (AreGoodParts h)
rest_inverse h good =
    let small = few_pages h good in
    both_inverse (sections_at h.pages h.count 0) (λ ss. capabilities_at h.version h.pages) (λ ss cs. (ss, cs)) (flat_map section_bytes)
    (λ ss. capabilities_bytes h.version) (rest_text h) (λ (ss : List Section). (length ss ≡ h.count) × (sections_fault h.pages 0 ss ≡ None))
    (λ ss. AreGoodEntries h.pages h.version) (AreGoodParts h)
    (sections_inverse h.pages small h.count 0) (λ ss are. capabilities_inverse h.pages small h.version)
    (λ p are. (p.0, p.1, are.0, are.1, refl, refl)) (λ ss cs one other. ((one, other), refl))

-- parts that are good have no fault
no_fault : (h : Header) (p : List Section × List CapEntry) → IsGoodHeader h → AreGoodParts h p
    → build_fault h.version h.pages h.entry h.mode p.0 p.1 ≡ None
no_fault h p good are =
    let parts = header_parts h good in
    no_build_fault h.version h.pages h.entry h.mode p.0 p.1 (record {
      version = parts.version;
      header = parts.good;
      few_sections = omega (arith, parts.few, are.0.0);
      sections = are.0.1;
      few_capabilities = leb-true _ _ (first_fault-cons _ L15 [] are.1.0).0;
      capabilities = are.1.1;
    })

pub no_fault_read : (here there last : List ℕ) (h : Header) (p : List Section × List CapEntry) (rest : List ℕ)
    → header_at here ≡ Ok (h, rest) → rest_at h there ≡ Ok (p, last) → build_fault h.version h.pages h.entry h.mode p.0 p.1 ≡ None
no_fault_read here there last h p rest e f =
    let good = header_inverse.good here h rest e in
    no_fault h p good ((rest_inverse h good).good there p last f)

abbrev header_from : Image → Header
header_from i = record { version = i.version; pages = i.pages; entry = i.entry; count = length i.sections; mode = mode_number i.mode }

number_mode : (mode : Bool) → eqb (mode_number mode) 1 ≡ mode
number_mode true = refl
number_mode false = refl

good_from : (i : Image) → IsImage i → IsGoodHeader (header_from i)
good_from i valid =
    let parts = image_parts i valid in
    rw (parts.version, parts.header, le-leb _ _ parts.few_sections) refl

apart : (i : Image) → IsImage i
    → (h : Header) × (p : List Section × List CapEntry) × IsGoodHeader h × AreGoodParts h p × (headed h p.0 p.1 ≡ i)
    × (spelling i ≡ header_text h ++ rest_text h p)
unfolding spelling
apart i valid =
    let parts = image_parts i valid in
    let few : count_fault i.version (length i.capabilities) ≡ None = rw (le-leb _ _ parts.few_capabilities) refl in (
      header_from i,
      (i.sections, i.capabilities),
      good_from i valid,
      ((refl, parts.sections), (few, parts.capabilities)),
      ap (λ m. record i { mode = m }) (number_mode i.mode),
      refl,
    )

together : (h : Header) (p : List Section × List CapEntry) → IsGoodHeader h → AreGoodParts h p
    → IsImage (headed h p.0 p.1) × (spelling (headed h p.0 p.1) ≡ header_text h ++ rest_text h p)
unfolding spelling
together h p good are =
    let small = (header_ranges h.version h.pages h.entry h.mode (header_parts h good).good).2 in (
      IsImage-image_of h.version h.pages h.entry h.mode p.0 p.1 (no_fault h p good are),
      ap (λ n. header_bytes h.version h.pages h.entry n (mode_number (eqb h.mode 1)) ++ rest_text h p) are.0.0
          ∙ ap (λ n. header_bytes h.version h.pages h.entry h.count n ++ rest_text h p) (mode_again h.mode small),
    )

pub image_inverse : Inverse image_at spelling IsImage
unfolding image_at
image_inverse =
    both_inverse header_at rest_at (λ h p. headed h p.0 p.1) header_text rest_text spelling IsGoodHeader AreGoodParts IsImage
    header_inverse rest_inverse apart together

-- ---- the whole

pub reading_again : (bytes : List ℕ) (i : Image) → IsImage i → bytes ≡ spelling i → reading bytes ≡ Ok i
unfolding reading
reading_again bytes i valid e =
    rw (ap image_at (e ∙ sym (append-nil (spelling i))) ∙ image_inverse.again i [] valid) refl

abbrev found : Image × List ℕ → Result (Image × List ℕ) ImageFault
found p = Ok p

at_end : (image : Image) (rest : List ℕ) (i : Image) → cond (eqb (length rest) 0) (Ok image) (Err L9) ≡ Ok i
    → found (image, rest) ≡ found (i, [])
at_end image [] i e = cc
at_end image (x ∷ rest) i e = let f = rw (ne_eqb (suc (length rest)) 0 (λ z. omega arith)) at e in absurd cc

pub reading_back : (bytes : List ℕ) (i : Image) → AreBytes bytes → reading bytes ≡ Ok i → IsImage i × (bytes ≡ spelling i)
unfolding reading
reading_back bytes i fits e =
    let a = bind_ok (image_at bytes) (λ image. cond (eqb (length image.1) 0) (Ok image.0) (Err L9)) i e in
    let f : image_at bytes ≡ found (i, []) = a.1 ∙ at_end a.0.0 a.0.1 i a.2 in
    (image_inverse.good bytes i [] f, image_inverse.back bytes i [] fits f ∙ append-nil (spelling i))

-- no spelling begins another
pub one_of : (i j : Image) (rest : List ℕ) → IsImage i → IsImage j → spelling i ++ rest ≡ spelling j → (i ≡ j) × (rest ≡ [])
one_of i j rest one other e =
    let p = ok_is (i, rest) (j, []) (sym (image_inverse.again i rest one) ∙ ap image_at (e ∙ sym (append-nil (spelling j)))
    ∙ image_inverse.again j [] other) in
    (ap (λ (q : Image × List ℕ). q.0) p, ap (λ (q : Image × List ℕ). q.1) p)
