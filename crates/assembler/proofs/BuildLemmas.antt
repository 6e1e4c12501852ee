-- Of lines without a fault an image can be built.
use Rattle.std.proofs.Common.{◌≡◌, ℕ, ◌+◌, ◌*◌, ◌%◌, ◌^◌, ◌<◌, ◌≤◌, ◌⊎◌, inl, inr, if◌then◌else◌, Bool, true, false, not, ◌&&◌, ◌||◌}
use Rattle.std.proofs.Common.{◌==◌, nat_lt, nat_le, ℤ, List}
use Rattle.std.proofs.Common.{[], ◌∷◌, ◌++◌, length, length-append, zero, suc, Option, Some, None, is_some, is_none, refl, sym, ap, ◌∙◌}
use Rattle.std.proofs.Common.{subst, arith}
use Rattle.std.specs.Int.{bytes_low_first}
use Rattle.std.specs.List.{flat_map}
use Rattle.std.proofs.lemmas.List.{length-replicate}
use Rattle.std.proofs.lemmas.Bool.Decides.{nat_tests}
use Rattle.base.specs.FirstFault.{first_fault}
use Rattle.base.specs.Ram.{ram_base, ram_end, most_pages, most_pages_version_1}
use Rattle.cap_bounds.specs.Rounding.{is_exact}
use Rattle.image.specs.declared.cap_entry.CapEntry.{CapEntry}
use Rattle.image.specs.Image.{Section, is_good_header, is_exact_range, sections_fault, build_fault}
use Rattle.image.specs.ImageLaws.{IsGoodCapability, GoodParts, no_build_fault, header_ranges, good_header-version_1}
use Rattle.asm_lines.specs.declared.parsed.Directive.{Directive}
use Rattle.asm_lines.specs.declared.parsed.Statement.{Statement as Read}
use Rattle.asm_lines.specs.declared.parsed.Statement.TheVariants as read
use Rattle.asm_lines.specs.Seen.{seen_statement}
use Rattle.assembler.specs.Capabilities.{capability_in, is_inexact, part_value, capability_at, entered, with_capability}
use Rattle.assembler.specs.Sound.{ArePartsKnown, IsPutThere}
use Rattle.assembler.specs.Text.{version_for, version_of}
use Rattle.assembler.proofs.CapabilityLemmas.{held-grown, held-entered, length-entered, ascending-entered, ascending-none, taken-own}
use Rattle.assembler.proofs.CapabilityLemmas.{free-past}
use Rattle.asm_lines.specs.Text.{pieces_of}
use Rattle.asm_lines.specs.Operand.{wrapped}
use Rattle.asm_lines.specs.Number.{expression_of}
use Rattle.asm_lines.specs.Statement.{Statement, instruction, setting, origin, contents, Instruction, row, load, pages, mode, entry, Data}
use Rattle.asm_lines.specs.declared.parsed.Directive.TheVariants.{Zeros, Values, Ascii, Capability}
use Rattle.asm_lines.specs.Statement.{item, expression_or_nought}
use Rattle.asm_lines.specs.Line.{Line}
use Rattle.assembler.specs.Places.{Symbols, zero_count, instruction_size, data_size, size_at, end_of, end_after}
use Rattle.assembler.specs.Values.{value_of, known_and, is_entry, has_unknown_name, is_out_of_reach}
use Rattle.assembler.specs.Bytes.{or_zero, value_at, insn_bytes, value_bytes, instruction_bytes, data_bytes, bytes_at}
use Rattle.assembler.specs.Faults.{Assembled, given, page_count, is_misplaced, is_statement_misplaced, line_fault, misplaced_bytes}
use Rattle.assembler.specs.Faults.{is_taken}
use Rattle.assembler.specs.Faults.{is_instruction, closed, filled, empty_at, with_bytes, with_statement, with_statement_of, assembled_after}
use Rattle.assembler.specs.Faults.{opening}
use Rattle.assembler.specs.FaultLaws.{fault_in_text}
use Rattle.assembler.specs.declared.misplaced.Misplaced.TheVariants.{BelowRam, PastRam, Taken, TooManySections, CodeAskew, CapabilityAskew}
use Rattle.assembler.specs.declared.misplaced.Misplaced.TheVariants.{TooManyCapabilities}
use Rattle.assembler.specs.Buildable.{is_paged, is_paged_or_none, is_paged_line, is_paged_unless, IsUnbegun, IsBuildable, AreAscending}
use Rattle.assembler.specs.Buildable.{AreHeld}
use Rattle.assembler.proofs.TestLemmas.{or-false, and-first, and-second, and-rest, not-false, not-below, true-false}
use Rattle.assembler.proofs.SectionLemmas.{closed-good, IsFree, grown}
use Rattle.assembler.proofs.SoundLemmas.{IsFaultless, statement_fault-none, line_fault-none, in-range}

no-byte : (bytes : List ℕ) → bytes ≡ [] → 0 < length bytes → ⊥
no-byte [] e h = omega arith
no-byte (b ∷ bs) e h = cc

room-left : (n m : ℕ) → ((n == 0) && nat_le 64 m) ≡ false → n ≡ 0 → m < 64
room-left n m h e = grind (arith, nat_tests)

-- ---- the number of bytes that a statement places

length-low : (n i x : ℕ) → length (bytes_low_first i n x) ≡ n
length-low zero i x = refl
length-low (suc n) i x = ap (λ k. suc k) (length-low n (suc i) x)

length-values : (symbols : Symbols) (here size : ℕ) (ps : List (List ℕ))
    → length (flat_map (value_bytes symbols here size) ps) ≡ size * length ps
unfolding value_bytes
length-values symbols here size [] = omega arith
length-values symbols here size (p ∷ ps) =
    omega (
      arith,
      length-append (value_bytes symbols here size p) (flat_map (value_bytes symbols here size) ps),
      length-low size 0
          (wrapped (value_at symbols here (expression_or_nought (expression_of p)))),
      length-values symbols here size ps,
    )

-- it places as many bytes as it takes
instruction-length : (symbols : Symbols) (here : ℕ) (i : Instruction) → length (instruction_bytes symbols here i) ≡ instruction_size i
unfolding insn_bytes
instruction-length symbols here (row i target) = refl
instruction-length symbols here (load capability rd value) = refl

data-length : (symbols : Symbols) (here : ℕ) (d : Data) → length (data_bytes symbols here d) ≡ data_size d here
data-length symbols here (item (Zeros f) n operands) = length-replicate (zero_count (Zeros f) here n) 0
data-length symbols here (item (Values size) n operands) = length-values symbols here size (pieces_of operands)
data-length symbols here (item Ascii n between) = refl
data-length symbols here (item Capability n operands) = length-replicate {A = ℕ} 16 0

instruction-placed : (symbols : Symbols) (here : ℕ) (i : Instruction)
    → length (bytes_at symbols here (instruction i)) ≡ size_at (instruction i) here
unfolding bytes_at size_at
instruction-placed symbols here i = instruction-length symbols here i

data-placed : (symbols : Symbols) (here : ℕ) (d : Data) → length (bytes_at symbols here (contents d)) ≡ size_at (contents d) here
unfolding bytes_at size_at
data-placed symbols here d = data-length symbols here d

-- ---- headers

good-mode : (v count start m : ℕ) → m ≤ 1 → is_good_header v count start 0 ≡ true → is_good_header v count start m ≡ true
unfolding is_good_header
good-mode v count start m h g = grind (arith, nat_tests)

good-base : (count : ℕ) → (nat_le 1 count && nat_le count most_pages) ≡ true → is_good_header 2 count ram_base 0 ≡ true
unfolding is_good_header
good-base count h = grind (arith, nat_tests)

good-entry : (count : ℕ) (value : Option ℤ) → is_none value ≡ false → known_and (λ v. not (is_entry count v)) value ≡ false
    → is_good_header 2 count (wrapped (or_zero value)) 0 ≡ true
good-entry count None h g = cc
good-entry count (Some v) h g = and-second _ _ (not-false (is_entry count v) g)

-- ---- what a statement without a fault leaves

-- the place and the labels after a line
abbrev at-place : Assembled → ℕ → Symbols → Assembled
at-place s end symbols = record s { places = record { place = end; symbols = symbols } }

-- bytes have no place where one of the conditions is false
misplaced-is : (some below past taken many askew : Bool)
    → is_some
    (if some then
    first_fault
    ((not below, BelowRam) ∷ (not past, PastRam) ∷ (not taken, Taken) ∷ (not many, TooManySections) ∷ (not askew, CodeAskew) ∷ [])
    else None)
    ≡ some && (below || (past || (taken || (many || askew))))
misplaced-is false below past taken many askew = refl
misplaced-is true true past taken many askew = refl
misplaced-is true false true taken many askew = refl
misplaced-is true false false true many askew = refl
misplaced-is true false false false true askew = refl
misplaced-is true false false false false true = refl
misplaced-is true false false false false false = refl

granule-is : (aligned many : Bool)
    → is_some (first_fault ((aligned, CapabilityAskew) ∷ (not many, TooManyCapabilities) ∷ [])) ≡ not aligned || many
granule-is false many = refl
granule-is true false = refl
granule-is true true = refl

is-free : (s : Assembled) (n : ℕ) (is_code : Bool) → is_some (misplaced_bytes s s.places.place n is_code) ≡ false → 0 < n
    → IsFree (page_count s) s.done s.current s.places.place n
is-free s n is_code h f =
    let some : nat_lt 0 n ≡ true = grind (arith, nat_tests) in
    let conditions =
    sym (misplaced-is (nat_lt 0 n) (nat_lt s.places.place ram_base) (nat_lt (ram_end (page_count s)) (s.places.place + n))
    (is_taken s.places.place (s.places.place + n) s.done) ((length s.current.bytes == 0) && nat_le 64 (length s.done))
    (is_code && not (s.places.place % 4 == 0))) ∙ h in
    let a = or-false _ _ (and-rest _ _ some conditions) in
    let b = or-false _ _ a.1 in
    let c = or-false _ _ b.1 in
    let d = or-false _ _ c.1 in
    record {
      above = not-below s.places.place ram_base a.0;
      below = not-below (ram_end (page_count s)) (s.places.place + n) b.0;
      apart = c.0;
      few = room-left (length s.current.bytes) (length s.done) d.0;
    }

-- ---- a capability without a fault

multiple-of-16 : (p : ℕ) (more : Bool) → (not (p % 16 == 0) || more) ≡ false → p % 16 ≡ 0
multiple-of-16 p more h = grind (arith, nat_tests)

fewer : (n : ℕ) → nat_le 1024 n ≡ false → n < 1024
fewer n h = grind (arith, nat_tests)

-- what a line with .cap without a fault says
record IsGoodStatement (symbols : Symbols) (s : Assembled) (operands : List ℕ) : Type 0 where
  good : IsGoodCapability (page_count s) (capability_at symbols s.places.place operands)
  free : is_taken s.places.place (s.places.place + 16) s.done ≡ false
  few : length s.capabilities < 1024
  known : ArePartsKnown symbols s.places.place (Some operands)

exact-parts : (symbols : Symbols) (here n : ℕ) (operands : List ℕ) → is_inexact symbols here (contents (item Capability n operands)) ≡ false
    → is_exact_range (part_value symbols here operands 0) (part_value symbols here operands 1) ≡ true
unfolding is_inexact
exact-parts symbols here n operands h = not-false _ h

ends-below : (base size : ℕ) → is_exact_range base size ≡ true → (base + size ≤ 2 ^ 64) × (is_exact base (base + size) ≡ true)
unfolding is_exact_range
ends-below base size h =
    let fits : ((nat_lt base (2 ^ 64) && nat_lt size (2 ^ 64)) && nat_le (base + size) (2 ^ 64)) ≡ true = and-first _ _ h in
    let below : nat_le (base + size) (2 ^ 64) ≡ true = and-second (nat_lt base (2 ^ 64) && nat_lt size (2 ^ 64)) _ fits in
    (grind (arith, nat_tests), and-second _ _ h)

cap-placed : (s : Assembled) (n : ℕ) (operands : List ℕ)
    → is_some (misplaced_bytes s s.places.place (size_at (contents (item Capability n operands)) s.places.place) false) ≡ false
    → IsFree (page_count s) s.done s.current s.places.place 16
unfolding size_at
cap-placed s n operands h = is-free s 16 false h (omega arith)

good-statement : (symbols : Symbols) (s : Assembled) (n : ℕ) (operands : List ℕ)
    → IsFaultless symbols s (contents (item Capability n operands)) → IsGoodStatement symbols s operands
good-statement symbols s n operands f =
    let r = in-range symbols s n operands f in
    let room = cap-placed s n operands f.placed in
    let conditions = sym (granule-is (s.places.place % 16 == 0) (nat_le 1024 (length s.capabilities))) ∙ f.granule in
    let granule = or-false (not (s.places.place % 16 == 0)) (nat_le 1024 (length s.capabilities)) conditions in
    let ends = ends-below _ _ (exact-parts symbols s.places.place n operands f.exact) in
    record {
      good = record {
        aligned = multiple-of-16 s.places.place (nat_le 1024 (length s.capabilities)) conditions;
        above_base = room.above;
        inside = room.below;
        base_fits = omega (arith, r.base);
        length_fits = omega (arith, r.length);
        end_fits = ends.0;
        exact = ends.1;
        perms_fit = omega (arith, r.perms);
        flag_fits = r.flag;
      };
      free = room.apart;
      few = fewer (length s.capabilities) granule.1;
      known = r.known;
    }

place-fits : (count place : ℕ) → count ≤ most_pages → place + 16 ≤ ram_end count → place < 2 ^ 64
place-fits count place h g = omega (arith, h, g)

put-data : (symbols : Symbols) (s : Assembled) (d : Directive) (n : ℕ) (operands : List ℕ) → IsBuildable s
    → IsFaultless symbols s (contents (item d n operands)) → IsPutThere symbols s.places.place (contents (item d n operands))
put-data symbols s (Zeros fill) n operands b f = (tt, tt)
put-data symbols s (Values size) n operands b f = (tt, tt)
put-data symbols s Ascii n operands b f = (tt, tt)
put-data symbols s Capability n operands b f =
    let g = good-statement symbols s n operands f in
    let few = (header_ranges 2 (page_count s) (given ram_base s.entry) 0 b.header).0 in
    let place = place-fits (page_count s) s.places.place few g.good.inside in
    (g.known, (place, omega (arith, g.good.perms_fit), omega (arith, g.good.flag_fits)))

pub put_there : (symbols : Symbols) (s : Assembled) (r : Read) → IsBuildable s → IsFaultless symbols s (seen_statement r)
    → IsPutThere symbols s.places.place (seen_statement r)
put_there symbols s (read.Instruction i) b f = (tt, tt)
put_there symbols s (read.Setting t) b f = (tt, tt)
put_there symbols s (read.Origin n) b f = (tt, tt)
put_there symbols s (read.Data d) b f = put-data symbols s d.directive d.number d.text.now b f

-- ---- what bytes leave

-- the capabilities after a statement
record AreKept (s : Assembled) (bytes : List ℕ) (capabilities : List CapEntry) : Type 0 where
  ascending : AreAscending (page_count s) 0 capabilities
  held : AreHeld (closed s.done (filled s.current bytes)) capabilities
  few : length capabilities ≤ 1024

same-kept : (s : Assembled) (bytes : List ℕ) → IsBuildable s → AreKept s bytes s.capabilities
same-kept s bytes b =
    record {
      ascending = b.ascending;
      held =
          held-grown s.done s.current (filled s.current bytes) s.capabilities refl
          (omega (arith, length-append s.current.bytes bytes)) b.held;
      few = b.few_capabilities;
    }

one-kept : (symbols : Symbols) (s : Assembled) (bytes : List ℕ) (n : ℕ) (operands : List ℕ) → IsBuildable s
    → IsFaultless symbols s (contents (item Capability n operands)) → length bytes ≡ 16
    → AreKept s bytes (entered (capability_at symbols s.places.place operands) s.capabilities)
one-kept symbols s bytes n operands b f e =
    let g = good-statement symbols s n operands f in
    let c = capability_at symbols s.places.place operands in
    let grew = length-append s.current.bytes bytes in
    let same = same-kept s bytes b in
    record {
      ascending =
          ascending-entered (page_count s) 0 (closed s.done s.current) c s.capabilities g.good (omega (arith, g.good.above_base))
          (free-past s.places.place s.done s.current b.place g.free) b.held b.ascending;
      held =
          held-entered (closed s.done (filled s.current bytes)) c s.capabilities
          (taken-own s.places.place s.done (filled s.current bytes) (omega (arith, b.place)) (omega (arith, b.place, grew))) same.held;
      few = omega (arith, g.few, length-entered c s.capabilities);
    }

data-kept : (symbols : Symbols) (s : Assembled) (d : Directive) (n : ℕ) (operands : List ℕ) → IsBuildable s
    → IsFaultless symbols s (contents (item d n operands))
    → AreKept s (bytes_at symbols s.places.place (contents (item d n operands)))
    (with_capability symbols s.places.place (capability_in (contents (item d n operands))) s.capabilities)
unfolding bytes_at
data-kept symbols s (Zeros fill) n operands b f = same-kept s _ b
data-kept symbols s (Values size) n operands b f = same-kept s _ b
data-kept symbols s Ascii n operands b f = same-kept s _ b
data-kept symbols s Capability n operands b f = one-kept symbols s _ n operands b f (length-replicate {A = ℕ} 16 0)

grown-buildable : (s : Assembled) (bytes : List ℕ) (capabilities : List CapEntry) (n end : ℕ) (symbols : Symbols) (is_code : Bool)
    → IsBuildable s → AreKept s bytes capabilities → length bytes ≡ n → end ≡ s.places.place + n
    → is_some (misplaced_bytes s s.places.place n is_code) ≡ false
    → IsBuildable (at-place (record (with_bytes s bytes) { capabilities = capabilities }) end symbols)
grown-buildable s bytes capabilities n end symbols is_code b kept e g h =
    let both : length (s.current.bytes ++ bytes) ≡ length s.current.bytes + n = omega (arith, length-append s.current.bytes bytes) in
    record {
      header = b.header;
      apart = b.apart;
      filled = b.filled;
      few = b.few;
      place = omega (arith, b.place);
      current =
          grown (page_count s) s.done s.current (filled s.current bytes) n s.places.place refl both b.place b.filled
          (is-free s n is_code h) b.current;
      unbegun = λ x. absurd (true-false x);
      ascending = kept.ascending;
      held = kept.held;
      few_capabilities = kept.few;
    }

statement-grown : (symbols new : Symbols) (s : Assembled) (t : Statement) (capabilities : List CapEntry) → IsBuildable s
    → IsFaultless symbols s t → AreKept s (bytes_at symbols s.places.place t) capabilities
    → length (bytes_at symbols s.places.place t) ≡ size_at t s.places.place
    → IsBuildable (at-place (record (with_bytes s (bytes_at symbols s.places.place t)) { capabilities = capabilities })
    (s.places.place + size_at t s.places.place) new)
statement-grown symbols new s t capabilities b f kept e =
    grown-buildable s (bytes_at symbols s.places.place t) capabilities (size_at t s.places.place)
    (s.places.place + size_at t s.places.place) new (is_instruction t) b kept e refl f.placed

pages-buildable : (s : Assembled) (n : ℕ) (new : Symbols) → IsBuildable s → (is_some s.pages || s.begun) ≡ false
    → is_paged (setting (pages n)) ≡ true
    → IsBuildable (at-place (record s { pages = Some n }) s.places.place new)
pages-buildable s n new b h p =
    let u : IsUnbegun s = b.unbegun (or-false _ _ h).1 in
    record {
      header = ap (λ e. is_good_header 2 n (given ram_base e) 0) u.entry ∙ good-base n p;
      apart = ap (sections_fault n 0) u.done;
      filled = b.filled;
      few = b.few;
      place = b.place;
      current = λ f. absurd (no-byte s.current.bytes u.current f);
      unbegun = λ x. record { done = u.done; current = u.current; entry = u.entry; capabilities = u.capabilities };
      ascending = subst (AreAscending n 0) (sym u.capabilities) tt;
      held = b.held;
      few_capabilities = b.few_capabilities;
    }

entry-buildable : (s : Assembled) (e : ℕ) (new : Symbols) → IsBuildable s → is_good_header 2 (page_count s) e 0 ≡ true
    → IsBuildable (at-place (record s { begun = true; entry = Some e }) s.places.place new)
entry-buildable s e new b h =
    record {
      header = h;
      apart = b.apart;
      filled = b.filled;
      few = b.few;
      place = b.place;
      current = b.current;
      unbegun = λ x. absurd (true-false x);
      ascending = b.ascending;
      held = b.held;
      few_capabilities = b.few_capabilities;
    }

org-buildable : (s : Assembled) (n : ℕ) (new : Symbols) → IsBuildable s
    → IsBuildable (at-place (record s { begun = true; done = closed s.done s.current; current = empty_at n }) n new)
org-buildable s n new b =
    let good = closed-good (page_count s) s.done s.current (record { apart = b.apart; filled = b.filled; few = b.few }) b.current in
    record {
      header = b.header;
      apart = good.apart;
      filled = good.filled;
      few = good.few;
      place = omega arith;
      current = λ f. absurd (no-byte [] refl f);
      unbegun = λ x. absurd (true-false x);
      ascending = b.ascending;
      held = b.held;
      few_capabilities = b.few_capabilities;
    }

same-buildable : (s : Assembled) (m : Option Bool) (new : Symbols) → IsBuildable s
    → IsBuildable (at-place (record s { mode = m }) s.places.place new)
same-buildable s m new b =
    record {
      header = b.header;
      apart = b.apart;
      filled = b.filled;
      few = b.few;
      place = b.place;
      current = b.current;
      unbegun = λ x.
          let u = b.unbegun x in record { done = u.done; current = u.current; entry = u.entry; capabilities = u.capabilities };
      ascending = b.ascending;
      held = b.held;
      few_capabilities = b.few_capabilities;
    }

-- a setting takes no byte
at-same-place : (t : Assembled) (place : ℕ) (new : Symbols) → IsBuildable (at-place t place new) → IsBuildable (at-place t (place + 0) new)
at-same-place t place new b = let same : place ≡ place + 0 = omega arith in subst (λ p. IsBuildable (at-place t p new)) same b

statement-buildable : (symbols new : Symbols) (s : Assembled) (t : Statement) → IsBuildable s → IsFaultless symbols s t
    → is_misplaced s t ≡ false → is_paged t ≡ true → IsBuildable (at-place (with_statement symbols s t) (end_of t s.places.place) new)
unfolding size_at end_of has_unknown_name is_out_of_reach
statement-buildable symbols new s (instruction i) b f m p =
    statement-grown symbols new s (instruction i) s.capabilities b f (same-kept s (bytes_at symbols s.places.place (instruction i)) b)
    (instruction-placed symbols s.places.place i)
statement-buildable symbols new s (setting (pages n)) b f m p =
    at-same-place (record s { pages = Some n }) s.places.place new (pages-buildable s n new b m p)
statement-buildable symbols new s (setting (mode x)) b f m p =
    at-same-place (record s { mode = Some x }) s.places.place new (same-buildable s (Some x) new b)
statement-buildable symbols new s (setting (entry e)) b f m p =
    let value = wrapped (value_at symbols s.places.place e) in
    at-same-place (record s { begun = true; entry = Some value }) s.places.place new
    (entry-buildable s value new b
    (good-entry (page_count s) (value_of symbols s.places.place e) (or-false _ _ f.named).0 (or-false _ _ f.near).0))
statement-buildable symbols new s (origin n) b f m p = org-buildable s n new b
statement-buildable symbols new s (contents (item d n operands)) b f m p =
    statement-grown symbols new s (contents (item d n operands))
    (with_capability symbols s.places.place (capability_in (contents (item d n operands))) s.capabilities) b f
    (data-kept symbols s d n operands b f) (data-placed symbols s.places.place (item d n operands))

any-buildable : (symbols new : Symbols) (s : Assembled) (t : Option Statement) → IsBuildable s → is_statement_misplaced s t ≡ false
    → fault_in_text symbols s t ≡ None → is_paged_or_none t ≡ true
    → IsBuildable (at-place (with_statement_of symbols s t) (end_after t s.places.place) new)
any-buildable symbols new s None b m f p = same-buildable s s.mode new b
any-buildable symbols new s (Some t) b m f p = statement-buildable symbols new s t b (statement_fault-none symbols s t f) m p

-- a line without a fault leaves what an image can be built of
after-buildable : (symbols : Symbols) (s : Assembled) (l : Line) → IsBuildable s → line_fault symbols s l ≡ None → is_paged_line l ≡ true
    → IsBuildable (assembled_after symbols s l)
unfolding assembled_after
after-buildable symbols s l b h p =
    let n = line_fault-none symbols s l h in
    any-buildable symbols _ s l.statement b n.timely n.in_text (ap (λ fault. is_paged_unless fault l.statement) (sym n.parsed) ∙ p)

opening-buildable : IsBuildable opening
opening-buildable =
    record {
      header = good-base 1 refl;
      apart = refl;
      filled = tt;
      few = omega arith;
      place = refl;
      current = λ f. absurd (no-byte [] refl f);
      unbegun = λ x. record { done = refl; current = refl; entry = refl; capabilities = refl };
      ascending = tt;
      held = tt;
      few_capabilities = omega arith;
    }

-- in either version
version-kept : (s : Assembled) (m : ℕ) → m ≤ 1 → IsBuildable s → (v : ℕ)
    → version_of s ≡ v → (v ≡ 2) ⊎ ((v ≡ 1) × (length s.capabilities ≡ 0) × (page_count s ≤ most_pages_version_1))
    → GoodParts v (page_count s) (given ram_base s.entry) m (closed s.done s.current) s.capabilities
version-kept s m h b v e (inl two) =
    let good = closed-good (page_count s) s.done s.current (record { apart = b.apart; filled = b.filled; few = b.few }) b.current in
    rw two
    (record {
      version = refl;
      header = good-mode 2 (page_count s) (given ram_base s.entry) m h b.header;
      few_sections = good.few;
      sections = good.apart;
      few_capabilities = b.few_capabilities;
      capabilities = ascending-none (page_count s) 0 s.capabilities b.ascending;
    })
version-kept s m h b v e (inr one) =
    let good = closed-good (page_count s) s.done s.current (record { apart = b.apart; filled = b.filled; few = b.few }) b.current in
    rw one.0
    (record {
      version = refl;
      header =
          good_header-version_1 (page_count s) (given ram_base s.entry) m
          (good-mode 2 (page_count s) (given ram_base s.entry) m h b.header) one.2;
      few_sections = good.few;
      sections = good.apart;
      few_capabilities = omega (arith, one.1);
      capabilities = ascending-none (page_count s) 0 s.capabilities b.ascending;
    })

abbrev version_if : Bool → ℕ
version_if x = if x then 1 else 2

which-version : (size count : ℕ)
    → (version_for size count ≡ 2) ⊎ ((version_for size count ≡ 1) × (count ≡ 0) × (size ≤ most_pages_version_1))
which-version size count =
    elim ((count == 0) && nat_le size most_pages_version_1) as
    (λ x. ((count == 0) && nat_le size most_pages_version_1) ≡ x
    → (version_if x ≡ 2) ⊎ ((version_if x ≡ 1) × (count ≡ 0) × (size ≤ most_pages_version_1))) [
      | true ↦ λ e. inr (refl, grind (arith, nat_tests), grind (arith, nat_tests))
      | false ↦ λ e. inl refl
    ] refl

-- it makes an image
buildable-none : (s : Assembled) (m : ℕ) → m ≤ 1 → IsBuildable s
    → build_fault (version_of s) (page_count s) (given ram_base s.entry) m (closed s.done s.current) s.capabilities ≡ None
buildable-none s m h b =
    no_build_fault (version_of s) (page_count s) (given ram_base s.entry) m (closed s.done s.current) s.capabilities
    (version-kept s m h b (version_of s) refl (which-version (page_count s) (length s.capabilities)))

pub new_buildable : (s : Assembled) → s ≡ opening → IsBuildable s
new_buildable s e = subst IsBuildable (sym e) opening-buildable

pub kept_buildable : (symbols : Symbols) (s new : Assembled) (l : Line) → new ≡ assembled_after symbols s l → IsBuildable s
    → line_fault symbols s l ≡ None → is_paged_line l ≡ true → IsBuildable new
kept_buildable symbols s new l e b h p = subst IsBuildable (sym e) (after-buildable symbols s l b h p)

pub finished_none : (s : Assembled) (count start m : ℕ) (sections : List Section) (capabilities : List CapEntry) → count ≡ page_count s
    → start ≡ given ram_base s.entry → m ≤ 1 → sections ≡ closed s.done s.current → capabilities ≡ s.capabilities → IsBuildable s
    → build_fault (version_for count (length capabilities)) count start m sections capabilities ≡ None
finished_none s count start m sections capabilities e f h g k b = rw (e, f, g, k) (buildable-none s m h b)
