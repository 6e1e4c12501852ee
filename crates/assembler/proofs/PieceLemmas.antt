-- The sections that lines fill have the bytes that their statements place, each once.
use Rattle.std.proofs.Common.{◌≡◌, ℕ, ◌+◌, ◌<◌, ◌≤◌, Bool, true, false, cond, ◌==◌, nat_lt, if◌then◌else◌}
use Rattle.std.proofs.Common.{List, [], ◌∷◌, ◌++◌}
use Rattle.std.proofs.Common.{length, map, suc, Option, Some, None, refl, ap, ◌∙◌, arith}
use Rattle.std.proofs.lemmas.Bool.Decides.{nat_tests}
use Rattle.std.specs.List.{slice_split}
use Rattle.image.specs.Image.{Section, span_fault, sections_fault}
use Rattle.image.specs.ImageLaws.{no_fault_cons}
use Rattle.asm_lines.specs.Statement.{Statement, instruction, setting, origin, contents, pages, mode, entry}
use Rattle.asm_lines.specs.Line.{Line, line_meaning}
use Rattle.assembler.specs.declared.fault.AsmCode.{AsmCode}
use Rattle.assembler.specs.Places.{Symbols, end_after, symbols_of, lines_of}
use Rattle.assembler.specs.Bytes.{bytes_at}
use Rattle.assembler.specs.Faults.{Assembled, page_count, line_fault, inserted, closed, with_bytes}
use Rattle.assembler.specs.Faults.{with_statement, with_statement_of, assembled_after, opening}
use Rattle.assembler.specs.Text.{found_or, first_faulty_line, all_assembled, text_fault, text_image}
use Rattle.assembler.specs.Buildable.{IsBuildable}
use Rattle.assembler.specs.Pieces.{piece_of, pieces_from, text_pieces, count_from, count_bytes}
use Rattle.assembler.proofs.PageLemmas.{line_meaning-paged}
use Rattle.assembler.proofs.SectionLemmas.{closed-good}
use Rattle.assembler.proofs.BuildLemmas.{new_buildable, kept_buildable}

-- ---- counts

count-append : (test : ℕ → ℕ → Bool) (at : ℕ) (xs ys : List ℕ)
    → count_from test at (xs ++ ys) ≡ count_from test at xs + count_from test (at + length xs) ys
count-append test at [] ys =
    let same : at ≡ at + 0 = omega arith in
    omega (arith, ap (λ n. count_from test n ys) same)
count-append test at (x ∷ xs) ys =
    let same : at + 1 + length xs ≡ at + suc (length xs) = omega arith in
    let rest = count-append test (at + 1) xs ys ∙ ap (λ n. count_from test (at + 1) xs + count_from test n ys) same in
    omega (arith, rest)

count-none : (test : ℕ → ℕ → Bool) (at : ℕ) (bs : List ℕ) → length bs ≡ 0 → count_from test at bs ≡ 0
count-none test at [] e = refl
count-none test at (b ∷ bs) e = absurd (omega (arith, e))

count-inserted : (test : ℕ → ℕ → Bool) (s : Section) (ss : List Section)
    → count_bytes test (inserted s ss) ≡ count_from test s.address s.bytes + count_bytes test ss
count-inserted test s [] = refl
count-inserted test s (t ∷ ts) =
    elim (nat_lt s.address t.address) as
    (λ x. count_bytes test (if x then s ∷ t ∷ ts else (t ∷ inserted s ts))
    ≡ count_from test s.address s.bytes + count_bytes test (t ∷ ts)) [
      | true ↦ refl
      | false ↦ omega (arith, count-inserted test s ts)
    ]

count-closed : (test : ℕ → ℕ → Bool) (done : List Section) (current : Section)
    → count_bytes test (closed done current) ≡ count_from test current.address current.bytes + count_bytes test done
count-closed test done current =
    elim (length current.bytes == 0) as
    (λ x. (length current.bytes == 0) ≡ x → count_bytes test (if x then done else inserted current done)
    ≡ count_from test current.address current.bytes + count_bytes test done) [
      | true ↦ λ e.
          let empty : length current.bytes ≡ 0 = grind (arith, nat_tests) in
          omega (arith, count-none test current.address current.bytes empty)
      | false ↦ λ e. count-inserted test current done
    ] refl

-- ---- what is assembled

abbrev total : (ℕ → ℕ → Bool) → Assembled → ℕ
total test s = count_from test s.current.address s.current.bytes + count_bytes test s.done

placed-counted : (test : ℕ → ℕ → Bool) (s : Assembled) (bytes : List ℕ)
    → s.places.place ≡ s.current.address + length s.current.bytes
    → total test (with_bytes s bytes) ≡ total test s + count_from test s.places.place bytes
placed-counted test s bytes e =
    let grown = count-append test s.current.address s.current.bytes bytes in
    let here = ap (λ n. count_from test n bytes) e in
    omega (arith, grown, here)

statement-counted : (test : ℕ → ℕ → Bool) (symbols : Symbols) (s : Assembled) (t : Statement)
    → s.places.place ≡ s.current.address + length s.current.bytes
    → total test (with_statement symbols s t) ≡ total test s + count_from test s.places.place (bytes_at symbols s.places.place t)
unfolding bytes_at
statement-counted test symbols s (instruction i) e = placed-counted test s (bytes_at symbols s.places.place (instruction i)) e
statement-counted test symbols s (setting (pages n)) e = omega arith
statement-counted test symbols s (setting (mode m)) e = omega arith
statement-counted test symbols s (setting (entry v)) e = omega arith
statement-counted test symbols s (origin n) e = omega (arith, count-closed test s.done s.current)
statement-counted test symbols s (contents d) e = placed-counted test s (bytes_at symbols s.places.place (contents d)) e

any-counted : (test : ℕ → ℕ → Bool) (symbols : Symbols) (s : Assembled) (t : Option Statement)
    → s.places.place ≡ s.current.address + length s.current.bytes
    → total test (with_statement_of symbols s t)
    ≡ total test s + count_from test (piece_of symbols s.places.place t).address (piece_of symbols s.places.place t).bytes
any-counted test symbols s None e = omega arith
any-counted test symbols s (Some t) e = statement-counted test symbols s t e

line-counted : (test : ℕ → ℕ → Bool) (symbols : Symbols) (s : Assembled) (l : Line)
    → s.places.place ≡ s.current.address + length s.current.bytes
    → total test (assembled_after symbols s l)
    ≡ total test s
    + count_from test (piece_of symbols s.places.place l.statement).address (piece_of symbols s.places.place l.statement).bytes
unfolding assembled_after
line-counted test symbols s l e = any-counted test symbols s l.statement e

after-place : (symbols : Symbols) (s : Assembled) (l : Line)
    → (assembled_after symbols s l).places.place ≡ end_after l.statement s.places.place
unfolding assembled_after
after-place symbols s l = refl

pub found-none : (code : Option AsmCode) (number : ℕ) (later : Option (ℕ × AsmCode)) → found_or code number later ≡ None
    → (code ≡ None) × (later ≡ None)
found-none None number later e = (refl, e)
found-none (Some code) number later e = absurd cc

-- lines without a fault: what is assembled of them has their bytes, and an image can be built of it
pub record Counted (test : ℕ → ℕ → Bool) (symbols : Symbols) (s : Assembled) (lines : List Line) : Type 0 where
  pub counted : total test (all_assembled symbols s lines) ≡ total test s + count_bytes test (pieces_from symbols s.places.place lines)
  pub buildable : IsBuildable (all_assembled symbols s lines)

all-counted : (test : ℕ → ℕ → Bool) (symbols : Symbols) (s : Assembled) (number : ℕ) (texts : List (List ℕ)) → IsBuildable s
    → first_faulty_line symbols s number (map line_meaning texts) ≡ None → Counted test symbols s (map line_meaning texts)
all-counted test symbols s number [] b h = record { counted = omega arith; buildable = b }
all-counted test symbols s number (text ∷ texts) b h =
    let l = line_meaning text in
    let none = found-none (line_fault symbols s l) number _ h in
    let next = kept_buildable symbols s (assembled_after symbols s l) l refl b none.0 (line_meaning-paged text) in
    let rest = all-counted test symbols (assembled_after symbols s l) (number + 1) texts next none.1 in
    let here = line-counted test symbols s l b.place in
    let place = ap (λ n. count_bytes test (pieces_from symbols n (map line_meaning texts))) (after-place symbols s l) in
    record { counted = omega (arith, rest.counted, here, place); buildable = rest.buildable }

text-counted : (test : ℕ → ℕ → Bool) (text : List ℕ) → text_fault text ≡ None
    → Counted test (symbols_of text) opening (lines_of text)
text-counted test text h =
    all-counted test (symbols_of text) opening 1 (slice_split (λ b. b == 10) text) (new_buildable opening refl) h

pub bytes-same : (text : List ℕ) (test : ℕ → ℕ → Bool) → text_fault text ≡ None
    → count_bytes test (text_image text).sections ≡ count_bytes test (text_pieces text)
bytes-same text test h =
    let end = all_assembled (symbols_of text) opening (lines_of text) in
    omega (arith, count-closed test end.done end.current, (text-counted test text h).counted)

-- ---- no address twice

here-before : (address at : ℕ) (bs : List ℕ) → address < at → count_from (λ a b. a == address) at bs ≡ 0
here-before address at [] h = refl
here-before address at (b ∷ bs) h =
    let other : (at == address) ≡ false = grind (arith, nat_tests) in
    rw other (omega (arith, here-before address (at + 1) bs (omega arith)))

here-past : (address at : ℕ) (bs : List ℕ) → at + length bs ≤ address → count_from (λ a b. a == address) at bs ≡ 0
here-past address at [] h = refl
here-past address at (b ∷ bs) h =
    let other : (at == address) ≡ false = grind (arith, nat_tests) in
    rw other (omega (arith, here-past address (at + 1) bs (omega arith)))

here-once : (address at : ℕ) (bs : List ℕ) → count_from (λ a b. a == address) at bs ≤ 1
here-once address at [] = omega arith
here-once address at (b ∷ bs) =
    elim (at == address) as (λ x. (at == address) ≡ x → cond x 1 0 + count_from (λ a b. a == address) (at + 1) bs ≤ 1) [
      | true ↦ λ e.
          let same : at ≡ address = grind (arith, nat_tests) in
          omega (arith, here-before address (at + 1) bs (omega arith))
      | false ↦ λ e. omega (arith, here-once address (at + 1) bs)
    ] refl

ascending : (count free a n : ℕ) → span_fault count free a n ≡ None → free ≤ a
unfolding span_fault
ascending count free a n h = grind (arith, nat_tests)

sections-before : (address count free : ℕ) (ss : List Section) → sections_fault count free ss ≡ None → address < free
    → count_bytes (λ a b. a == address) ss ≡ 0
sections-before address count free [] h f = refl
sections-before address count free (s ∷ ss) h f =
    let none = no_fault_cons count free s ss h in
    let up = ascending count free s.address (length s.bytes) none.0 in
    omega (
      arith,
      here-before address s.address s.bytes (omega arith),
      sections-before address count (s.address + length s.bytes) ss none.1 (omega arith),
    )

sections-once : (address count free : ℕ) (ss : List Section) → sections_fault count free ss ≡ None
    → count_bytes (λ a b. a == address) ss ≤ 1
sections-once address count free [] h = omega arith
sections-once address count free (s ∷ ss) h =
    let none = no_fault_cons count free s ss h in
    elim (nat_lt address (s.address + length s.bytes)) as
    (λ x. nat_lt address (s.address + length s.bytes) ≡ x → count_bytes (λ a b. a == address) (s ∷ ss) ≤ 1) [
      | true ↦ λ e.
          let f : address < s.address + length s.bytes = grind (arith, nat_tests) in
          omega (
            arith,
            here-once address s.address s.bytes,
            sections-before address count (s.address + length s.bytes) ss none.1 f,
          )
      | false ↦ λ e.
          let f : s.address + length s.bytes ≤ address = grind (arith, nat_tests) in
          omega (arith, here-past address s.address s.bytes f, sections-once address count (s.address + length s.bytes) ss none.1)
    ] refl

pub bytes-once : (text : List ℕ) (address : ℕ) → text_fault text ≡ None
    → count_bytes (λ a b. a == address) (text_image text).sections ≤ 1
bytes-once text address h =
    let end = all_assembled (symbols_of text) opening (lines_of text) in
    let b = (text-counted (λ a b. true) text h).buildable in
    let good = closed-good (page_count end) end.done end.current (record { apart = b.apart; filled = b.filled; few = b.few }) b.current in
    sections-once address (page_count end) 0 (closed end.done end.current) good.apart
