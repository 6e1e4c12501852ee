-- The statement of a line has a size of values, an alignment to at most 4096 bytes, at most 2 ^ 28 zeros, and texts within the line.
use Rattle.std.proofs.Common.{◌≡◌, ℕ, ◌+◌, ◌<◌, ◌≤◌, ◌-◌, ◌%◌, ◌^◌, Bool, true, false, not, ◌&&◌, ◌||◌, ◌==◌, nat_lt, nat_le}
use Rattle.std.proofs.Common.{if◌then◌else◌, ℤ, pos}
use Rattle.std.proofs.Common.{negsuc, List, [], ◌∷◌, length, take, drop, Option, Some, None, Result, Ok, Err, codes, refl, arith}
use Rattle.std.specs.List.{prefix_len, suffix_len, position_or_len, after_first}
use Rattle.std.proofs.lemmas.List.{length-drop, length-take}
use Rattle.std.proofs.lemmas.Bool.Decides.{nat_tests}
use Rattle.asm_lines.specs.declared.fault.LineFault.{LineFault}
use Rattle.asm_lines.specs.declared.fault.LineFault.TheVariants.{A1, A2, A3, A8, A9}
use Rattle.asm_lines.specs.Text.{is_blank, trimmed_start, uncommented_from, quoting_after, begins_comment, has_label, pieces_of, is_foreign}
use Rattle.asm_lines.specs.Text.{trimmed, uncommented, label_of, statement_text, mnemonic_of, operands_of}
use Rattle.asm_lines.specs.Number.{Expression, number_of, expression_of}
use Rattle.asm_lines.specs.Operand.{up_to, wrapped, filled_draft, filled_fault}
use Rattle.asm_lines.specs.declared.parsed.Directive.{Directive}
use Rattle.asm_lines.specs.declared.parsed.Directive.TheVariants.{Zeros, Values, Ascii, Capability}
use Rattle.asm_lines.specs.declared.parsed.Fill.{Fill}
use Rattle.asm_lines.specs.declared.parsed.Fill.TheVariants as fill
use Rattle.asm_lines.specs.Fills.{row_of, fill_named}
use Rattle.asm_lines.specs.Statement.{Statement, instruction, setting, origin, contents, row, load, pages, mode, entry, item}
use Rattle.asm_lines.specs.Statement.{values, is_sized, Said, said, said_by, is_word, Pattern, pattern_of, pattern_said, draft_of}
use Rattle.asm_lines.specs.Statement.{said_unless, leaves_statement, register_load, load_said, number_said, page_range, pages_said}
use Rattle.asm_lines.specs.Statement.{mode_said, origin_said, entry_said, values_said, values_fault, zeros_said, data_said, directives}
use Rattle.asm_lines.specs.Statement.{directive_in, placing_said, capability_fault, is_quoted, is_size, expression_or_nought, directive_or}
use Rattle.asm_lines.specs.Line.{Line, line_meaning, line_said, line_of_text, labelled}
use Rattle.assembler.proofs.TestLemmas.{both-true, not-below}
use Rattle.assembler.specs.Modest.{is_modest, is_modest_or_none, is_modest_line}

abbrev IsModest : Said → Type 0
IsModest s = is_modest_or_none s.statement ≡ true

unless-modest : (s : Statement) (fault : Option LineFault) → is_modest s ≡ true → IsModest (said_unless s fault)
unless-modest s None h = h
unless-modest s (Some A1) h = refl
unless-modest s (Some A2) h = refl
unless-modest s (Some A3) h = h
unless-modest s (Some A8) h = refl
unless-modest s (Some A9) h = refl

pattern-modest : (p : Option Pattern) (operands : List ℕ) → IsModest (pattern_said p operands)
pattern-modest (Some p) operands =
    let d = filled_draft p.slots (pieces_of operands) (draft_of p) in
    unless-modest (instruction (row d.insn d.target)) (filled_fault p.slots (pieces_of operands) (draft_of p)) refl
pattern-modest None operands = refl

register_load-modest : (capability : Bool) (rd : Option ℕ) (value : Result Expression LineFault)
    → IsModest (register_load capability rd value)
register_load-modest capability (Some rd) (Ok x) = refl
register_load-modest capability (Some rd) (Err fault) =
    unless-modest (instruction (load capability rd (expression_or_nought (Err fault)))) (Some fault) refl
register_load-modest capability None value = refl

load-modest : (capability : Bool) (ps : List (List ℕ)) → IsModest (load_said capability ps)
load-modest capability [] = refl
load-modest capability (r ∷ []) = refl
load-modest capability (r ∷ x ∷ []) = register_load-modest capability _ _
load-modest capability (r ∷ x ∷ y ∷ rest) = refl

other-modest : (other : Option Statement) (fault : LineFault) → is_modest_or_none other ≡ true
    → IsModest (said (if leaves_statement (Some fault) then other else None) (Some fault))
other-modest other A1 h = refl
other-modest other A2 h = refl
other-modest other A3 h = h
other-modest other A8 h = refl
other-modest other A9 h = refl

number-modest : (make : ℕ → Statement) (other : Option Statement) (r : Result ℤ LineFault) → ((n : ℕ) → is_modest (make n) ≡ true)
    → is_modest_or_none other ≡ true → IsModest (number_said make other r)
number-modest make other (Ok n) f h = f (wrapped n)
number-modest make other (Err fault) f h = other-modest other fault h

count-within : (n most : ℕ) → most < 2 ^ 64 → (nat_lt n 0 || nat_lt most n) ≡ false → nat_le (n % 2 ^ 64) most ≡ true
count-within n most h e = grind (arith, nat_tests)

-- the first row stands there so that the others are tried one by one
most-small : (f : Fill) → nat_lt (row_of f).most (2 ^ 64) ≡ true
most-small fill.Align = refl
most-small _ = refl

most-below : (f : Fill) → (row_of f).most < 2 ^ 64
most-below f = let small = most-small f in grind (arith, nat_tests)

zeros-modest : (f : Fill) (r : Result ℤ LineFault) → IsModest (zeros_said f r)
zeros-modest f (Ok (pos n)) =
    let most = (row_of f).most in
    elim (nat_lt n 0 || nat_lt most n) as
    (λ b. (nat_lt n 0 || nat_lt most n) ≡ b
    → IsModest (number_said (λ m. contents (item (Zeros f) m [])) None (if b then Err A3 else Ok (pos n)))) [
      | true ↦ λ e. refl
      | false ↦ λ e. both-true _ true (both-true _ _ refl (count-within n most (most-below f) e)) refl
    ] refl
zeros-modest f (Ok (negsuc n)) = refl
zeros-modest f (Err fault) = other-modest None fault refl

entry-modest : (x : Result Expression LineFault) → IsModest (entry_said x)
entry-modest (Ok x) = refl
entry-modest (Err fault) = unless-modest (setting (entry (expression_or_nought (Err fault)))) (Some fault) refl

short : (n : ℕ) → n ≤ 255 → nat_le n 255 ≡ true
short n h = grind (arith, nat_tests)

values-modest : (size : ℕ) (operands : List ℕ) → is_size size ≡ true → length operands ≤ 255 → IsModest (values_said size operands)
values-modest size [] h g = refl
values-modest size (b ∷ bs) h g =
    unless-modest (contents (values size (b ∷ bs))) (values_fault size (pieces_of (b ∷ bs)))
    (both-true (is_size size && true) (nat_le (length (b ∷ bs)) 255) (both-true (is_size size) true h refl) (short _ g))

quoted-modest : (test : Bool) (between : List ℕ) → length between ≤ 255
    → IsModest (if test then said (Some (contents (item Ascii 0 between))) None else said None (Some A2))
quoted-modest true between h = short _ h
quoted-modest false between h = refl

length-drop-le : (k : ℕ) (xs : List ℕ) → length (drop k xs) ≤ length xs
length-drop-le k xs = omega (arith, length-drop k xs)

length-take-most : (k : ℕ) (xs : List ℕ) → length (take k xs) ≤ length xs
length-take-most k xs = omega (arith, length-take k xs)

one-modest : (test : Bool) (s t : Said) → IsModest s → IsModest t → IsModest (if test then s else t)
one-modest true s t f g = f
one-modest false s t f g = g

data-modest : (d : Directive) (operands : List ℕ) → is_sized d ≡ true → length operands ≤ 255 → IsModest (data_said d operands)
data-modest (Zeros f) operands h g = zeros-modest f (number_of operands)
data-modest (Values size) operands h g = values-modest size operands h g
data-modest Ascii operands h g =
    quoted-modest (is_quoted operands) (take (length operands - 2) (drop 1 operands))
    (omega (arith, length-take-most (length operands - 2) (drop 1 operands), length-drop-le 1 operands))
data-modest Capability operands h g = unless-modest (contents (item Capability 0 operands)) (capability_fault operands) (short _ g)

abbrev AreSized : List (List ℕ × Directive) → Type 0
AreSized [] = Unit {0}
AreSized (d ∷ ds) = (is_sized d.1 ≡ true) × AreSized ds

placing-modest : (ds : List (List ℕ × Directive)) (word operands : List ℕ) → AreSized ds → length operands ≤ 255
    → IsModest (placing_said (directive_in ds word) word operands)
placing-modest [] word operands h g = pattern-modest (pattern_of word (length operands == 0)) operands
placing-modest (d ∷ ds) word operands h g =
    elim (is_word word d.0) as
    (λ b. IsModest (placing_said (if b then Some d.1 else directive_in ds word) word operands))
    [ true ↦ data-modest d.1 operands h.0 g | false ↦ placing-modest ds word operands h.1 g ]

named-modest : (f : Option Fill) (word operands : List ℕ) → length operands ≤ 255
    → IsModest (placing_said (directive_or f (directive_in directives word)) word operands)
named-modest (Some f) word operands g = data-modest (Zeros f) operands refl g
named-modest None word operands g = placing-modest directives word operands (refl, (refl, (refl, (refl, (refl, (refl, tt)))))) g

said-modest : (word operands : List ℕ) → length operands ≤ 255 → IsModest (said_by word operands)
unfolding said_by
said-modest word operands short-enough =
    let n = number_of operands in
    one-modest (is_word word (codes "la")) (load_said false (pieces_of operands)) _ (load-modest false (pieces_of operands)) (
    one-modest (is_word word (codes "cla")) (load_said true (pieces_of operands)) _ (load-modest true (pieces_of operands)) (
    one-modest (is_word word (codes ".pages")) (pages_said n) _
    (number-modest (λ m. setting (pages m)) (Some (setting (pages 0))) (page_range n) (λ _. refl) refl) (
    one-modest (is_word word (codes ".mode")) (mode_said n) _
    (number-modest (λ m. setting (mode (m == 1))) (Some (setting (mode false))) (up_to 1 n) (λ _. refl) refl) (
    one-modest (is_word word (codes ".entry")) (entry_said (expression_of operands)) _ (entry-modest (expression_of operands)) (
    one-modest (is_word word (codes ".org")) (origin_said n) _ (number-modest origin None (up_to (2 ^ 64 - 1) n) (λ _. refl) refl) (
    named-modest (fill_named word) word operands short-enough))))))

operands-shorter : (statement : List ℕ) → length (operands_of statement) ≤ length statement
operands-shorter statement =
    let past = after_first is_blank statement in
    omega (arith, length-drop-le (prefix_len is_blank past) past, length-drop-le (position_or_len is_blank statement + 1) statement)

line_said-modest : (label : Option (List ℕ)) (statement : List ℕ) → length statement ≤ 255
    → is_modest_line (line_said label statement) ≡ true
line_said-modest label [] h = refl
line_said-modest label (b ∷ bs) h = said-modest (mnemonic_of (b ∷ bs)) (operands_of (b ∷ bs)) (omega (arith, h, operands-shorter (b ∷ bs)))

checked-modest : (foreign long : Bool) (l : Line) → (long ≡ false → is_modest_line l ≡ true)
    → is_modest_line (if foreign then labelled None (said None (Some A8)) else (if long then labelled None (said None (Some A9)) else l))
    ≡ true
checked-modest true long l h = refl
checked-modest false true l h = refl
checked-modest false false l h = h refl

-- the statement of a line is no longer than the line
uncommented-shorter : (quoting : _) (line : List ℕ) → length (uncommented_from quoting line) ≤ length line
uncommented-shorter quoting [] = omega arith
uncommented-shorter quoting (b ∷ bs) =
    let later = uncommented-shorter (quoting_after b quoting) bs in
    elim (begins_comment b quoting) as
    (λ t. length (if t then [] else (b ∷ uncommented_from (quoting_after b quoting) bs)) ≤ length (b ∷ bs)) [
      | true ↦ omega arith
      | false ↦ omega arith
    ]

trimmed_start-shorter : (line : List ℕ) → length (trimmed_start line) ≤ length line
trimmed_start-shorter line = length-drop-le (prefix_len is_blank line) line

trimmed-shorter : (line : List ℕ) → length (trimmed line) ≤ length line
trimmed-shorter line =
    let start = trimmed_start line in
    omega (arith, trimmed_start-shorter line, length-take-most (length start - suffix_len is_blank start) start)

statement-shorter : (line : List ℕ) → length (statement_text line) ≤ length line
statement-shorter line =
    elim (has_label line) as (λ t. length (if t then trimmed_start (after_first (λ b. b == 58) line) else line) ≤ length line) [
      | true ↦ omega
          (arith, trimmed_start-shorter (after_first (λ b. b == 58) line), length-drop-le (position_or_len (λ b. b == 58) line + 1) line)
      | false ↦ omega arith
    ]

pub line_meaning-modest : (line : List ℕ) → is_modest_line (line_meaning line) ≡ true
unfolding line_meaning
line_meaning-modest line =
    let rest = trimmed (uncommented line) in
    let shorter : length (statement_text rest) ≤ length line =
    let bare : length (uncommented line) ≤ length line = uncommented-shorter _ line in
    omega (arith, statement-shorter rest, trimmed-shorter (uncommented line), bare) in
    checked-modest (nat_lt (prefix_len (λ b. not (is_foreign b)) line) (length line)) (nat_lt 255 (length line)) (line_of_text rest)
    (λ e. line_said-modest (label_of rest) (statement_text rest) (omega (arith, shorter, not-below 255 (length line) e)))
