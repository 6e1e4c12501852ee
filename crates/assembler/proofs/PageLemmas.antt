-- A line without a fault says a number of pages of 1 to the most, if it says one.
use Rattle.base.specs.Ram.{most_pages}
use Rattle.std.proofs.Common.{◌≡◌, ℕ, ◌-◌, ◌%◌, ◌^◌, Bool, true, false, not, ◌&&◌, ◌||◌, ◌==◌, nat_lt, nat_le, if◌then◌else◌, ℤ, pos}
use Rattle.std.proofs.Common.{negsuc, List, [], ◌∷◌, length, take, drop, Option, Some, None, Result, Ok, Err, codes, refl, arith}
use Rattle.std.specs.List.{prefix_len}
use Rattle.std.proofs.lemmas.Bool.Decides.{nat_tests}
use Rattle.asm_lines.specs.declared.fault.LineFault.{LineFault}
use Rattle.asm_lines.specs.declared.fault.LineFault.TheVariants.{A2, A3, A8, A9}
use Rattle.asm_lines.specs.Text.{pieces_of, is_foreign, trimmed, uncommented, label_of, statement_text, mnemonic_of, operands_of}
use Rattle.asm_lines.specs.Number.{Expression, number_of, expression_of}
use Rattle.asm_lines.specs.Operand.{up_to, wrapped, filled_draft, filled_fault}
use Rattle.asm_lines.specs.declared.parsed.Directive.{Directive}
use Rattle.asm_lines.specs.declared.parsed.Directive.TheVariants.{Zeros, Values, Ascii, Capability}
use Rattle.asm_lines.specs.Fills.{row_of}
use Rattle.asm_lines.specs.Statement.{Statement, instruction, setting, origin, contents, row, pages, mode, item, values, Said}
use Rattle.asm_lines.specs.Statement.{said, said_by, is_word, Pattern, pattern_of, pattern_said, draft_of, said_unless, register_load}
use Rattle.asm_lines.specs.Statement.{load_said, number_said, pages_said, mode_said, origin_said, entry_said, data_said}
use Rattle.asm_lines.specs.Statement.{values_said, values_fault, directive_named, placing_said, capability_fault, is_quoted}
use Rattle.asm_lines.specs.Line.{Line, line_meaning, line_said, line_of_text, labelled}
use Rattle.assembler.specs.Buildable.{is_paged, is_paged_unless, is_paged_line}

abbrev IsPaged : Said → Type 0
IsPaged s = is_paged_unless s.fault s.statement ≡ true

unless-paged : (s : Statement) (fault : Option LineFault) → is_paged s ≡ true → IsPaged (said_unless s fault)
unless-paged s None h = h
unless-paged s (Some fault) h = refl

pattern-paged : (p : Option Pattern) (operands : List ℕ) → IsPaged (pattern_said p operands)
pattern-paged (Some p) operands =
    let d = filled_draft p.slots (pieces_of operands) (draft_of p) in
    unless-paged (instruction (row d.insn d.target)) (filled_fault p.slots (pieces_of operands) (draft_of p)) refl
pattern-paged None operands = refl

register_load-paged : (capability : Bool) (rd : Option ℕ) (value : Result Expression LineFault)
    → IsPaged (register_load capability rd value)
register_load-paged capability (Some rd) (Ok x) = refl
register_load-paged capability (Some rd) (Err fault) = refl
register_load-paged capability None value = refl

load-paged : (capability : Bool) (ps : List (List ℕ)) → IsPaged (load_said capability ps)
load-paged capability [] = refl
load-paged capability (r ∷ []) = refl
load-paged capability (r ∷ x ∷ []) = register_load-paged capability _ _
load-paged capability (r ∷ x ∷ y ∷ rest) = refl

number-paged : (make : ℕ → Statement) (other : Option Statement) (r : Result ℤ LineFault) → ((n : ℕ) → is_paged (make n) ≡ true)
    → IsPaged (number_said make other r)
number-paged make other (Ok n) f = f (wrapped n)
number-paged make other (Err fault) f = refl

pages-within : (n : ℕ) → (nat_lt n 1 || nat_lt most_pages n) ≡ false → (nat_le 1 (n % 2 ^ 64) && nat_le (n % 2 ^ 64) most_pages) ≡ true
pages-within n h = grind (arith, nat_tests)

pages-paged : (r : Result ℤ LineFault) → IsPaged (pages_said r)
pages-paged (Ok (pos n)) =
    elim (nat_lt n 1 || nat_lt most_pages n) as
    (λ b. (nat_lt n 1 || nat_lt most_pages n) ≡ b
    → IsPaged (number_said (λ m. setting (pages m)) (Some (setting (pages 0))) (if b then Err A3 else Ok (pos n)))) [
      | true ↦ λ e. refl
      | false ↦ λ e. pages-within n e
    ] refl
pages-paged (Ok (negsuc n)) = refl
pages-paged (Err fault) = refl

entry-paged : (x : Result Expression LineFault) → IsPaged (entry_said x)
entry-paged (Ok x) = refl
entry-paged (Err fault) = refl

values-paged : (size : ℕ) (operands : List ℕ) → IsPaged (values_said size operands)
values-paged size [] = refl
values-paged size (b ∷ bs) = unless-paged (contents (values size (b ∷ bs))) (values_fault size (pieces_of (b ∷ bs))) refl

quoted-paged : (test : Bool) (between : List ℕ)
    → IsPaged (if test then said (Some (contents (item Ascii 0 between))) None else said None (Some A2))
quoted-paged true between = refl
quoted-paged false between = refl

data-paged : (d : Directive) (operands : List ℕ) → IsPaged (data_said d operands)
data-paged (Zeros f) operands =
    number-paged (λ n. contents (item (Zeros f) n [])) None (up_to (row_of f).most (number_of operands)) (λ _. refl)
data-paged (Values size) operands = values-paged size operands
data-paged Ascii operands = quoted-paged (is_quoted operands) (take (length operands - 2) (drop 1 operands))
data-paged Capability operands = unless-paged (contents (item Capability 0 operands)) (capability_fault operands) refl

placing-paged : (d : Option Directive) (word operands : List ℕ) → IsPaged (placing_said d word operands)
placing-paged (Some d) word operands = data-paged d operands
placing-paged None word operands = pattern-paged (pattern_of word (length operands == 0)) operands

one-paged : (test : Bool) (s t : Said) → IsPaged s → IsPaged t → IsPaged (if test then s else t)
one-paged true s t f g = f
one-paged false s t f g = g

said-paged : (word operands : List ℕ) → IsPaged (said_by word operands)
unfolding said_by
said-paged word operands =
    let n = number_of operands in
    one-paged (is_word word (codes "la")) (load_said false (pieces_of operands)) _ (load-paged false (pieces_of operands)) (
    one-paged (is_word word (codes "cla")) (load_said true (pieces_of operands)) _ (load-paged true (pieces_of operands)) (
    one-paged (is_word word (codes ".pages")) (pages_said n) _ (pages-paged n) (
    one-paged (is_word word (codes ".mode")) (mode_said n) _
    (number-paged (λ m. setting (mode (m == 1))) (Some (setting (mode false))) (up_to 1 n) (λ _. refl)) (
    one-paged (is_word word (codes ".entry")) (entry_said (expression_of operands)) _ (entry-paged (expression_of operands)) (
    one-paged (is_word word (codes ".org")) (origin_said n) _ (number-paged origin None (up_to (2 ^ 64 - 1) n) (λ _. refl)) (
    placing-paged (directive_named word) word operands))))))

line_said-paged : (label : Option (List ℕ)) (statement : List ℕ) → is_paged_line (line_said label statement) ≡ true
line_said-paged label [] = refl
line_said-paged label (b ∷ bs) = said-paged (mnemonic_of (b ∷ bs)) (operands_of (b ∷ bs))

checked-paged : (foreign long : Bool) (l : Line) → is_paged_line l ≡ true
    → is_paged_line (if foreign then labelled None (said None (Some A8)) else (if long then labelled None (said None (Some A9)) else l))
    ≡ true
checked-paged true long l h = refl
checked-paged false true l h = refl
checked-paged false false l h = h

pub line_meaning-paged : (line : List ℕ) → is_paged_line (line_meaning line) ≡ true
unfolding line_meaning
line_meaning-paged line =
    let statement = trimmed (uncommented line) in
    checked-paged (nat_lt (prefix_len (λ b. not (is_foreign b)) line) (length line)) (nat_lt 255 (length line)) (line_of_text statement)
    (line_said-paged (label_of statement) (statement_text statement))
