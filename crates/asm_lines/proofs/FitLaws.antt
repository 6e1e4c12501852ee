-- Operands that could be read fit their row: a line that says an instruction without a fault says one that has a word.
use Rattle.std.proofs.Common.{◌≡◌, ℕ, ◌^◌, Bool, true, false, ◌&&◌, List, [], ◌∷◌, Option, Some, None, refl, subst, arith}
use Rattle.std.specs.Prelude.{ℤ, Result, Ok, Err, nat_lt, not, length, take, drop, ◌-◌, ◌==◌, if◌then◌else◌, codes}
use Rattle.std.specs.List.{prefix_len}
use Rattle.isa_rows.specs.declared.operands.Insn.{Insn}
use Rattle.isa_rows.specs.declared.rows.Row.{Row}
use Rattle.isa_rows.specs.declared.rows.Row.TheVariants.{Lui, Addi, Jal, Jalr, Fence, FenceI}
use Rattle.isa_rows.specs.Line.{line_of}
use Rattle.isa_rows.specs.Insn.{insn}
use Rattle.isa_rows.specs.declared.slots.Naming.TheVariants.{Integer}
use Rattle.isa_rows.specs.declared.slots.Slot.{Slot}
use Rattle.isa_rows.specs.declared.slots.Slot.TheVariants.{Rd, Rs1, Signed, Target}
use Rattle.asm_names.specs.Mnemonic.{row_named}
use Rattle.asm_names.specs.Registers.{register_named}
use Rattle.asm_names.specs.Slots.{slots_of}
use Rattle.asm_lines.specs.declared.fault.LineFault.{LineFault}
use Rattle.asm_lines.specs.declared.fault.LineFault.TheVariants.{A2, A8, A9}
use Rattle.asm_lines.specs.Text.{pieces_of, mnemonic_of, operands_of, is_foreign, label_of, statement_text, trimmed, uncommented}
use Rattle.asm_lines.specs.Number.{Expression, number_of, expression_of}
use Rattle.asm_lines.specs.Operand.{Draft, up_to, wrapped, filled_draft, filled_fault}
use Rattle.asm_lines.specs.declared.parsed.Directive.{Directive}
use Rattle.asm_lines.specs.declared.parsed.Directive.TheVariants.{Zeros, Values, Ascii, Capability}
use Rattle.asm_lines.specs.declared.parsed.Fill.{Fill}
use Rattle.asm_lines.specs.Fills.{row_of}
use Rattle.asm_lines.specs.Statement.{Statement, instruction, setting, origin, contents, row, pages, mode, item, values, Said}
use Rattle.asm_lines.specs.Statement.{zeros_said, data_said, directive_named, placing_said, capability_fault}
use Rattle.asm_lines.specs.Statement.{said, said_unless, said_by, is_word, Pattern, pattern, plain, row_pattern, pattern_of, pattern_said}
use Rattle.asm_lines.specs.Statement.{draft_of, row_said, load_said, register_load, number_said, page_range, pages_said, mode_said}
use Rattle.asm_lines.specs.Statement.{origin_said, entry_said, values_said, values_fault, is_quoted}
use Rattle.asm_lines.specs.Line.{Line, labelled, line_said, line_of_text, line_meaning, FitsAt, RowFits}
use Rattle.asm_lines.proofs.SlotLaws.{Kind, below, Bounds, IsWithin, bounds_of, filled-within}
use Rattle.asm_lines.proofs.FormatLaws.{suits, fits-at}

-- what is known before any operand is read: the numbers of an alias, or zeros
abbrev start : Kind → Bounds
start kind = record { rd = 1; rs1 = 2; rs2 = 1; imm = kind; target = false }

abbrev zero_start : Bounds
zero_start = record { rd = 1; rs1 = 1; rs2 = 1; imm = below 1; target = false }

-- the slots of each row suit its format
rows-suit : (r : Row) → suits (line_of r).format (bounds_of (slots_of r) zero_start) ≡ true
unfolding line_of
rows-suit Lui = refl
rows-suit _ = refl

-- What is already there and the operands of the slots suit the row's format.
record PatternSuits (p : Pattern) : Type 0 where
  bounds : Bounds
  within : IsWithin p.insn.row bounds (draft_of p)
  suited : suits (line_of p.insn.row).format (bounds_of p.slots bounds) ≡ true

abbrev ThePatternSuits : Option Pattern → Type 0
ThePatternSuits (Some p) = PatternSuits p
ThePatternSuits None = Unit {0}

plain-within : (r : Row) (ss : List Slot) → IsWithin r zero_start (draft_of (plain r ss))
plain-within r ss =
    record { row_is = refl; rd_below = omega arith; rs1_below = omega arith; rs2_below = omega arith; imm_is = omega arith; target_is = tt }

row-suits : (r : Option Row) → ThePatternSuits (row_pattern r)
row-suits (Some r) = record { bounds = zero_start; within = plain-within r (slots_of r); suited = rows-suit r }
row-suits None = tt

-- the aliases suit their formats
nop-suits : PatternSuits (plain Addi [])
unfolding line_of
nop-suits = record { bounds = zero_start; within = plain-within Addi []; suited = refl }

li-suits : PatternSuits (plain Addi (Rd Integer ∷ Signed ∷ []))
unfolding line_of
li-suits = record { bounds = zero_start; within = plain-within Addi (Rd Integer ∷ Signed ∷ []); suited = refl }

mv-suits : PatternSuits (plain Addi (Rd Integer ∷ Rs1 Integer ∷ []))
unfolding line_of
mv-suits = record { bounds = zero_start; within = plain-within Addi (Rd Integer ∷ Rs1 Integer ∷ []); suited = refl }

j-suits : PatternSuits (plain Jal (Target 21 ∷ []))
unfolding line_of
j-suits = record { bounds = zero_start; within = plain-within Jal (Target 21 ∷ []); suited = refl }

ret-suits : PatternSuits (pattern (insn Jalr 0 1 0 0) [])
unfolding line_of
ret-suits =
    record {
      bounds = start
          (below 1);
      within =
          record {
            row_is = refl;
            rd_below = omega arith;
            rs1_below = omega arith;
            rs2_below = omega arith;
            imm_is = omega arith;
            target_is = tt;
          };
      suited = refl;
    }

fence-suits : PatternSuits (pattern (insn Fence 0 0 0 255) [])
unfolding line_of
fence-suits =
    record {
      bounds = start
          (below 256);
      within =
          record {
            row_is = refl;
            rd_below = omega arith;
            rs1_below = omega arith;
            rs2_below = omega arith;
            imm_is = omega arith;
            target_is = tt;
          };
      suited = refl;
    }

fence_i-suits : PatternSuits (plain FenceI [])
unfolding line_of
fence_i-suits = record { bounds = zero_start; within = plain-within FenceI []; suited = refl }

aliases-suit : (a b c d e f g : Bool) (rest : Option Pattern) → ThePatternSuits rest
    → ThePatternSuits
    (if a then Some (plain Addi []) else
    (if b then Some (plain Addi (Rd Integer ∷ Signed ∷ [])) else
    (if c then Some (plain Addi (Rd Integer ∷ Rs1 Integer ∷ [])) else
    (if d then Some (plain Jal (Target 21 ∷ [])) else
    (if e then Some (pattern (insn Jalr 0 1 0 0) []) else
    (if f then Some (pattern (insn Fence 0 0 0 255) []) else (if g then Some (plain FenceI []) else (rest))))))))
aliases-suit true b c d e f g rest h = nop-suits
aliases-suit false true c d e f g rest h = li-suits
aliases-suit false false true d e f g rest h = mv-suits
aliases-suit false false false true e f g rest h = j-suits
aliases-suit false false false false true f g rest h = ret-suits
aliases-suit false false false false false true g rest h = fence-suits
aliases-suit false false false false false false true rest h = fence_i-suits
aliases-suit false false false false false false false rest h = h

pattern-suits : (word : List ℕ) (alone : Bool) → ThePatternSuits (pattern_of word alone)
unfolding pattern_of
pattern-suits word alone =
    aliases-suit (is_word word (codes "nop")) (is_word word (codes "li")) (is_word word (codes "mv")) (is_word word (codes "j"))
    (is_word word (codes "ret")) (alone && is_word word (codes "fence")) (alone && is_word word (codes "fence.i"))
    (row_pattern (row_named word)) (row-suits (row_named word))

-- an instruction that is said without a fault fits
abbrev pub SaidFits : Said → Type 0
SaidFits s = (i : Insn) (target : Option Expression) → s.statement ≡ Some (instruction (row i target)) → s.fault ≡ None → FitsAt i target

-- a pattern whose operands could be read says an instruction that fits
pattern-fits : (p : Pattern) (ps : List (List ℕ)) → PatternSuits p → filled_fault p.slots ps (draft_of p) ≡ None
    → FitsAt (filled_draft p.slots ps (draft_of p)).insn (filled_draft p.slots ps (draft_of p)).target
pattern-fits p ps k e =
    let d = filled_draft p.slots ps (draft_of p) in
    let w = filled-within p.slots ps p.insn.row k.bounds (draft_of p) k.within e in
    let suited : suits (line_of d.insn.row).format (bounds_of p.slots k.bounds) ≡ true = rw w.row_is k.suited in
    fits-at (bounds_of p.slots k.bounds) d.insn d.target suited
    (record {
      row_is = refl;
      rd_below = w.rd_below;
      rs1_below = w.rs1_below;
      rs2_below = w.rs2_below;
      imm_is = w.imm_is;
      target_is =
          w.target_is;
    })

-- where a fault leaves a statement, there is none or it is the first
unless-fits : (s : Statement) (fault : Option LineFault)
    → ((i : Insn) (target : Option Expression) → s ≡ instruction (row i target) → fault ≡ None → FitsAt i target)
    → SaidFits (said_unless s fault)
unless-fits s None f i target e h = f i target (cc) h
unless-fits s (Some fault) f i target e h = cc

-- statements of an instruction are equal only with its parts
same_row : (i j : Insn) (t u : Option Expression) → instruction (row i t) ≡ instruction (row j u) → FitsAt i t → FitsAt j u
same_row i j t u e h =
    let p : i ≡ j = cc in
    let q : t ≡ u = cc in
    subst (λ v. FitsAt j v) q (subst (λ k. FitsAt k t) p h)

row-fits : (d : Draft) (fault : Option LineFault) → (fault ≡ None → FitsAt d.insn d.target) → SaidFits (row_said d fault)
row-fits d fault f = unless-fits (instruction (row d.insn d.target)) fault (λ i target e h. same_row d.insn i d.target target e (f h))

the-pattern-fits : (p : Option Pattern) (operands : List ℕ) → ThePatternSuits p → SaidFits (pattern_said p operands)
the-pattern-fits (Some p) operands k i target e h =
    row-fits (filled_draft p.slots (pieces_of operands) (draft_of p)) (filled_fault p.slots (pieces_of operands) (draft_of p))
    (pattern-fits p (pieces_of operands) k) i target e h
the-pattern-fits None operands k i target e h = cc

-- what says no instruction
register_load-fits : (capability : Bool) (rd : Option ℕ) (value : Result Expression LineFault)
    → SaidFits (register_load capability rd value)
register_load-fits capability (Some rd) (Ok x) i target e h = cc
register_load-fits capability (Some rd) (Err fault) i target e h = cc
register_load-fits capability None value i target e h = cc

load-fits : (capability : Bool) (ps : List (List ℕ)) → SaidFits (load_said capability ps)
load-fits capability [] i target e h = cc
load-fits capability (r ∷ []) i target e h = cc
load-fits capability (r ∷ x ∷ []) i target e h = register_load-fits capability (register_named r) (expression_of x) i target e h
load-fits capability (r ∷ x ∷ y ∷ rest) i target e h = cc

number-fits : (make : ℕ → Statement) (other : Option Statement) (r : Result ℤ LineFault)
    → ((n : ℕ) (i : Insn) (target : Option Expression) → make n ≡ instruction (row i target) → ⊥) → SaidFits (number_said make other r)
number-fits make other (Ok n) f i target e h = absurd (f (wrapped n) i target (cc))
number-fits make other (Err fault) f i target e h = cc

entry-fits : (x : Result Expression LineFault) → SaidFits (entry_said x)
entry-fits (Ok x) i target e h = cc
entry-fits (Err fault) i target e h = cc

values-fits : (size : ℕ) (operands : List ℕ) → SaidFits (values_said size operands)
values-fits size [] i target e h = cc
values-fits size (b ∷ bs) i target e h =
    unless-fits (contents (values size (b ∷ bs))) (values_fault size (pieces_of (b ∷ bs))) (λ j t p q. cc) i target e h

quoted-fits : (test : Bool) (between : List ℕ)
    → SaidFits (if test then said (Some (contents (item Ascii 0 between))) None else said None (Some A2))
quoted-fits true between i target e h = cc
quoted-fits false between i target e h = cc

zeros-fit : (f : Fill) (r : Result ℤ LineFault) → SaidFits (zeros_said f r)
zeros-fit f r = number-fits (λ n. contents (item (Zeros f) n [])) None (up_to (row_of f).most r) (λ n i t q. cc)

data-fits : (d : Directive) (operands : List ℕ) → SaidFits (data_said d operands)
data-fits (Zeros f) operands = zeros-fit f (number_of operands)
data-fits (Values size) operands = values-fits size operands
data-fits Ascii operands = quoted-fits (is_quoted operands) (take (length operands - 2) (drop 1 operands))
data-fits Capability operands = unless-fits (contents (item Capability 0 operands)) (capability_fault operands) (λ i t p q. cc)

placing-fits : (d : Option Directive) (word operands : List ℕ) → SaidFits (placing_said d word operands)
placing-fits (Some d) word operands = data-fits d operands
placing-fits None word operands =
    the-pattern-fits (pattern_of word (length operands == 0)) operands (pattern-suits word (length operands == 0))

-- of statements that fit, one that tests choose
one-fits : (test : Bool) (s t : Said) → SaidFits s → SaidFits t → SaidFits (if test then s else t)
one-fits true s t f g i target e h = f i target e h
one-fits false s t f g i target e h = g i target e h

-- an instruction that a mnemonic and its operands say without a fault fits
pub said-fits : (word operands : List ℕ) → SaidFits (said_by word operands)
unfolding said_by
said-fits word operands =
    let number = number_of operands in
    one-fits (is_word word (codes "la")) (load_said false (pieces_of operands)) _ (load-fits false (pieces_of operands)) (
    one-fits (is_word word (codes "cla")) (load_said true (pieces_of operands)) _ (load-fits true (pieces_of operands)) (
    one-fits (is_word word (codes ".pages")) (pages_said number) _
    (number-fits (λ n. setting (pages n)) (Some (setting (pages 0))) (page_range number) (λ n i t q. cc)) (
    one-fits (is_word word (codes ".mode")) (mode_said number) _
    (number-fits (λ n. setting (mode (n == 1))) (Some (setting (mode false))) (up_to 1 number) (λ n i t q. cc)) (
    one-fits (is_word word (codes ".entry")) (entry_said (expression_of operands)) _ (entry-fits (expression_of operands)) (
    one-fits (is_word word (codes ".org")) (origin_said number) _
    (number-fits origin None (up_to (2 ^ 64 - 1) number) (λ n i t q. cc)) (
    placing-fits (directive_named word) word operands))))))

line_said-fits : (label : Option (List ℕ)) (statement : List ℕ) → RowFits (line_said label statement)
line_said-fits label [] i target e h = cc
line_said-fits label (b ∷ bs) i target e h = said-fits (mnemonic_of (b ∷ bs)) (operands_of (b ∷ bs)) i target e h

checked-fits : (foreign long : Bool) (l : Line) → RowFits l
    → RowFits (if foreign then labelled None (said None (Some A8)) else (if long then labelled None (said None (Some A9)) else l))
checked-fits true long l f i target e h = cc
checked-fits false true l f i target e h = cc
checked-fits false false l f i target e h = f i target e h

-- an instruction that a line says without a fault fits
pub line_meaning-fits : (line : List ℕ) → RowFits (line_meaning line)
unfolding line_meaning
line_meaning-fits line =
    let statement = trimmed (uncommented line) in
    checked-fits (nat_lt (prefix_len (λ b. not (is_foreign b)) line) (length line)) (nat_lt 255 (length line)) (line_of_text statement)
    (line_said-fits (label_of statement) (statement_text statement))
