-- What is read of the arguments that clap found, and of the table: facts that a search finds late.
use Rattle.std.proofs.Common.{◌≡◌, ◌∙◌, ℕ, ◌-◌, ◌≤◌, List, [], ◌∷◌, refl, sym, ap, subst, codes, arith}
use Rattle.std.proofs.Common.{map, length, take, drop, slice_index_or}
use Rattle.std.specs.Prelude.{Option, Some, None, IsSome, Bool, true, false, if◌then◌else◌, option_map, option_and_then, unwrap_or}
use Rattle.std.specs.Prelude.{bytes_eq}
use Rattle.std.specs.Borrow.{Bor}
use Rattle.std.proofs.lemmas.List.{take_all}
use Rattle.clap.specs.Words.{App, Row, Text, first_of, with_rule, with_subcommand}
use Rattle.command_line.specs.declared.plans.Why.{Why}
use Rattle.command_line.specs.declared.table.Stands.{Stands}
use Rattle.command_line.specs.declared.table.Takes.{Takes}
use Rattle.command_line.specs.declared.table.Takes.TheVariants.{Nothing, Ends, Read, ReadBeside, Written, Count, Start, Number}
use Rattle.command_line.specs.CommandLine.{ArgumentRead, Line, Said, File, Amount, Used, Explained, argument, line_of, entry_of}
use Rattle.command_line.specs.CommandLine.{count_in, counted, is_file, is_needed, is_true, is_within, why_of}
use Rattle.command_line.specs.CommandLine.{said_by, said_of, said_of_text, unsaid, written_number}
use Rattle.command_line.specs.CommandLine.{command, rule, with_arguments, with_commands}

-- ---- what is said of an argument, by what was found of it

unneeded : (needed : Bool) (o : Option Said) → IsSome (if needed then None else o) → (if needed then None else o) ≡ o
unneeded true o fit = cc
unneeded false o fit = refl

-- where it must be there, it is
there : (rows : List Row) (line : Line) → is_needed line ≡ true → IsSome (said_of rows line) → IsSome (first_of line.id rows)
unfolding said_of
there rows line needed fit = go (first_of line.id rows) fit
  where
    go : (o : Option Text) → IsSome (said_of_text line o) → IsSome o
    go (Some text) fit = refl
    go None fit = subst (λ (b : Bool). IsSome (if b then None else unsaid line.takes)) needed fit

pub operand_there : (rows : List Row) (id : Text) (stands : Stands) (takes : Takes) (default : Option Text)
    → IsSome (said_of rows (argument id stands takes default)) → is_needed (argument id stands takes default) ≡ true
    → IsSome (first_of id rows)
operand_there rows id stands takes default fit needed = there rows (argument id stands takes default) needed fit

-- a file
beside : (is_input : Bool) (said : Said) → IsSome (if is_input then None else Some said)
    → (if is_input then None else Some said) ≡ Some said
beside true said fit = cc
beside false said fit = refl

file_by : (takes : Takes) (text : Text) → is_file takes ≡ true → IsSome (said_by takes text)
    → said_by takes text ≡ Some (File (Some text))
file_by Nothing text kind fit = cc
file_by Ends text kind fit = cc
file_by Read text kind fit = refl
file_by ReadBeside text kind fit = beside (bytes_eq text (codes "-")) (File (Some text)) fit
file_by Written text kind fit = refl
file_by (Count least most) text kind fit = cc
file_by (Start least most) text kind fit = cc
file_by Number text kind fit = cc

file_unsaid : (takes : Takes) → is_file takes ≡ true → unsaid takes ≡ Some (File None)
file_unsaid Nothing kind = cc
file_unsaid Ends kind = cc
file_unsaid Read kind = refl
file_unsaid ReadBeside kind = refl
file_unsaid Written kind = refl
file_unsaid (Count least most) kind = cc
file_unsaid (Start least most) kind = cc
file_unsaid Number kind = cc

pub file_said : (rows : List Row) (id : Text) (stands : Stands) (takes : Takes) (default : Option Text) (name : Option Text)
    → IsSome (said_of rows (argument id stands takes default)) → is_file takes ≡ true → name ≡ first_of id rows
    → said_of rows (argument id stands takes default) ≡ Some (File name)
unfolding said_of
file_said rows id stands takes default name fit kind is =
    go (first_of id rows) fit ∙ ap (λ (n : Option Text). Some (File n)) (sym is)
  where
    go : (o : Option Text) → IsSome (said_of_text (argument id stands takes default) o)
        → said_of_text (argument id stands takes default) o ≡ Some (File o)
    go (Some text) fit = file_by takes text kind fit
    go None fit = unneeded (is_needed (argument id stands takes default)) (unsaid takes) fit ∙ file_unsaid takes kind

-- a number of 64 bits
mapped : (number : Option ℕ) → IsSome (option_map (λ n. Amount (Some n)) number)
    → (option_map (λ n. Amount (Some n)) number ≡ Some (Amount number)) × IsSome number
mapped None fit = cc
mapped (Some n) fit = (refl, refl)

pub number_said : (rows : List Row) (id : Text) (stands : Stands) (default : Option Text) (number : Option ℕ)
    → IsSome (said_of rows (argument id stands Number default)) → number ≡ option_and_then written_number (first_of id rows)
    → said_of rows (argument id stands Number default) ≡ Some (Amount number)
unfolding said_of
number_said rows id stands default number fit is =
    go (first_of id rows) fit ∙ ap (λ (n : Option ℕ). Some (Amount n)) (sym is)
  where
    go : (o : Option Text) → IsSome (said_of_text (argument id stands Number default) o)
        → said_of_text (argument id stands Number default) o ≡ Some (Amount (option_and_then written_number o))
    go (Some text) fit = (mapped (written_number text) fit).0
    go None fit = unneeded (is_needed (argument id stands Number default)) (Some (Amount None)) fit

pub number_there : (rows : List Row) (id : Text) (stands : Stands) (default : Option Text)
    → IsSome (said_of rows (argument id stands Number default)) → is_needed (argument id stands Number default) ≡ true
    → IsSome (option_and_then written_number (first_of id rows))
unfolding said_of
number_there rows id stands default fit needed = go (first_of id rows) fit
  where
    go : (o : Option Text) → IsSome (said_of_text (argument id stands Number default) o) → IsSome (option_and_then written_number o)
    go (Some text) fit = (mapped (written_number text) fit).1
    go None fit = subst (λ (b : Bool). IsSome (if b then None else unsaid Number)) needed fit

-- a number with limits
counted_said : (least most : ℕ) (count : Option ℕ) → IsSome (counted least most count)
    → (counted least most count ≡ Some (Amount count)) × IsSome count
counted_said least most None fit = cc
counted_said least most (Some n) fit = (go (is_within least most n) fit, refl)
  where
    go : (b : Bool) → IsSome (if b then Some (Amount (Some n)) else None)
        → (if b then Some (Amount (Some n)) else None) ≡ Some (Amount (Some n))
    go true fit = refl
    go false fit = cc

pub count_said : (rows : List Row) (id : Text) (stands : Stands) (least most : ℕ) (default : Option Text) (count : Option ℕ)
    → IsSome (said_of rows (argument id stands (Count least most) default)) → count ≡ option_and_then count_in (first_of id rows)
    → said_of rows (argument id stands (Count least most) default) ≡ Some (Amount count)
unfolding said_of
count_said rows id stands least most default count fit is =
    go (first_of id rows) fit ∙ ap (λ (n : Option ℕ). Some (Amount n)) (sym is)
  where
    go : (o : Option Text) → IsSome (said_of_text (argument id stands (Count least most) default) o)
        → said_of_text (argument id stands (Count least most) default) o ≡ Some (Amount (option_and_then count_in o))
    go (Some text) fit = (counted_said least most (count_in text) fit).0
    go None fit = unneeded (is_needed (argument id stands (Count least most) default)) (Some (Amount None)) fit

pub count_there : (rows : List Row) (id : Text) (stands : Stands) (least most : ℕ) (default : Option Text)
    → IsSome (said_of rows (argument id stands (Count least most) default))
    → is_needed (argument id stands (Count least most) default) ≡ true
    → IsSome (option_and_then count_in (first_of id rows))
unfolding said_of
count_there rows id stands least most default fit needed = go (first_of id rows) fit
  where
    go : (o : Option Text) → IsSome (said_of_text (argument id stands (Count least most) default) o)
        → IsSome (option_and_then count_in o)
    go (Some text) fit = (counted_said least most (count_in text) fit).1
    go None fit = subst (λ (b : Bool). IsSome (if b then None else unsaid (Count least most))) needed fit

-- the same, and the least where it isn't used
start_by : (line : Line) (least most : ℕ) (o : Option Text) → line.takes ≡ Start least most → IsSome (said_of_text line o)
    → said_of_text line o ≡ Some (Amount (Some (unwrap_or (option_and_then count_in o) least)))
start_by line least most (Some text) takes fit =
    let same : said_by line.takes text ≡ counted least most (count_in text) = ap (λ (t : Takes). said_by t text) takes in
    let found = counted_said least most (count_in text) (subst (λ o. IsSome o) same fit) in
    same ∙ (found.0 ∙ ap (λ (n : Option ℕ). Some (Amount n)) (itself (count_in text) found.1))
  where
    itself : (n : Option ℕ) → IsSome n → n ≡ Some (unwrap_or n least)
    itself None some = cc
    itself (Some n) some = refl
start_by line least most None takes fit =
    let bare = unneeded (is_needed line) (unsaid line.takes) fit in
    let same : unsaid line.takes ≡ counted least most (Some least) = ap unsaid takes in
    bare ∙ (same ∙ (counted_said least most (Some least) (subst (λ o. IsSome o) (bare ∙ same) fit)).0)

pub start_said : (rows : List Row) (line : Line) (least most number : ℕ) → line.takes ≡ Start least most
    → IsSome (said_of rows line) → number ≡ unwrap_or (option_and_then count_in (first_of line.id rows)) least
    → said_of rows line ≡ Some (Amount (Some number))
unfolding said_of
start_said rows line least most number takes fit is =
    start_by line least most (first_of line.id rows) takes fit ∙ ap (λ (n : ℕ). Some (Amount (Some n))) (sym is)

-- a flag, and which ends are explained
pub flag_said : (rows : List Row) (id : Text) (stands : Stands) (default : Option Text) (used : Bool)
    → IsSome (said_of rows (argument id stands Nothing default)) → used ≡ is_true (first_of id rows)
    → said_of rows (argument id stands Nothing default) ≡ Some (Used used)
unfolding said_of
flag_said rows id stands default used fit is = go (first_of id rows) fit ∙ ap (λ (b : Bool). Some (Used b)) (sym is)
  where
    go : (o : Option Text) → IsSome (said_of_text (argument id stands Nothing default) o)
        → said_of_text (argument id stands Nothing default) o ≡ Some (Used (is_true o))
    go (Some text) fit = refl
    go None fit = unneeded (is_needed (argument id stands Nothing default)) (Some (Used false)) fit

pub ends_said : (rows : List Row) (id : Text) (stands : Stands) (default : Option Text) (why : Option Why)
    → IsSome (said_of rows (argument id stands Ends default)) → why ≡ option_and_then why_of (first_of id rows)
    → said_of rows (argument id stands Ends default) ≡ Some (Explained why)
unfolding said_of
ends_said rows id stands default why fit is = go (first_of id rows) fit ∙ ap (λ (w : Option Why). Some (Explained w)) (sym is)
  where
    go : (o : Option Text) → IsSome (said_of_text (argument id stands Ends default) o)
        → said_of_text (argument id stands Ends default) o ≡ Some (Explained (option_and_then why_of o))
    go (Some text) fit = refl
    go None fit = unneeded (is_needed (argument id stands Ends default)) (Some (Explained None)) fit

-- ---- the lines of the table, one after the other

abbrev RowRead : Type 0
RowRead = Bor Text × Bor Text × Bor (List ArgumentRead)

pub argument_more : (all : Bool) (app made : App) (lines : List ArgumentRead) (other : ArgumentRead) → 1 ≤ length lines
    → made ≡ with_rule app (rule all (line_of (slice_index_or lines 0 other)))
    → with_arguments all made (map line_of (take (length lines - 1) (drop 1 lines))) ≡ with_arguments all app (map line_of lines)
unfolding with_arguments
argument_more all app made [] other some is = absurd (omega (arith, some))
argument_more all app made (line ∷ lines) other some is =
    ap (λ ls. with_arguments all made (map line_of ls)) (take_all (length (line ∷ lines) - 1) lines (omega arith))
    ∙ ap (λ a. with_arguments all a (map line_of lines)) is

pub command_more : (all : Bool) (app made : App) (rows : List RowRead) (other : RowRead) → 1 ≤ length rows
    → made ≡ with_subcommand app (command all (entry_of (slice_index_or rows 0 other))).top
    → with_commands all made (map entry_of (take (length rows - 1) (drop 1 rows))) ≡ with_commands all app (map entry_of rows)
unfolding with_commands
command_more all app made [] other some is = absurd (omega (arith, some))
command_more all app made (row ∷ rows) other some is =
    ap (λ rs. with_commands all made (map entry_of rs)) (take_all (length (row ∷ rows) - 1) rows (omega arith))
    ∙ ap (λ a. with_commands all a (map entry_of rows)) is
