-- What is found of arguments, and the plans that it is.
use Rattle.std.proofs.Common.{◌≡◌, ◌∙◌, ℕ, ◌+◌, ◌*◌, ◌<◌, ◌≤◌, ◌^◌, List, [], ◌∷◌, refl, sym, ap, subst, codes, arith}
use Rattle.std.specs.Prelude.{Option, Some, None, IfSome, IsSomeAnd, IsTrue, IfOk, IfErr, Result}
use Rattle.std.specs.Prelude.{Ok, Err, true, false, Bool, ◌&&◌, nat_lt, nat_le}
use Rattle.std.specs.Prelude.{if◌then◌else◌, option_map, bytes_eq}
use Rattle.std.specs.List.{AllByRecursion, AllZip}
use Rattle.std.specs.Char.{digit_value}
use Rattle.std.specs.Str.Parse.{digits_value_after}
use Rattle.clap.specs.Words.{App, app_of, Row, Text, first_of}
use Rattle.clap.specs.declared.builder.command.Command.{Command}
use Rattle.command_line.specs.declared.plans.Plan.{Plan}
use Rattle.command_line.specs.declared.plans.Plan.TheVariants.{Go, Run, Audit, First}
use Rattle.command_line.specs.declared.table.Takes.{Takes}
use Rattle.command_line.specs.declared.table.Takes.TheVariants.{Nothing, Ends, Read, ReadBeside, Written, Count, Start, Number}
use Rattle.command_line.specs.CommandLine.{Line, Entry, Said, File, Amount, Used, Explained, are_numerals, number_after}
use Rattle.command_line.specs.CommandLine.{count_in, is_within, counted, said_by, unsaid, why_of}
use Rattle.command_line.specs.CommandLine.{said_of, said_of_text, is_needed, is_file, is_written}
use Rattle.command_line.specs.CommandLine.{written_number, files_found, files_said, are_apart, FileName}
use Rattle.command_line.specs.CommandLine.{AreSaid, KeepsLimits, IsWithin, name_said, name_of, said, lines_named}
use Rattle.command_line.specs.CommandLine.{commands, Says, IsScheduled, IsSound, NoPlanFits, may_stand, AreFit, HasAll}
use Rattle.std.proofs.lemmas.Nat.{mul-le}
use Rattle.std.proofs.lemmas.Slice.Eq.{bytes_eq-Decides}
use borrow.Author.Tests.{ltb-true, lt-ltb, leb-true}

pub if_err : {T E : Type 0} (r : Result T E) (P : Type 0) → P → IfErr r (λ _. P)
if_err (Ok x) P p = tt
if_err (Err e) P p = p

-- what a command is, in other words
pub told : {E : Type 0} (r : Result Command E) (a b : App) → IfOk r (λ c. app_of c ≡ a) → a ≡ b → IfOk r (λ c. app_of c ≡ b)
told r a b is e = subst (λ x. IfOk r (λ c. app_of c ≡ x)) e is

pub both : (a b : Bool) → (a && b) ≡ true → (a ≡ true) × (b ≡ true)
both true b e = (refl, e)
both false b e = cc

not_true : (b : Bool) → (b ≡ true → ⊥) → b ≡ false
not_true true never = absurd (never refl)
not_true false never = refl

-- ---- numbers

-- more digits write no less
grows : (radix number : ℕ) (digits : Text) → 1 ≤ radix → number ≤ digits_value_after radix number digits
grows radix number [] some = omega arith
grows radix number (d ∷ ds) some =
    omega (
      arith,
      mul-le number 1 number radix (omega arith) some,
      grows radix (number * radix + digit_value d) ds some,
    )

-- a digit more
one_digit : (radix number d : ℕ) (digits : Text) → digit_value d < radix
    → number_after radix number (d ∷ digits) ≡ number_after radix (number * radix + digit_value d) digits
one_digit radix number d digits less = rw (lt-ltb (digit_value d) radix less) refl

too_large : (radix number : ℕ) (digits : Text) → 1 ≤ radix → 2 ^ 64 ≤ number → number_after radix number digits ≡ None
too_large radix number digits some large =
    let more = grows radix number digits some in
    let test : (are_numerals radix digits && nat_lt (digits_value_after radix number digits) (2 ^ 64)) ≡ false =
    not_true _ (λ t.
    let parts = both (are_numerals radix digits) (nat_lt (digits_value_after radix number digits) (2 ^ 64)) t in
    let less = ltb-true (digits_value_after radix number digits) (2 ^ 64) parts.1 in
    absurd (omega (arith, more, large, less))) in
    ap (λ b. if b then Some (digits_value_after radix number digits) else None) test

-- a digit after which the number is too large
pub past_most : (radix number d : ℕ) (digits : Text) → 1 ≤ radix → digit_value d < radix → 2 ^ 64 ≤ number * radix + digit_value d
    → number_after radix number (d ∷ digits) ≡ None
past_most radix number d digits some less large =
    one_digit radix number d digits less ∙ too_large radix (number * radix + digit_value d) digits some large

-- ---- arguments

-- a number that is found keeps its limits
counted-kept : (least most : ℕ) (count : Option ℕ) (s : Said) → counted least most count ≡ Some s → IsWithin least most s
counted-kept least most None s e = cc
counted-kept least most (Some n) s e = go (is_within least most n) refl e
  where
    go : (b : Bool) → is_within least most n ≡ b → (if b then Some (Amount (Some n)) else None) ≡ Some s → IsWithin least most s
    go false is e = cc
    go true is e =
        let parts = both (nat_le least n) (nat_le n most) is in
        let one : Amount (Some n) ≡ s = cc in
        subst (λ x. IsWithin least most x) one (leb-true least n parts.0, leb-true n most parts.1)

by-kept : (takes : Takes) (text : Text) (s : Said) → said_by takes text ≡ Some s → KeepsLimits takes s
by-kept Nothing text s e = tt
by-kept Ends text s e = tt
by-kept Read text s e = tt
by-kept ReadBeside text s e = tt
by-kept Written text s e = tt
by-kept (Count least most) text s e = counted-kept least most (count_in text) s e
by-kept (Start least most) text s e = counted-kept least most (count_in text) s e
by-kept Number text s e = tt

un-kept : (takes : Takes) (s : Said) → unsaid takes ≡ Some s → KeepsLimits takes s
un-kept Nothing s e = tt
un-kept Ends s e = tt
un-kept Read s e = tt
un-kept ReadBeside s e = tt
un-kept Written s e = tt
un-kept (Count least most) s e = let none : Amount None ≡ s = cc in subst (λ x. IsWithin least most x) none tt
un-kept (Start least most) s e = counted-kept least most (Some least) s e
un-kept Number s e = tt

-- where an argument need not be there, nothing is found of one that must be
unneeded : (needed : Bool) (o : Option Said) (s : Said) → (if needed then None else o) ≡ Some s → o ≡ Some s
unneeded true o s e = cc
unneeded false o s e = e

text-kept : (line : Line) (text : Option Text) (s : Said) → said_of_text line text ≡ Some s → KeepsLimits line.takes s
text-kept line (Some text) s e = by-kept line.takes text s e
text-kept line None s e = un-kept line.takes s (unneeded (is_needed line) (unsaid line.takes) s e)

kept : (rows : List Row) (line : Line) (s : Said) → said_of rows line ≡ Some s → KeepsLimits line.takes s
unfolding said_of
kept rows line s e = text-kept line (first_of line.id rows) s e

all_kept : (rows : List Row) (lines : List Line) (saids : List Said) → AreSaid rows lines saids
    → AllZip (λ line said. KeepsLimits line.takes said) lines saids
all_kept rows [] [] are = tt
all_kept rows [] (s ∷ saids) are = are
all_kept rows (line ∷ lines) [] are = are
all_kept rows (line ∷ lines) (s ∷ saids) are = (kept rows line s are.0, all_kept rows lines saids are.1)

-- the names of files among what is said are those that were found
counted-unnamed : (least most : ℕ) (count : Option ℕ) (s : Said) → counted least most count ≡ Some s → None ≡ name_said s
counted-unnamed least most None s e = cc
counted-unnamed least most (Some n) s e = go (is_within least most n) e
  where
    go : (b : Bool) → (if b then Some (Amount (Some n)) else None) ≡ Some s → None ≡ name_said s
    go false e = cc
    go true e = let one : Amount (Some n) ≡ s = cc in ap name_said one

number-unnamed : (number : Option ℕ) (s : Said) → option_map (λ n. Amount (Some n)) number ≡ Some s → None ≡ name_said s
number-unnamed None s e = cc
number-unnamed (Some n) s e = let one : Amount (Some n) ≡ s = cc in ap name_said one

beside-named : (text : Text) (is_input : Bool) (s : Said) → (if is_input then None else Some (File (Some text))) ≡ Some s
    → Some text ≡ name_said s
beside-named text true s e = cc
beside-named text false s e = let one : File (Some text) ≡ s = cc in ap name_said one

by-named : (takes : Takes) (text : Text) (s : Said) → said_by takes text ≡ Some s
    → (if is_file takes then Some text else None) ≡ name_said s
by-named Nothing text s e = let one : Used (bytes_eq text (codes "true")) ≡ s = cc in ap name_said one
by-named Ends text s e = let one : Explained (why_of text) ≡ s = cc in ap name_said one
by-named Read text s e = let one : File (Some text) ≡ s = cc in ap name_said one
by-named ReadBeside text s e = beside-named text (bytes_eq text (codes "-")) s e
by-named Written text s e = let one : File (Some text) ≡ s = cc in ap name_said one
by-named (Count least most) text s e = counted-unnamed least most (count_in text) s e
by-named (Start least most) text s e = counted-unnamed least most (count_in text) s e
by-named Number text s e = number-unnamed (written_number text) s e

un-named : (takes : Takes) (s : Said) → unsaid takes ≡ Some s → (if is_file takes then None else None) ≡ name_said s
un-named Nothing s e = let one : Used false ≡ s = cc in ap name_said one
un-named Ends s e = let one : Explained None ≡ s = cc in ap name_said one
un-named Read s e = let one : File None ≡ s = cc in ap name_said one
un-named ReadBeside s e = let one : File None ≡ s = cc in ap name_said one
un-named Written s e = let one : File None ≡ s = cc in ap name_said one
un-named (Count least most) s e = let one : Amount None ≡ s = cc in ap name_said one
un-named (Start least most) s e = counted-unnamed least most (Some least) s e
un-named Number s e = let one : Amount None ≡ s = cc in ap name_said one

text-named : (line : Line) (text : Option Text) (s : Said) → said_of_text line text ≡ Some s
    → (if is_file line.takes then text else None) ≡ name_said s
text-named line (Some text) s e = by-named line.takes text s e
text-named line None s e = un-named line.takes s (unneeded (is_needed line) (unsaid line.takes) s e)

named : (rows : List Row) (line : Line) (s : Said) → said_of rows line ≡ Some s
    → (if is_file line.takes then first_of line.id rows else None) ≡ name_said s
unfolding said_of
named rows line s e = text-named line (first_of line.id rows) s e

pub files-found : (rows : List Row) (lines : List Line) (saids : List Said) → AreSaid rows lines saids
    → files_found rows lines ≡ files_said lines saids
files-found rows [] [] are = refl
files-found rows [] (s ∷ saids) are = absurd are
files-found rows (line ∷ lines) [] are = absurd are
files-found rows (line ∷ lines) (s ∷ saids) are =
    let here = named rows line s are.0 in
    let rest = files-found rows lines saids are.1 in
    ap (λ (name : Option Text). let one : FileName = (is_written line.takes, name) in one ∷ files_found rows lines) here
    ∙ ap (λ (files : List FileName). let one : FileName = (is_written line.takes, name_said s) in one ∷ files) rest

-- files that are not apart as they were found are not as they are said
pub not_apart : (rows : List Row) (lines : List Line) (apart : Bool) → apart ≡ are_apart (files_found rows lines) → apart ≡ false
    → (saids : List Said) → AreSaid rows lines saids → IsTrue (are_apart (files_said lines saids)) → ⊥
not_apart rows lines apart is fails saids are claimed = let same = ap are_apart (files-found rows lines saids are) in cc

-- ---- plans

scheduled : (plan : Plan)
    → IfSome (lines_named (name_of plan) commands) (λ lines. AllZip (λ line said. KeepsLimits line.takes said) lines (said plan))
    → IsScheduled plan
unfolding commands
scheduled (Go request why reports) k = record {
  some_step = k.1.0.0;
  some_times = k.1.1.0.0;
  most_steps = mul-le request.steps request.times 10000000000 10000 k.1.0.1 k.1.1.0.1;
  some_gap = k.1.1.1.1.0.0;
  most_gap = k.1.1.1.1.0.1;
  most_tick = k.1.1.1.1.1.0.1;
}
scheduled (Run request why reports) k = record {
  some_step = k.1.0.0;
  some_times = k.1.1.0.0;
  most_steps = mul-le request.steps request.times 100000000 1000000 k.1.0.1 k.1.1.0.1;
  some_gap = k.1.1.1.1.0.0;
  most_gap = k.1.1.1.1.0.1;
  most_tick = k.1.1.1.1.1.0.1;
}
scheduled (Audit request) k = record {
  some_step = k.1.0.0;
  some_times = k.1.1.0.0;
  most_steps = mul-le request.steps request.times 100000000 1000000 k.1.0.1 k.1.1.0.1;
  some_gap = k.1.1.1.1.0.0;
  most_gap = k.1.1.1.1.0.1;
  most_tick = k.1.1.1.1.1.0.1;
}
scheduled _ k = tt

-- a plan that says what was found of arguments, with no file written over another, is sound
pub sound : (name : Text) (rows : List Row) (plan : Plan) (lines : List Line) → lines_named name commands ≡ Some lines
    → Says name rows plan → IsTrue (are_apart (files_found rows lines)) → IsSound plan
sound name rows plan lines is says apart =
    let here : lines_named (name_of plan) commands ≡ Some lines = ap (λ n. lines_named n commands) (sym says.0) ∙ is in
    let are : AreSaid rows lines (said plan) = subst (λ o. IsSomeAnd o (λ l. AreSaid rows l (said plan))) is says.1 in
    let all : IfSome (lines_named (name_of plan) commands) (λ l. AllZip (λ line said. KeepsLimits line.takes said) l (said plan)) =
    subst (λ o. IfSome o (λ l. AllZip (λ line said. KeepsLimits line.takes said) l (said plan))) (sym here)
    (all_kept rows lines (said plan) are) in
    let files : IfSome (lines_named (name_of plan) commands) (λ l. IsTrue (are_apart (files_said l (said plan)))) =
    subst (λ o. IfSome o (λ l. IsTrue (are_apart (files_said l (said plan))))) (sym here)
    (subst (λ f. IsTrue (are_apart f)) (files-found rows lines (said plan) are) apart) in
    (scheduled plan all, all, files)

-- the first image is a sound plan
pub first_sound : IsSound First
unfolding commands
first_sound = (tt, tt, tt)

-- no command has another name than those of the table
another : (name other : Text) → (name ≡ other → ⊥) → bytes_eq name other ≡ false
another name other differ = not_true (bytes_eq name other) (λ same. differ ((bytes_eq-Decides name other).0 same))

none_named : (name : Text) (rows : List Entry) → AllByRecursion (λ row. name ≡ row.name → ⊥) rows → lines_named name rows ≡ None
none_named name [] all = refl
none_named name (row ∷ rows) all =
    ap (λ b. if b then Some row.lines else lines_named name rows) (another name row.name all.0) ∙ none_named name rows all.1

pub no_other : (name : Text) (rows : List Row) → AllByRecursion (λ row. name ≡ row.name → ⊥) commands → HasAll name rows → ⊥
no_other name rows others has = subst (λ o. IsSomeAnd o (AreFit rows)) (none_named name commands others) has

-- no plan is of a name that no command has
pub no_command : (name : Text) (rows : List Row) → None ≡ lines_named name commands → NoPlanFits (Some (name, rows))
no_command name rows is plan fits sound = subst (λ o. IsSomeAnd o (λ lines. AreSaid rows lines (said plan))) (sym is) fits.0.1

-- nor where nothing that is said of the arguments is sound
pub no_plan : (name : Text) (rows : List Row) (lines : List Line) → lines_named name commands ≡ Some lines
    → ((saids : List Said) → AreSaid rows lines saids → IsTrue (may_stand rows) → IsTrue (are_apart (files_said lines saids)) → ⊥)
    → NoPlanFits (Some (name, rows))
no_plan name rows lines is never plan fits sound =
    let here : lines_named (name_of plan) commands ≡ Some lines = ap (λ n. lines_named n commands) (sym fits.0.0) ∙ is in
    let are : AreSaid rows lines (said plan) = subst (λ o. IsSomeAnd o (λ l. AreSaid rows l (said plan))) is fits.0.1 in
    let files : IsTrue (are_apart (files_said lines (said plan))) =
    subst (λ o. IfSome o (λ l. IsTrue (are_apart (files_said l (said plan))))) here sound.2 in
    never (said plan) are fits.1 files
