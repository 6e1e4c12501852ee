-- The command line: the command that clap reads the words by, and what a plan says of clap's matches. Both go by the lines of the table.
use Rattle.std.specs.Prelude.{◌≡◌, ◌≤◌, ◌*◌, ◌^◌, ◌==◌, ℕ, Bool, not, ◌&&◌, ◌||◌, if◌then◌else◌, IsTrue, List, [], ◌∷◌, ◌++◌}
use Rattle.std.specs.Prelude.{map, length, drop, Option, Some, None, true, false, bytes_eq, codes, option_map, option_and_then, is_some, ⊤}
use Rattle.std.specs.Prelude.{IsSome, IsSomeAnd, IfSome, nat_lt, nat_le}
use Rattle.std.specs.List.{AllByRecursion, AllZip, list_all, starts_with}
use Rattle.std.specs.Borrow.{Bor}
use Rattle.std.specs.Char.{digit_value}
use Rattle.std.specs.Str.Parse.{digits_value_after, without_leading_plus}
use Rattle.clap.specs.Words.{App, Row, Rule, Text, fault_of, first_of, new_app, new_rule, subcommand_of, with_rule, with_subcommand}
use Rattle.clap.specs.declared.builder.action.ArgAction.TheVariants.{SetTrue}
use Rattle.command_line.specs.declared.plans.Plan.{Plan}
use Rattle.command_line.specs.declared.plans.Plan.TheVariants.{Asm, Image, Go, Run, Audit, Prove, Dis, Debug, Bounds, Word, First}
use Rattle.command_line.specs.declared.plans.RunRequest.{RunRequest}
use Rattle.command_line.specs.declared.plans.Why.{Why}
use Rattle.command_line.specs.declared.plans.Why.TheVariants.{Unfetched, All, Double}
use Rattle.command_line.specs.declared.table.Stands.{Stands}
use Rattle.command_line.specs.declared.table.Stands.TheVariants.{Operand, Optional, Named, Required, Flag, FlagOrAll}
use Rattle.command_line.specs.declared.table.Takes.{Takes}
use Rattle.command_line.specs.declared.table.Takes.TheVariants.{Nothing, Ends, Read, ReadBeside, Written, Count, Start, Number}
use Rattle.command_line.specs.declared.table.TheConstants.{COMMANDS, STEPS, GO_STEPS, TIMES, GO_TIMES, RUN_GAP, RUN_TICK}
use Rattle.command_line.specs.declared.table.TheConstants.{INPUT, STATUS, TRACE, TRACE_FROM, TRACE_LAST, POLICY, RUN_LABELS, RUN_LINES}

-- an argument: its id, how it stands among the words, what it takes, and its value where it isn't used
pub record Line : Type 0 where
  pub id : Text
  pub stands : Stands
  pub takes : Takes
  pub default : Option Text

-- a command: its name and its arguments
pub record Entry : Type 0 where
  pub name : Text
  pub lines : List Line

abbrev pub argument : Text → Stands → Takes → Option Text → Line
argument id stands takes default = record { id = id; stands = stands; takes = takes; default = default }

abbrev pub entry : Text → List Line → Entry
entry name lines = record { name = name; lines = lines }

-- the commands of the table
unfoldable pub commands : List Entry
commands = map (λ row. entry row.0.now (map (λ a. argument a.0.now a.1 a.2 (option_map (λ t. t.now) a.3)) row.2.now)) COMMANDS

-- a line of the table as code looks at it
abbrev pub ArgumentRead : Type 0
ArgumentRead = Bor Text × Stands × Takes × Option (Bor Text) × (Bor Text × Bor Text × Bor Text)

abbrev pub line_of : ArgumentRead → Line
line_of a = argument a.0.now a.1 a.2 (option_map (λ t. t.now) a.3)

abbrev pub entry_of : (Bor Text × Bor Text × Bor (List ArgumentRead)) → Entry
entry_of row = entry row.0.now (map line_of row.2.now)

-- ---- the command that clap reads the words by

-- a word that must be there, a word that need not, --ID VALUE, the same where it must be there, or --ID; and where the words have
-- --why=all or --why=double, --why takes a value too
abbrev pub as_stands : Bool → Stands → Text → Rule → Rule
as_stands all Operand id rule = record rule { required = true }
as_stands all Optional id rule = rule
as_stands all Named id rule = record rule { long = Some id; value_names = 1 }
as_stands all Required id rule = record rule { required = true; long = Some id; value_names = 1 }
as_stands all Flag id rule = record rule { long = Some id; action = Some SetTrue }
as_stands true FlagOrAll id rule = record rule { long = Some id; value_names = 1 }
as_stands false FlagOrAll id rule = record rule { long = Some id; action = Some SetTrue }

-- its value where it isn't used
abbrev pub by_default : Option Text → Rule → Rule
by_default None rule = rule
by_default (Some value) rule = record rule { defaults = value ∷ [] }

-- the rule of an argument's line
unfoldable pub rule : Bool → Line → Rule
rule all line = by_default line.default (as_stands all line.stands line.id (new_rule line.id))

-- a command with the arguments of these lines
unfoldable pub with_arguments : Bool → App → List Line → App
with_arguments all app [] = app
with_arguments all app (line ∷ lines) = with_arguments all (with_rule app (rule all line)) lines

-- the command of a line
unfoldable pub command : Bool → Entry → App
command all row = with_arguments all (new_app row.name) row.lines

-- the program with the commands of these lines
unfoldable pub with_commands : Bool → App → List Entry → App
with_commands all app [] = app
with_commands all app (row ∷ rows) = with_commands all (with_subcommand app (command all row).top) rows

unfoldable pub program : Bool → App
program all = with_commands all (new_app (codes "cherisim")) commands

-- a word that says which ends of a run are explained
abbrev pub names_ends : Text → Bool
names_ends word = bytes_eq word (codes "--why=all") || bytes_eq word (codes "--why=double")

-- one of the words is one, before any --
abbrev pub asks_all : List Text → Bool
asks_all [] = false
asks_all (word ∷ words) = not (bytes_eq word (codes "--")) && (names_ends word || asks_all words)

-- the command that reads these words, the program's name first
abbrev pub program_of : List Text → App
program_of words = program (asks_all words)

-- clap finds nothing wrong with the words; and the name and the matches of the command that it finds in them
abbrev pub IsTaken : List Text → Type 0
IsTaken words = fault_of (program_of words) words ≡ []

abbrev pub found_in : List Text → Option (Text × List Row)
found_in words = subcommand_of (program_of words) words

-- ---- what is found of an argument

-- the name of a file, if one is named; a number, if there is one; whether a flag is used; or which ends of a run are explained
pub data Said : Type 0 where
  File : Option Text → Said
  Amount : Option ℕ → Said
  Used : Bool → Said
  Explained : Option Why → Said

-- what is left of digits without each `_`
abbrev pub ungrouped : Text → Text
ungrouped [] = []
ungrouped (b ∷ bs) = if b == 95 then ungrouped bs else b ∷ ungrouped bs

-- each `_` stands between two digits, of which there is one at least
abbrev pub is_grouped_after : Bool → Text → Bool
is_grouped_after digit [] = digit
is_grouped_after digit (b ∷ bs) = if b == 95 then digit && is_grouped_after false bs else is_grouped_after true bs

abbrev pub is_grouped : Text → Bool
is_grouped digits = is_grouped_after false digits

-- digits of the radix, and nothing else
abbrev pub are_numerals : ℕ → Text → Bool
are_numerals radix digits = list_all (λ digit. nat_lt (digit_value digit) radix) digits

-- the number below 2 ^ 64 that digits write, after those of a number
abbrev pub number_after : ℕ → ℕ → Text → Option ℕ
number_after radix number digits =
    if are_numerals radix digits && nat_lt (digits_value_after radix number digits) (2 ^ 64)
    then Some (digits_value_after radix number digits) else None

-- the number below 2 ^ 64 that digits write, with `_` between them or not
unfoldable pub number_in : ℕ → Text → Option ℕ
number_in radix digits = if is_grouped digits then number_after radix 0 (ungrouped digits) else None

-- hexadecimal digits after `0x`, or else decimal digits; a sign is neither
abbrev pub is_hexadecimal : Text → Bool
is_hexadecimal text = starts_with (λ a b. a == b) text (codes "0x")

unfoldable pub written_number : Text → Option ℕ
written_number text = if is_hexadecimal text then number_in 16 (drop 2 text) else number_in 10 text

-- the same for a number with limits, of which a plus may stand before the decimal digits
unfoldable pub count_in : Text → Option ℕ
count_in text = if is_hexadecimal text then number_in 16 (drop 2 text) else number_in 10 (without_leading_plus text)

-- a number from `least` to `most`
abbrev pub is_within : ℕ → ℕ → ℕ → Bool
is_within least most number = nat_le least number && nat_le number most

-- with --why those ends where an instruction was not fetched, with --why=all all, with --why=double a trap while another is open
abbrev pub why_of : Text → Option Why
why_of text =
    if bytes_eq text (codes "true") then Some Unfetched else if bytes_eq text (codes "all") then Some All
    else if bytes_eq text (codes "double") then Some Double else None

-- a number from `least` to `most` is said
abbrev pub counted : ℕ → ℕ → Option ℕ → Option Said
counted least most None = None
counted least most (Some number) = if is_within least most number then Some (Amount (Some number)) else None

-- what an argument says by its text
abbrev pub said_by : Takes → Text → Option Said
said_by Nothing text = Some (Used (bytes_eq text (codes "true")))
said_by Ends text = Some (Explained (why_of text))
said_by Read text = Some (File (Some text))
said_by ReadBeside text = if bytes_eq text (codes "-") then None else Some (File (Some text))
said_by Written text = Some (File (Some text))
said_by (Count least most) text = counted least most (count_in text)
said_by (Start least most) text = counted least most (count_in text)
said_by Number text = option_map (λ number. Amount (Some number)) (written_number text)

-- and where it isn't used
abbrev pub unsaid : Takes → Option Said
unsaid Nothing = Some (Used false)
unsaid Ends = Some (Explained None)
unsaid Read = Some (File None)
unsaid ReadBeside = Some (File None)
unsaid Written = Some (File None)
unsaid (Count least most) = Some (Amount None)
unsaid (Start least most) = counted least most (Some least)
unsaid Number = Some (Amount None)

abbrev pub must_stand : Stands → Bool
must_stand Operand = true
must_stand Required = true
must_stand _ = false

abbrev pub is_start : Takes → Bool
is_start (Start least most) = true
is_start _ = false

-- it has a text wherever clap takes the words: it must be there, or has a default value
abbrev pub is_needed : Line → Bool
is_needed line = must_stand line.stands || is_some line.default

-- what clap found of an argument, where that is what the argument takes
abbrev pub said_of_text : Line → Option Text → Option Said
said_of_text line (Some text) = said_by line.takes text
said_of_text line None = if is_needed line then None else unsaid line.takes

unfoldable pub said_of : List Row → Line → Option Said
said_of rows line = said_of_text line (first_of line.id rows)

-- ---- rules between arguments

-- an argument is used
abbrev pub is_used : Text → List Row → Bool
is_used id rows = is_some (first_of id rows)

-- ends are explained
abbrev pub asks_why : List Row → Bool
asks_why rows = is_some (option_and_then why_of (first_of (codes "why") rows))

-- the text of a flag that is used
abbrev pub is_true : Option Text → Bool
is_true None = false
is_true (Some text) = bytes_eq text (codes "true")

-- --trace-from and --trace-last go with --trace, --policy does not go with --why, and --address of `bounds` goes with LENGTH
abbrev pub may_stand : List Row → Bool
may_stand rows =
    (is_used (codes "trace") rows || not (is_used (codes "trace-from") rows || is_used (codes "trace-last") rows))
    && (not (is_used (codes "policy") rows && asks_why rows)
    && (is_used (codes "LENGTH") rows || not (is_used (codes "address") rows)))

-- whether a file is written, and its name, if one is named
abbrev pub FileName : Type 0
FileName = Bool × Option Text

abbrev pub is_file : Takes → Bool
is_file Read = true
is_file ReadBeside = true
is_file Written = true
is_file _ = false

abbrev pub is_written : Takes → Bool
is_written Written = true
is_written _ = false

abbrev pub have_one_name : Option Text → Option Text → Bool
have_one_name (Some a) (Some b) = bytes_eq a b
have_one_name _ _ = false

-- the names of a command's files, as clap found them
abbrev pub files_found : List Row → List Line → List FileName
files_found rows = map (λ line. (is_written line.takes, if is_file line.takes then first_of line.id rows else None))

-- a file that is read from standard input
abbrev pub is_input : Option Text → Bool
is_input name = have_one_name name (Some (codes "-"))

-- Of two files of a command of which one is written the names differ; so standard input is one of them at most.
abbrev pub are_two : FileName → FileName → Bool
are_two a b = not (((a.0 || b.0) || is_input a.1) && have_one_name a.1 b.1)

abbrev pub are_apart : List FileName → Bool
are_apart [] = true
are_apart (file ∷ files) = list_all (are_two file) files && are_apart files

-- ---- the plan

-- the name of a plan's command
abbrev pub name_of : Plan → Text
name_of (Asm input output symbols lines quiet) = codes "asm"
name_of (Image flat output layout quiet) = codes "image"
name_of (Go request why reports) = codes "go"
name_of (Run request why reports) = codes "run"
name_of (Audit request) = codes "audit"
name_of (Prove request) = codes "prove"
name_of (Dis image symbols header quiet) = codes "dis"
name_of (Debug image symbols lines input gap tick quiet) = codes "debug"
name_of (Bounds base length address json) = codes "bounds"
name_of (Word high low memory json) = codes "word"
name_of First = []

abbrev file : Option (Bor Text) → Said
file name = File (option_map (λ n. n.now) name)

abbrev its_file : Bor Text → Said
its_file name = File (Some name.now)

abbrev amount : ℕ → Said
amount number = Amount (Some number)

-- what a run that is asked for says of its arguments, with what is said of others between them
abbrev pub said_of_lines : RunRequest → List Said → List Said
said_of_lines run between =
    file run.input ∷ amount run.gap ∷ amount run.tick ∷ Used run.quiet
    ∷ (between ++ (file run.trace ∷ amount run.trace_from ∷ Amount run.trace_last ∷ file run.policy ∷ file run.symbols
    ∷ file run.lines ∷ []))

abbrev pub said_of_run : RunRequest → List Said → List Said
said_of_run run between = its_file run.image ∷ amount run.steps ∷ amount run.times ∷ said_of_lines run between

-- the arguments that `go`, `run` and `audit` share, after the file and the numbers of steps
abbrev pub run_lines : List Line
run_lines =
    map (λ a. argument a.0.now a.1 a.2 (option_map (λ t. t.now) a.3))
    (INPUT ∷ RUN_GAP ∷ RUN_TICK ∷ STATUS ∷ TRACE ∷ TRACE_FROM ∷ TRACE_LAST ∷ POLICY ∷ RUN_LABELS ∷ RUN_LINES ∷ [])

-- what a plan says of each argument of its command, in the order of the table; with one number alone `bounds` has a length
abbrev pub said : Plan → List Said
said (Asm input output symbols lines quiet) = its_file input ∷ its_file output ∷ file symbols ∷ file lines ∷ Used quiet ∷ []
said (Image flat output layout quiet) =
    its_file flat ∷ its_file output ∷ Amount layout.at ∷ Amount layout.entry ∷ Amount layout.pages ∷ Amount layout.mode
    ∷ Used layout.flat_elf ∷ Used quiet ∷ []
said (Go request why reports) = said_of_run request (Explained why ∷ file reports.profile ∷ file reports.calls ∷ Used request.json ∷ [])
said (Run request why reports) = said_of_run request (Explained why ∷ file reports.profile ∷ file reports.calls ∷ Used request.json ∷ [])
said (Audit request) = said_of_run request (Used request.json ∷ [])
said (Prove request) =
    its_file request.image ∷ its_file request.policy ∷ file request.symbols ∷ file request.lines ∷ amount request.steps
    ∷ Used request.quiet ∷ []
said (Dis image symbols header quiet) = its_file image ∷ file symbols ∷ Used header ∷ Used quiet ∷ []
said (Debug image symbols lines input gap tick quiet) =
    its_file image ∷ file symbols ∷ file lines ∷ file input ∷ Amount gap ∷ Amount tick ∷ Used quiet ∷ []
said (Bounds None length address json) = amount length ∷ Amount None ∷ Amount address ∷ Used json ∷ []
said (Bounds (Some base) length address json) = amount base ∷ amount length ∷ Amount address ∷ Used json ∷ []
said (Word high low memory json) = amount high ∷ amount low ∷ Used memory ∷ Used json ∷ []
said First = []

-- the arguments of the command of a name
abbrev pub lines_named : Text → List Entry → Option (List Line)
lines_named name [] = None
lines_named name (row ∷ rows) = if bytes_eq name row.name then Some row.lines else lines_named name rows

-- for each argument something that it takes was found, and of each argument this
abbrev pub AreFit : List Row → List Line → Type 0
AreFit rows = AllByRecursion (λ line. IsSome (said_of rows line))

abbrev pub AreSaid : List Row → List Line → List Said → Type 0
AreSaid rows = AllZip (λ line said. said_of rows line ≡ Some said)

-- the plan is of the command of this name, and says of each of its arguments what clap found
abbrev pub Says : Text → List Row → Plan → Type 0
Says name rows plan = (name ≡ name_of plan) × IsSomeAnd (lines_named name commands) (λ lines. AreSaid rows lines (said plan))

-- each argument of that command is what it takes
abbrev pub HasAll : Text → List Row → Type 0
HasAll name rows = IsSomeAnd (lines_named name commands) (AreFit rows)

-- the plan is what clap found in the words
abbrev pub IsPlanOf : Option (Text × List Row) → Plan → Type 0
IsPlanOf None plan = plan ≡ First
IsPlanOf (Some found) plan = Says found.0 found.1 plan × IsTrue (may_stand found.1)

-- the limits of a count
abbrev pub limits : Takes → ℕ × ℕ
limits (Count least most) = (least, most)
limits (Start least most) = (least, most)
limits _ = (0, 0)

-- those of a run's numbers, with the names of their arguments
abbrev pub run_limits : List (Text × (ℕ × ℕ))
run_limits = map (λ a. (a.0.now, limits a.2)) (STEPS ∷ TIMES ∷ GO_STEPS ∷ GO_TIMES ∷ RUN_GAP ∷ RUN_TICK ∷ [])

-- the numbers of a run lie within their limits, and there are at most 10^14 steps in all
pub record AreInRange (run : RunRequest) : Type 0 where
  pub some_step : (limits STEPS.2).0 ≤ run.steps
  pub some_times : (limits TIMES.2).0 ≤ run.times
  pub most_steps : run.steps * run.times ≤ 10 ^ 14
  pub some_gap : (limits RUN_GAP.2).0 ≤ run.gap
  pub most_gap : run.gap ≤ (limits RUN_GAP.2).1
  pub most_tick : run.tick ≤ (limits RUN_TICK.2).1

abbrev pub IsScheduled : Plan → Type 0
IsScheduled (Go request why reports) = AreInRange request
IsScheduled (Run request why reports) = AreInRange request
IsScheduled (Audit request) = AreInRange request
IsScheduled _ = ⊤

-- and so does each number that is said of a count
abbrev pub IsWithin : ℕ → ℕ → Said → Type 0
IsWithin least most (Amount (Some number)) = (least ≤ number) × (number ≤ most)
IsWithin least most _ = ⊤

abbrev pub KeepsLimits : Takes → Said → Type 0
KeepsLimits (Count least most) said = IsWithin least most said
KeepsLimits (Start least most) said = IsWithin least most said
KeepsLimits _ said = ⊤

-- the names of the files among what is said
abbrev pub name_said : Said → Option Text
name_said (File name) = name
name_said _ = None

abbrev pub files_said : List Line → List Said → List FileName
files_said (line ∷ lines) (said ∷ others) = (is_written line.takes, name_said said) ∷ files_said lines others
files_said _ _ = []

-- the numbers of a plan keep their limits, and no file is written over one that is read, nor written twice
abbrev pub IsSound : Plan → Type 0
IsSound plan =
    IsScheduled plan
    × IfSome (lines_named (name_of plan) commands) (λ lines. AllZip (λ line said. KeepsLimits line.takes said) lines (said plan))
    × IfSome (lines_named (name_of plan) commands) (λ lines. IsTrue (are_apart (files_said lines (said plan))))

-- nothing that clap found of these arguments may stand, with no file written over another
abbrev pub NothingStands : List Row → List Line → Type 0
NothingStands rows lines =
    (saids : List Said) → AreSaid rows lines saids → IsTrue (may_stand rows) → IsTrue (are_apart (files_said lines saids)) → ⊥

-- nothing that clap found is a sound plan
abbrev pub NoPlanFits : Option (Text × List Row) → Type 0
NoPlanFits found = (plan : Plan) → IsPlanOf found plan → IsSound plan → ⊥
