-- Policies as texts: lines that define ranges by name, lines that are rules about the code in ranges, and lines that name ranges of any
-- code; and the first faulty line.
use Rattle.std.specs.Prelude.{ℕ, ◌+◌, ◌-◌, ◌^◌, Bool, true, false, not, ◌&&◌, ◌||◌, ◌==◌, nat_lt, nat_le, if◌then◌else◌}
use Rattle.std.specs.Prelude.{List, [], ◌∷◌, ◌++◌, length}
use Rattle.std.specs.Prelude.{drop, get_or, slice_index, Option, Some, None, option_map, unwrap_or, ok_or, Result, Ok, Err, codes}
use Rattle.std.specs.Option.{is_some}
use Rattle.std.specs.List.{before_first}
use Rattle.asm_lines.specs.Text.{is_digit, is_name, is_dot, pieces_between, trimmed}
use Rattle.asm_lines.specs.Statement.{is_word}
use Rattle.symbols.specs.Symbols.{Symbol, lines_of}
use Rattle.asm_lines.specs.Words.{words_of, number_between, read_number}
use Rattle.symbols.specs.Symbols.{address_in}
use Rattle.devices.specs.Devices.{halt, timer, timer_compare, transmit, receive, status, control_register}
use Rattle.reach.specs.declared.range.Range.{Range}
use Rattle.policy.specs.Terms.{Terms}
use Rattle.policy_text.specs.declared.fault.PolicyCode.{PolicyCode}
use Rattle.policy_text.specs.declared.fault.PolicyCode.TheVariants.{P1, P2, P3, P4, P5, P6, P7, P8}
use Rattle.policy_text.specs.declared.part.Part.{Part}
use Rattle.policy_text.specs.declared.part.Part.TheVariants.{Store, Load, Execute, Keep, Enter, Transmit, Halt, Timer, System}
use Rattle.policy_text.specs.declared.part.Part.TheVariants.{Seal, Types, OrCaller}

-- a name and the ranges that it stands for
pub record Definition : Type 0 where
  pub name : List ℕ
  pub ranges : List Range

-- reading goes on with what was read, unless that was faulty
infixl 10 ◌>>=◌
abbrev pub ◌>>=◌ : {A B : Type 0} → Result A PolicyCode → (A → Result B PolicyCode) → Result B PolicyCode
(Ok x) >>= f = f x
(Err code) >>= f = Err code

-- ---- how a line is cut

-- a line up to its comment, which begins with `#`
abbrev pub uncommented : List ℕ → List ℕ
uncommented line = before_first (λ b. b == 35) line

-- the two sides of a cut, with a byte more before it
abbrev pub with_byte : ℕ → Option (List ℕ × List ℕ) → Option (List ℕ × List ℕ)
with_byte b (Some sides) = Some (b ∷ sides.0, sides.1)
with_byte b None = None

-- what stands before the first such byte and after it, if there is one
abbrev pub cut_at : ℕ → List ℕ → Option (List ℕ × List ℕ)
cut_at byte [] = None
cut_at byte (b ∷ bs) = if b == byte then Some ([], bs) else with_byte b (cut_at byte bs)

-- the same of the first two dots in a row
abbrev pub cut_at_dots : List ℕ → Option (List ℕ × List ℕ)
cut_at_dots [] = None
cut_at_dots (b ∷ bs) = if (b == 46) && (slice_index bs 0 == 46) then Some ([], drop 1 bs) else with_byte b (cut_at_dots bs)

-- ---- ranges

-- a number of at most so much, or P4
abbrev pub number_up_to : ℕ → List ℕ → Result ℕ PolicyCode
number_up_to most word = ok_or (read_number (number_between 0 most word)) P4

-- FROM or TO: a number or a label, or else P4 where it begins with a digit, and P2 where it doesn't
abbrev pub address_or_code : List Symbol → List ℕ → Result ℕ PolicyCode
address_or_code symbols word = ok_or (address_in symbols word) (if is_digit (slice_index word 0) then P4 else P2)

-- where so many bytes from an address on end: at 2 ^ 64 at most
abbrev pub end_of : ℕ → ℕ → Result ℕ PolicyCode
end_of from length = if nat_le (from + length) (2 ^ 64) then Ok (from + length) else Err P4

-- TO, or a plus and LENGTH
abbrev pub to_of : List Symbol → ℕ → List ℕ → Result ℕ PolicyCode
to_of symbols from word =
    if slice_index word 0 == 43 then number_up_to (2 ^ 64 - 1) (drop 1 word) >>= end_of from else address_or_code symbols word

abbrev pub range : ℕ → ℕ → Range
range from to = record { from = from; to = to }

-- a range that ends after it begins, or P5
abbrev pub filled : ℕ → ℕ → Result Range PolicyCode
filled from to = if nat_lt from to then Ok (range from to) else Err P5

-- the range that the texts before two dots and after them say
unfoldable pub range_of : List Symbol → List ℕ → List ℕ → Result Range PolicyCode
range_of symbols before after = do
  from ← address_or_code symbols before
  to ← to_of symbols from after
  filled from to

-- the ranges of a name
abbrev pub defined : List Definition → List ℕ → Option (List Range)
defined [] name = None
defined (d ∷ ds) name = if is_word d.name name then Some d.ranges else defined ds name

-- the device registers: the name of each, and where it begins
abbrev pub device_names : List (List ℕ × ℕ)
device_names =
    (codes "halt", halt)
    ∷ (codes "mtimecmp", timer_compare)
    ∷ (codes "mtime", timer)
    ∷ (codes "transmit", transmit)
    ∷ (codes "receive", receive)
    ∷ (codes "status", status)
    ∷ (codes "control", control_register)
    ∷ []

abbrev pub device_among : List (List ℕ × ℕ) → List ℕ → Option ℕ
device_among [] name = None
device_among (d ∷ ds) name = if is_word name d.0 then Some d.1 else device_among ds name

unfoldable pub device_named : List ℕ → Option ℕ
device_named name = device_among device_names name

-- the bytes of a device register
abbrev pub register : ℕ → Range
register from = range from (from + 8)

-- the ranges of a name: those that a line defines, or a device register's
abbrev pub by_name : Option (List Range) → Option ℕ → Result (List Range) PolicyCode
by_name (Some ranges) device = Ok ranges
by_name None (Some from) = Ok (register from ∷ [])
by_name None None = Err P2

-- the ranges of a word: one, or those of a name
abbrev pub ranges_by : List Symbol → List Definition → List ℕ → Option (List ℕ × List ℕ) → Result (List Range) PolicyCode
ranges_by symbols definitions word (Some sides) = range_of symbols sides.0 sides.1 >>= λ one. Ok (one ∷ [])
ranges_by symbols definitions word None = by_name (defined definitions word) (device_named word)

unfoldable pub ranges_in : List Symbol → List Definition → List ℕ → Result (List Range) PolicyCode
ranges_in symbols definitions word = ranges_by symbols definitions word (cut_at_dots word)

abbrev pub ranges_of : List Symbol → List Definition → List (List ℕ) → Result (List Range) PolicyCode
ranges_of symbols definitions [] = Ok []
ranges_of symbols definitions (word ∷ words) = do
  first ← ranges_in symbols definitions word
  others ← ranges_of symbols definitions words
  Ok (first ++ others)

-- RANGES: those of one word or more, or a code where there is no word
abbrev pub ranges_or : PolicyCode → List Symbol → List Definition → List (List ℕ) → Result (List Range) PolicyCode
ranges_or code symbols definitions [] = Err code
ranges_or code symbols definitions (word ∷ words) = ranges_of symbols definitions (word ∷ words)

-- ---- the parts of a rule

abbrev pub part_names : List (List ℕ × Part)
part_names =
    (codes "store", Store)
    ∷ (codes "load", Load)
    ∷ (codes "execute", Execute)
    ∷ (codes "keep", Keep)
    ∷ (codes "enter", Enter)
    ∷ (codes "transmit", Transmit)
    ∷ (codes "halt", Halt)
    ∷ (codes "timer", Timer)
    ∷ (codes "system", System)
    ∷ (codes "seal", Seal)
    ∷ (codes "types", Types)
    ∷ (codes "or", OrCaller)
    ∷ []

abbrev pub part_among : List (List ℕ × Part) → List ℕ → Option Part
part_among [] word = None
part_among (p ∷ ps) word = if is_word word p.0 then Some p.1 else part_among ps word

unfoldable pub part_named : List ℕ → Option Part
part_named word = part_among part_names word

-- what the parts of a rule so far say, each where it was there
pub record Parts : Type 0 where
  pub store : Option (List Range)
  pub load : Option (List Range)
  pub execute : Option (List Range)
  pub keep : Option (List Range)
  pub enter : Option (List Range)
  pub transmit : Option Bool
  pub halt : Option Bool
  pub timer : Option Bool
  pub system : Option Bool
  pub seal : Option Bool
  pub types : Option (List ℕ)
  pub or_caller : Bool

abbrev pub no_parts : Parts
no_parts =
    record {
      store = None;
      load = None;
      execute = None;
      keep = None;
      enter = None;
      transmit = None;
      halt = None;
      timer = None;
      system = None;
      seal = None;
      types = None;
      or_caller = false;
    }

abbrev pub has_part : Parts → Part → Bool
has_part parts Store = is_some parts.store
has_part parts Load = is_some parts.load
has_part parts Execute = is_some parts.execute
has_part parts Keep = is_some parts.keep
has_part parts Enter = is_some parts.enter
has_part parts Transmit = is_some parts.transmit
has_part parts Halt = is_some parts.halt
has_part parts Timer = is_some parts.timer
has_part parts System = is_some parts.system
has_part parts Seal = is_some parts.seal
has_part parts Types = is_some parts.types
has_part parts OrCaller = parts.or_caller

-- `within RANGES`, or `no`
abbrev pub within_of : List Symbol → List Definition → List (List ℕ) → Result (List Range) PolicyCode
within_of symbols definitions [] = Err P8
within_of symbols definitions (word ∷ words) =
    if is_word word (codes "within") then ranges_or P8 symbols definitions words
    else (if is_word word (codes "no") && (length words == 0) then Ok [] else Err P8)

-- `yes`, or `no`
abbrev pub answer_of : List (List ℕ) → Result Bool PolicyCode
answer_of [] = Err P8
answer_of (word ∷ words) =
    if not (length words == 0) then Err P8
    else (if is_word word (codes "yes") then Ok true else (if is_word word (codes "no") then Ok false else Err P8))

-- object types, or `none`
abbrev pub numbers_of : List (List ℕ) → Result (List ℕ) PolicyCode
numbers_of [] = Ok []
numbers_of (word ∷ words) = do
  first ← number_up_to 0x3FFFB word
  others ← numbers_of words
  Ok (first ∷ others)

abbrev pub types_of : List (List ℕ) → Result (List ℕ) PolicyCode
types_of [] = Err P8
types_of (word ∷ words) =
    if is_word word (codes "none") then (if length words == 0 then Ok [] else Err P8) else numbers_of (word ∷ words)

-- `caller`, after `or`
abbrev pub caller_of : List (List ℕ) → Result Bool PolicyCode
caller_of [] = Err P8
caller_of (word ∷ words) = if is_word word (codes "caller") && (length words == 0) then Ok true else Err P8

-- the parts with one more: what its words after its name say
abbrev pub with_part : List Symbol → List Definition → Parts → List (List ℕ) → Part → Result Parts PolicyCode
with_part symbols definitions parts words Store = within_of symbols definitions words >>= λ said. Ok (record parts { store = Some said })
with_part symbols definitions parts words Load = within_of symbols definitions words >>= λ said. Ok (record parts { load = Some said })
with_part symbols definitions parts words Execute =
    within_of symbols definitions words >>= λ said. Ok (record parts { execute = Some said })
with_part symbols definitions parts words Keep = within_of symbols definitions words >>= λ said. Ok (record parts { keep = Some said })
with_part symbols definitions parts words Enter = within_of symbols definitions words >>= λ said. Ok (record parts { enter = Some said })
with_part symbols definitions parts words Transmit = answer_of words >>= λ said. Ok (record parts { transmit = Some said })
with_part symbols definitions parts words Halt = answer_of words >>= λ said. Ok (record parts { halt = Some said })
with_part symbols definitions parts words Timer = answer_of words >>= λ said. Ok (record parts { timer = Some said })
with_part symbols definitions parts words System = answer_of words >>= λ said. Ok (record parts { system = Some said })
with_part symbols definitions parts words Seal = answer_of words >>= λ said. Ok (record parts { seal = Some said })
with_part symbols definitions parts words Types = types_of words >>= λ said. Ok (record parts { types = Some said })
with_part symbols definitions parts words OrCaller = caller_of words >>= λ said. Ok (record parts { or_caller = said })

-- a part that the rule has not, or P7
abbrev pub new_part : Parts → Part → Result Part PolicyCode
new_part parts part = if has_part parts part then Err P7 else Ok part

abbrev pub part_read : List Symbol → List Definition → Parts → List (List ℕ) → Result Parts PolicyCode
part_read symbols definitions parts [] = Err P6
part_read symbols definitions parts (name ∷ words) =
    ok_or (part_named name) P6 >>= new_part parts >>= with_part symbols definitions parts words

abbrev pub parts_read : List Symbol → List Definition → Parts → List (List ℕ) → Result Parts PolicyCode
parts_read symbols definitions parts [] = Ok parts
parts_read symbols definitions parts (text ∷ texts) =
    part_read symbols definitions parts (words_of text) >>= λ more. parts_read symbols definitions more texts

-- ---- what a line says

-- every address
abbrev pub everywhere : List Range
everywhere = range 0 (2 ^ 64) ∷ []

-- the device registers that parts of their own are about, for stores
abbrev pub spoken_of : List Range
spoken_of = register halt ∷ register timer_compare ∷ register transmit ∷ []

-- the rule of these parts: one that isn't there forbids nothing, and without `or caller` nothing of its caller's is allowed
abbrev pub said : List Range → Parts → Terms
said code parts =
    record {
      code = code;
      store = unwrap_or (option_map (λ ranges. ranges ++ spoken_of) parts.store) everywhere;
      load = unwrap_or parts.load everywhere;
      execute = unwrap_or parts.execute everywhere;
      keep = unwrap_or parts.keep everywhere;
      enter = unwrap_or parts.enter everywhere;
      transmit = unwrap_or parts.transmit true;
      halt = unwrap_or parts.halt true;
      timer = unwrap_or parts.timer true;
      system = unwrap_or parts.system true;
      seal = unwrap_or parts.seal true;
      types = parts.types;
      or_caller = parts.or_caller;
    }

-- the words after `when pc in`, if words begin so
abbrev pub after_when : List (List ℕ) → Option (List (List ℕ))
after_when [] = None
after_when (a ∷ []) = None
after_when (a ∷ b ∷ []) = None
after_when (a ∷ b ∷ c ∷ words) =
    if is_word a (codes "when") && (is_word b (codes "pc") && is_word c (codes "in")) then Some words else None

-- the words after `any code in`, if words begin so
abbrev pub after_any : List (List ℕ) → Option (List (List ℕ))
after_any [] = None
after_any (a ∷ []) = None
after_any (a ∷ b ∷ []) = None
after_any (a ∷ b ∷ c ∷ words) =
    if is_word a (codes "any") && (is_word b (codes "code") && is_word c (codes "in")) then Some words else None

-- `when pc in RANGES`, or P1
abbrev pub code_by : List Symbol → List Definition → Option (List (List ℕ)) → Result (List Range) PolicyCode
code_by symbols definitions (Some words) = ranges_or P1 symbols definitions words
code_by symbols definitions None = Err P1

abbrev pub code_of : List Symbol → List Definition → List (List ℕ) → Result (List Range) PolicyCode
code_of symbols definitions words = code_by symbols definitions (after_when words)

-- the rule that the texts before a colon and after it say
unfoldable pub rule_of : List Symbol → List Definition → List ℕ → List ℕ → Result Terms PolicyCode
rule_of symbols definitions before after = do
  code ← code_of symbols definitions (words_of before)
  parts ← parts_read symbols definitions no_parts (pieces_between after)
  Ok (said code parts)

-- one word that is a name, or P1
abbrev pub name_of : List (List ℕ) → Result (List ℕ) PolicyCode
name_of [] = Err P1
name_of (word ∷ words) = if is_name word && (not (is_dot word) && (length words == 0)) then Ok word else Err P1

-- a name that isn't defined and is no device register's, or P3
abbrev pub new_name : List Definition → List ℕ → Result (List ℕ) PolicyCode
new_name definitions name = if is_some (defined definitions name) || is_some (device_named name) then Err P3 else Ok name

-- the definition that the texts before an equals sign and after it say
unfoldable pub definition_of : List Symbol → List Definition → List ℕ → List ℕ → Result Definition PolicyCode
definition_of symbols definitions before after = do
  name ← name_of (words_of before) >>= new_name definitions
  ranges ← ranges_or P1 symbols definitions (words_of after)
  Ok (record { name = name; ranges = ranges })

-- what a line says
pub data Line : Type 0 where
  nothing : Line
  definition : Definition → Line
  rule : Terms → Line
  any_code : List Range → Line

-- `any code in RANGES`, or P1
abbrev pub any_line : List Symbol → List Definition → List (List ℕ) → Result Line PolicyCode
any_line symbols definitions words = code_by symbols definitions (after_any words) >>= λ ranges. Ok (any_code ranges)

-- a line without an equals sign: a rule, or where it has no colon what it says of any code
abbrev pub rule_line : List Symbol → List Definition → List ℕ → Option (List ℕ × List ℕ) → Result Line PolicyCode
rule_line symbols definitions line (Some sides) = rule_of symbols definitions sides.0 sides.1 >>= λ r. Ok (rule r)
rule_line symbols definitions line None = any_line symbols definitions (words_of line)

-- a line with a word
abbrev pub line_by : List Symbol → List Definition → List ℕ → Option (List ℕ × List ℕ) → Result Line PolicyCode
line_by symbols definitions line (Some sides) = definition_of symbols definitions sides.0 sides.1 >>= λ d. Ok (definition d)
line_by symbols definitions line None = rule_line symbols definitions line (cut_at 58 line)

-- whether a line without its comment says anything
abbrev pub has_word : List ℕ → Bool
has_word line = not (length (words_of line) == 0)

unfoldable pub line_of : List Symbol → List Definition → List ℕ → Result Line PolicyCode
line_of symbols definitions line =
    if length (words_of line) == 0 then Ok nothing else line_by symbols definitions line (cut_at 61 line)

-- ---- the whole text

-- what the lines so far say: the definitions, the rules with the numbers of their lines, and the ranges of any code
pub record Read : Type 0 where
  pub definitions : List Definition
  pub rules : List (ℕ × Terms)
  pub any : List Range

abbrev pub nothing_read : Read
nothing_read = record { definitions = []; rules = []; any = [] }

abbrev pub with_line : ℕ → Read → Line → Read
with_line number read nothing = read
with_line number read (definition d) = record read { definitions = read.definitions ++ d ∷ [] }
with_line number read (rule r) = record read { rules = read.rules ++ (number, r) ∷ [] }
with_line number read (any_code ranges) = record read { any = read.any ++ ranges }

-- reading goes on with what a line says, or ends with its number and its fault
abbrev pub at_line : {A B : Type 0} → ℕ → Result A PolicyCode → (A → Result B (ℕ × PolicyCode)) → Result B (ℕ × PolicyCode)
at_line number (Ok x) f = f x
at_line number (Err code) f = Err (number, code)

abbrev pub policy_from : List Symbol → ℕ → Read → List (List ℕ) → Result (List (ℕ × Terms)) (ℕ × PolicyCode)
policy_from symbols number read [] = Ok read.rules
policy_from symbols number read (line ∷ lines) =
    at_line number (line_of symbols read.definitions (uncommented line))
    (λ said. policy_from symbols (number + 1) (with_line number read said) lines)

-- the rules of a text with the numbers of their lines, or the number of the first faulty line, counted from 1, and its fault
abbrev pub policy_of : List Symbol → List ℕ → Result (List (ℕ × Terms)) (ℕ × PolicyCode)
policy_of symbols text = policy_from symbols 1 nothing_read (lines_of text)

-- the ranges of any code of a text that is read: what goes on with what a line says, and of a faulty line none
abbrev pub any_then : Result Line PolicyCode → (Line → List Range) → List Range
any_then (Ok said) f = f said
any_then (Err code) f = []

abbrev pub any_from : List Symbol → ℕ → Read → List (List ℕ) → List Range
any_from symbols number read [] = read.any
any_from symbols number read (line ∷ lines) =
    any_then (line_of symbols read.definitions (uncommented line))
    (λ said. any_from symbols (number + 1) (with_line number read said) lines)

abbrev pub any_code_of : List Symbol → List ℕ → List Range
any_code_of symbols text = any_from symbols 1 nothing_read (lines_of text)

-- a line by its number, counted from 1, without its comment and without blanks at its ends; of none nothing
unfoldable pub line_text : List ℕ → ℕ → List ℕ
line_text text number = trimmed (uncommented (get_or (lines_of text) (number - 1) []))
