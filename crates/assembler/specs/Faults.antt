-- What is assembled so far, and the first fault of the next line.
use Rattle.std.specs.Prelude.{ℕ, ◌+◌, ◌%◌, Bool, true, false, not, ◌&&◌, ◌||◌, ◌==◌, nat_lt, nat_le, if◌then◌else◌, List, [], ◌∷◌}
use Rattle.std.specs.Prelude.{◌++◌, length, Option, Some, None, is_some}
use Rattle.std.specs.Option.{option_or}
use Rattle.base.specs.FirstFault.{first_fault}
use Rattle.base.specs.Ram.{ram_base, ram_end}
use Rattle.image.specs.declared.cap_entry.CapEntry.{CapEntry}
use Rattle.image.specs.Image.{Section}
use Rattle.asm_lines.specs.declared.fault.LineFault.{LineFault}
use Rattle.asm_lines.specs.declared.fault.LineFault.TheVariants as line
use Rattle.asm_lines.specs.Operand.{wrapped}
use Rattle.asm_lines.specs.Statement.{Statement, instruction, setting, origin, Setting, pages, mode, entry}
use Rattle.asm_lines.specs.Line.{Line}
use Rattle.assembler.specs.declared.fault.AsmCode.{AsmCode}
use Rattle.assembler.specs.declared.fault.AsmCode.TheVariants.{A1, A2, A3, A4, A5, A6, A7, A8, A9, A11}
use Rattle.assembler.specs.declared.misplaced.Misplaced.{Misplaced}
use Rattle.assembler.specs.declared.misplaced.Misplaced.TheVariants.{BelowRam, PastRam, Taken, TooManySections, CodeAskew, CapabilityAskew}
use Rattle.assembler.specs.declared.misplaced.Misplaced.TheVariants.{TooManyCapabilities}
use Rattle.assembler.specs.Places.{Symbols, Places, value_in, size_at, places_after, opening_places}
use Rattle.assembler.specs.Values.{has_value_beyond, has_unknown_name, is_out_of_reach}
use Rattle.assembler.specs.Bytes.{bytes_at, value_at}
use Rattle.assembler.specs.Capabilities.{capability_in, is_inexact, with_capability}

-- what the lines so far set and place: the finished sections in ascending order, none of them empty, and the one that is being filled
pub record Assembled : Type 0 where
  pub places : Places
  pub pages : Option ℕ
  pub mode : Option Bool
  pub entry : Option ℕ
  -- whether there was a statement other than .pages and .mode
  pub begun : Bool
  pub done : List Section
  pub current : Section
  -- in ascending order of place
  pub capabilities : List CapEntry

abbrev pub given : {A : Type 0} → A → Option A → A
given default None = default
given default (Some a) = a

abbrev pub page_count : Assembled → ℕ
page_count s = given 1 s.pages

-- ---- faults

-- a directive that is repeated, or comes too late (A2)
abbrev pub is_misplaced : Assembled → Statement → Bool
is_misplaced s (setting (pages n)) = is_some s.pages || s.begun
is_misplaced s (setting (mode m)) = is_some s.mode || s.begun
is_misplaced s (setting (entry e)) = is_some s.entry
is_misplaced s other = false

-- whether a statement's bytes are an instruction's
abbrev pub is_instruction : Statement → Bool
is_instruction (instruction i) = true
is_instruction other = false

-- some byte from a place to an end lies in one of the sections
abbrev pub is_taken : ℕ → ℕ → List Section → Bool
is_taken from to [] = false
is_taken from to (s ∷ ss) = (nat_lt from (s.address + length s.bytes) && nat_lt s.address to) || is_taken from to ss

-- Why bytes have no place, in this order: outside RAM, where an earlier line places one, the first byte of a 65th section; or an
-- instruction at no multiple of 4. No byte has always its place.
abbrev pub place_checks : Assembled → ℕ → ℕ → Bool → List (Bool × Misplaced)
place_checks s place size is_code =
    (not (nat_lt place ram_base), BelowRam)
    ∷ (not (nat_lt (ram_end (page_count s)) (place + size)), PastRam)
    ∷ (not (is_taken place (place + size) s.done), Taken)
    ∷ (not ((length s.current.bytes == 0) && nat_le 64 (length s.done)), TooManySections)
    ∷ (not (is_code && not (place % 4 == 0)), CodeAskew)
    ∷ []

-- why a capability has none where its bytes have one: at no multiple of 16, or as the 1025th
abbrev pub granule_checks : Assembled → ℕ → List (Bool × Misplaced)
granule_checks s place =
    (place % 16 == 0, CapabilityAskew) ∷ (not (nat_le 1024 (length s.capabilities)), TooManyCapabilities) ∷ []

abbrev pub misplaced_bytes : Assembled → ℕ → ℕ → Bool → Option Misplaced
misplaced_bytes s place size is_code = if nat_lt 0 size then first_fault (place_checks s place size is_code) else None

abbrev pub misplaced_capability : Assembled → Option (List ℕ) → ℕ → Option Misplaced
misplaced_capability s None place = None
misplaced_capability s (Some operands) place = first_fault (granule_checks s place)

abbrev pub misplaced : Assembled → Statement → Option Misplaced
misplaced s statement =
    option_or (misplaced_bytes s s.places.place (size_at statement s.places.place) (is_instruction statement))
    (misplaced_capability s (capability_in statement) s.places.place)

-- a statement that has no place (A7)
abbrev pub lacks_place_for : Assembled → Statement → Bool
lacks_place_for s statement = is_some (misplaced s statement)

-- a test of the statement that a line leaves, if it leaves one
abbrev pub does : (Statement → Bool) → Option Statement → Bool
does test None = false
does test (Some statement) = test statement

-- the label was defined before
abbrev pub is_repeated : Assembled → Option (List ℕ) → Bool
is_repeated s None = false
is_repeated s (Some name) = is_some (value_in s.places.symbols name)

abbrev pub is_statement_misplaced : Assembled → Option Statement → Bool
is_statement_misplaced s statement = does (is_misplaced s) statement

-- the line alone has another first fault, or none
abbrev pub number_of : LineFault → ℕ
number_of line.A1 = 1
number_of line.A2 = 2
number_of line.A3 = 3
number_of line.A8 = 8
number_of line.A9 = 9

abbrev pub lacks : LineFault → Option LineFault → Bool
lacks fault None = true
lacks fault (Some other) = not (number_of other == number_of fault)

-- The conditions on a line, in the order in which their faults are reported. `symbols` are those of the whole text.
abbrev pub line_checks : Symbols → Assembled → Line → List (Bool × AsmCode)
line_checks symbols s l =
    (lacks line.A8 l.fault, A8)
    ∷ (lacks line.A9 l.fault, A9)
    ∷ (not (is_repeated s l.label), A4)
    ∷ (lacks line.A1 l.fault, A1)
    ∷ (lacks line.A2 l.fault && not (is_statement_misplaced s l.statement), A2)
    ∷ (lacks line.A3 l.fault && not (does (has_value_beyond symbols s.places.place) l.statement), A3)
    ∷ (not (does (has_unknown_name symbols s.places.place) l.statement), A5)
    ∷ (not (does (is_out_of_reach (page_count s) symbols s.places.place) l.statement), A6)
    ∷ (not (does (lacks_place_for s) l.statement), A7)
    ∷ (not (does (is_inexact symbols s.places.place) l.statement), A11)
    ∷ []

unfoldable pub line_fault : Symbols → Assembled → Line → Option AsmCode
line_fault symbols s l = first_fault (line_checks symbols s l)

-- ---- what a line without a fault does

-- a section among sections in ascending order
abbrev pub inserted : Section → List Section → List Section
inserted s [] = s ∷ []
inserted s (t ∷ ts) = if nat_lt s.address t.address then s ∷ t ∷ ts else (t ∷ inserted s ts)

-- an empty section is left out
abbrev pub closed : List Section → Section → List Section
closed done current = if length current.bytes == 0 then done else inserted current done

abbrev pub empty_at : ℕ → Section
empty_at address = record { address = address; bytes = [] }

abbrev pub filled : Section → List ℕ → Section
filled s bytes = record { address = s.address; bytes = s.bytes ++ bytes }

abbrev pub with_bytes : Assembled → List ℕ → Assembled
with_bytes s bytes = record s { begun = true; current = filled s.current bytes }

abbrev pub with_setting : Symbols → Assembled → Setting → Assembled
with_setting symbols s (pages n) = record s { pages = Some n }
with_setting symbols s (mode m) = record s { mode = Some m }
with_setting symbols s (entry e) = record s { begun = true; entry = Some (wrapped (value_at symbols s.places.place e)) }

abbrev pub with_statement : Symbols → Assembled → Statement → Assembled
with_statement symbols s (setting t) = with_setting symbols s t
with_statement symbols s (origin n) = record s { begun = true; done = closed s.done s.current; current = empty_at n }
with_statement symbols s other =
    record (with_bytes s (bytes_at symbols s.places.place other)) {
      capabilities = with_capability symbols s.places.place (capability_in other) s.capabilities;
    }

abbrev pub with_statement_of : Symbols → Assembled → Option Statement → Assembled
with_statement_of symbols s None = s
with_statement_of symbols s (Some statement) = with_statement symbols s statement

unfoldable pub assembled_after : Symbols → Assembled → Line → Assembled
assembled_after symbols s l = record (with_statement_of symbols s l.statement) { places = places_after l s.places }

abbrev pub opening : Assembled
opening =
    record {
      places = opening_places;
      pages = None;
      mode = None;
      entry = None;
      begun = false;
      done = [];
      current = empty_at ram_base;
      capabilities = [];
    }
