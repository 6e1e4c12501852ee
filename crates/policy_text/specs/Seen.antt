-- How an answer speaks of a text: what memory holds as the specification's own values, and faults that are the text's unless there was no
-- memory.
use Rattle.std.specs.Prelude.{◌≡◌, ℕ, Bool, true, List, ◌++◌, map, zip, option_map, Result, Ok, Err}
use Rattle.std.specs.List.{list_any}
use Rattle.policy.specs.Terms.{Terms, terms, terms_of}
use Rattle.policy_text.specs.declared.fault.PolicyCode.{PolicyCode}
use Rattle.policy_text.specs.declared.fault.PolicyTextFault.{PolicyTextFault}
use Rattle.policy_text.specs.declared.fault.PolicyTextFault.TheVariants as text_fault
use Rattle.policy_text.specs.declared.fault.Fault.{Fault}
use Rattle.policy_text.specs.declared.fault.Fault.TheVariants as fault
use Rattle.policy_text.specs.declared.ranges.Named.{Named}
use Rattle.policy_text.specs.declared.parts.Parts.{Parts as HeldParts}
use Rattle.policy_text.specs.declared.line.Line.{Line as HeldLine}
use Rattle.policy_text.specs.declared.line.Line.TheVariants as held
use Rattle.policy_text.specs.declared.reading.Policy.{Policy}
use Rattle.policy_text.specs.Policy.{Definition, Parts, Line, has_word, uncommented, nothing, definition, rule, any_code, Read, ◌>>=◌}

-- What a function returned, seen so, is what reading gives, unless there was no memory.
abbrev pub Fails : {B : Type 0} → Fault → Result B PolicyCode → Type 0
Fails fault.Memory reading = Unit {0}
Fails (fault.Code code) reading = reading ≡ Err code

abbrev pub Gives : {A B : Type 0} → (A → B) → Result A Fault → Result B PolicyCode → Type 0
Gives seen (Ok x) reading = reading ≡ Ok (seen x)
Gives seen (Err fault) reading = Fails fault reading

-- the same of a function that leaves a value in place of the one that it was given
abbrev pub Leaves : {A B : Type 0} → B → Result A Fault → Result B PolicyCode → Type 0
Leaves left (Ok x) reading = reading ≡ Ok left
Leaves left (Err fault) reading = Fails fault reading

-- and of one that appends what was read
abbrev pub Adds : {A B : Type 0} → List B → List B → Result A Fault → Result (List B) PolicyCode → Type 0
Adds old new result reading = Leaves new result (reading >>= λ more. Ok (old ++ more))

abbrev pub seen_named : Named → Definition
seen_named n = record { name = n.name.now; ranges = n.ranges.items }

abbrev pub seen_names : List Named → List Definition
seen_names names = map seen_named names

abbrev pub seen_parts : HeldParts → Parts
seen_parts p =
    record {
      store = option_map (λ ranges. ranges.items) p.store;
      load = option_map (λ ranges. ranges.items) p.load;
      execute = option_map (λ ranges. ranges.items) p.execute;
      keep = option_map (λ ranges. ranges.items) p.keep;
      enter = option_map (λ ranges. ranges.items) p.enter;
      transmit = p.transmit;
      halt = p.halt;
      timer = p.timer;
      system = p.system;
      seal = p.seal;
      types = option_map (λ types. types.items) p.types;
      or_caller = p.or_caller;
    }

abbrev pub seen_line : HeldLine → Line
seen_line held.Nothing = nothing
seen_line (held.Definition n) = definition (seen_named n)
seen_line (held.Rule r) = rule (terms r)
seen_line (held.AnyCode ranges) = any_code ranges.items

-- the rules of a policy with the numbers of their lines
abbrev pub seen : Policy → List (ℕ × Terms)
seen policy = zip policy.lines.items (terms_of policy.rules.items)

-- the same with the definitions and the ranges of any code, while the text is read
abbrev pub read : List Named → Policy → Read
read definitions policy = record { definitions = seen_names definitions; rules = seen policy; any = policy.any.items }

-- the fault of a text, unless there was no memory
abbrev pub IsFaultOf : {A : Type 0} → Result A (ℕ × PolicyCode) → PolicyTextFault → Type 0
IsFaultOf reading (text_fault.Line line code) = reading ≡ Err (line, code)
IsFaultOf reading text_fault.Memory = Unit {0}

-- want of memory comes only of a text with a line that has a word before its comment
abbrev pub has_words : List (List ℕ) → Bool
has_words lines = list_any (λ line. has_word (uncommented line)) lines

abbrev pub ComesOf : List (List ℕ) → PolicyTextFault → Type 0
ComesOf lines (text_fault.Line line code) = Unit {0}
ComesOf lines text_fault.Memory = has_words lines ≡ true
