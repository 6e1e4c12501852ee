-- What the files of a run hold: its image, its labels, the policy that it is watched or audited by, and what is typed.
use Rattle.std.specs.Prelude.{◌≡◌, ◌⊎◌, ◌≤◌, ◌<◌, ℕ, ◌+◌, ◌*◌, List, [], length, Option, Some, None, Ok, Err, IfSome, IsSomeAnd, vec_len, ⊤}
use Rattle.std.specs.Borrow.{Bor}
use Rattle.command_line.specs.declared.plans.RunRequest.{RunRequest}
use Rattle.hart.specs.Opening.{opening}
use Rattle.image.specs.Image.{Image}
use Rattle.machine.specs.Run.{run_after}
use Rattle.policy.specs.Terms.{Terms, terms_of}
use Rattle.policy_text.specs.declared.reading.Policy.{Policy}
use Rattle.policy_text.specs.Policy.{any_code_of, policy_of}
use Rattle.policy_text.specs.Seen.{seen}
use Rattle.schedules.specs.declared.schedule.Schedule.{Schedule}
use Rattle.schedules.specs.Schedule.{IsRunnable, events_before, scheduled}
use Rattle.steps.specs.declared.event.Event.{Event}
use Rattle.steps.specs.State.{State}
use Rattle.symbols.specs.Symbols.{Symbol}
use Rattle.commands.specs.declared.loading.LoadedRun.{LoadedRun}
use Rattle.commands.specs.declared.loading.Rules.{Rules}
use Rattle.commands.specs.declared.fault.ProgramFault.{ProgramFault}
use Rattle.commands.specs.declared.fault.ProgramFault.TheVariants as program
use Rattle.commands.specs.Files.{Text, File, Holds, IsReading, bytes_of}
use Rattle.commands.specs.Programs.{FailsToLoadProgram, IsProgramLoaded}

-- ---- a run

-- its image, the labels that it is told with, when its bytes and ticks come, and the bytes that come on the console
pub record Run : Type 0 where
  pub image : Image
  pub table : List Symbol
  pub schedule : Schedule
  pub input : List ℕ

-- the events of a run before the step of a number, where one is given, and else all
abbrev pub events_to : Option ℕ → Run → List Event
events_to number run = events_before number run.schedule run.input (opening run.image)

-- the state of its machine after events
abbrev pub state_after : List Event → Run → State
state_after events run = run_after events (opening run.image)

-- ---- the files

abbrev pub schedule_of : RunRequest → Schedule
schedule_of request = record { steps = request.steps * request.times; gap = request.gap; tick = request.tick }

-- What is read of a file that is typed: no more than can come.
abbrev pub IsTyped : Schedule → Option (Bor Text) → Option (List File) → List ℕ → Type 0
IsTyped schedule None files typed = typed ≡ []
IsTyped schedule (Some name) files typed =
    IfSome (bytes_of name.now files) (λ input. (s : State) → scheduled schedule typed s ≡ scheduled schedule input s)

-- A policy is the text of a file, with labels of a table, and says these rules, and in which ranges the code may be any.
pub record IsPolicyOf (text : Text) (table : List Symbol) (policy : Policy) : Type 0 where
  pub said : policy_of table text ≡ Ok (seen policy)
  pub any : policy.any.items ≡ any_code_of table text

-- The rules are those that a file says, if one is named.
abbrev pub AreRules : Option (Bor Text) → List Symbol → Option (List File) → Option Rules → Type 0
AreRules None table files rules = rules ≡ None
AreRules (Some name) table files rules =
    IsSomeAnd rules (λ rules. IfSome (bytes_of name.now files) (λ text. rules.text.items ≡ text)
    × IsPolicyOf rules.text.items table rules.policy)

abbrev pub terms_in : Rules → List Terms
terms_in rules = terms_of rules.policy.rules.items

-- A run that is asked for, of which each file holds what it is to hold.
pub record IsLoaded (asked : RunRequest) (files : Option (List File)) (loaded : LoadedRun) : Type 0 where
  pub request : loaded.request ≡ asked
  pub schedule : loaded.schedule ≡ schedule_of asked
  pub program : IsProgramLoaded asked.image.now asked.symbols asked.lines files loaded.image loaded.table
  pub rules : AreRules asked.policy loaded.table files loaded.rules
  pub input : IsTyped (schedule_of asked) asked.input files loaded.input.items

abbrev pub run_of : LoadedRun → Run
run_of loaded =
    record { image = loaded.image; table = loaded.table; schedule = loaded.schedule; input = loaded.input.items }

-- Each rule has the number of its line.
abbrev pub AreNumbered : Rules → Type 0
AreNumbered rules = vec_len rules.policy.rules ≡ vec_len rules.policy.lines

-- what code asks of a run
pub record IsReady (loaded : LoadedRun) : Type 0 where
  pub range : IsRunnable loaded.schedule
  pub numbered : IfSome loaded.rules AreNumbered

-- ---- faults

-- a fault of a file that is to hold a policy: a text that is too long, or the system's
abbrev pub IsPolicyTextFault : Text → Option (List File) → ProgramFault → Type 0
IsPolicyTextFault policy files (program.LongPolicy name) =
    (name.now ≡ policy) × IfSome (bytes_of policy files) (λ text. 0x10_0000 < length text)
IsPolicyTextFault policy files other = IsReading policy other

-- a fault of a text that is to be a policy: its first faulty line and what is wrong with it, or no memory
abbrev pub IsPolicyFault : Text → Text → List Symbol → ProgramFault → Type 0
IsPolicyFault policy text table (program.Policy name line code) = (name.now ≡ policy) × (policy_of table text ≡ Err (line, code))
IsPolicyFault policy text table program.Memory = ⊤
IsPolicyFault policy text table other = ⊥

-- why a file gives no policy: its text can't be read; or it is, and isn't a policy with these labels
abbrev pub IsRulesFault : Text → List Symbol → Option (List File) → ProgramFault → Type 0
IsRulesFault policy table files fault =
    IsPolicyTextFault policy files fault ⊎ ((text : List ℕ) × Holds policy files text × IsPolicyFault policy text table fault)

-- a fault of what is typed: a file of more than 256 MiB, where a byte after these could come; or the system's
abbrev pub IsTypedFault : Schedule → Text → Option (List File) → ProgramFault → Type 0
IsTypedFault schedule input files (program.LongText name) =
    (name.now ≡ input) × (1 + 0x1000_0000 * schedule.gap ≤ schedule.steps)
    × IfSome (bytes_of input files) (λ bytes. 0x1000_0000 < length bytes)
IsTypedFault schedule input files other = IsReading input other

-- Why the files of a run aren't loaded: its program isn't; or it is, and its policy can't be; or that is too, and what is typed can't be.
pub data FailsToLoad (asked : RunRequest) (files : Option (List File)) (fault : ProgramFault) : Type 0 where
  at_program : FailsToLoadProgram asked.image.now asked.symbols asked.lines files fault → FailsToLoad asked files fault
  at_policy :
      (image : Image) (table : List Symbol) → IsProgramLoaded asked.image.now asked.symbols asked.lines files image table
      → IsSomeAnd asked.policy (λ policy. IsRulesFault policy.now table files fault) → FailsToLoad asked files fault
  at_input :
      (image : Image) (table : List Symbol) (rules : Option Rules)
      → IsProgramLoaded asked.image.now asked.symbols asked.lines files image table → AreRules asked.policy table files rules
      → IsSomeAnd asked.input (λ input. IsTypedFault (schedule_of asked) input.now files fault) → FailsToLoad asked files fault
