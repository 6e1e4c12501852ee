-- What a run does that is watched by a policy, and where it ends.
use Rattle.std.specs.Prelude.{◌≡◌, ℕ, ◌-◌, Bool, true, false, not, ◌&&◌, if◌then◌else◌, List, [], Option, Some, None, get_or}
use Rattle.std.specs.Prelude.{string_bytes, IsUtf8}
use Rattle.breach_texts.specs.Object.{refused_object}
use Rattle.breach_texts.specs.Text.{refused_lines}
use Rattle.command_line.specs.declared.plans.Reports.{Reports}
use Rattle.command_line.specs.declared.plans.RunRequest.{RunRequest}
use Rattle.hart.specs.Opening.{opening}
use Rattle.machine.specs.Run.{end_of}
use Rattle.policy.specs.declared.refused.Refused.{Refused}
use Rattle.policy.specs.Lending.{in_force}
use Rattle.policy.specs.Terms.{Terms}
use Rattle.policy.specs.Watch.{IsRefused}
use Rattle.policy_runs.specs.Keeping.{StepsKeepToEach}
use Rattle.policy_text.specs.Policy.{line_text}
use Rattle.schedules.specs.Schedule.{IsPlaceOf}
use Rattle.sim_run.specs.declared.stopping.StopAt.{StopAt}
use Rattle.steps.specs.declared.event.Event.{Event}
use Rattle.steps.specs.State.{State}
use Rattle.symbols.specs.Symbols.{Symbol}
use Rattle.commands.specs.declared.loading.LoadedRun.{LoadedRun}
use Rattle.commands.specs.declared.loading.Rules.{Rules}
use Rattle.commands.specs.declared.running.Ended.{Ended}
use Rattle.commands.specs.declared.watching.Stop.{Stop}
use Rattle.commands.specs.Files.{Change}
use Rattle.commands.specs.Loading.{IsLoaded, Run, events_to, run_of, state_after, terms_in}
use Rattle.commands.specs.Running.{RunsFreely, Sends, Writes, place_of}

-- the line of a rule in the text that says it
abbrev pub line_number : Rules → ℕ → ℕ
line_number rules rule = get_or rules.policy.lines.items rule 1

-- where a run was stopped at what breaks a rule, as an object or in words
abbrev pub refused_by : Bool → List Symbol → ℕ → List ℕ → Refused → ℕ → State → List ℕ
refused_by json table number rule x steps s =
    if json then refused_object table number rule x steps s else refused_lines table number rule x steps s

-- The rule is told as its line in the text says it.
abbrev pub TellsRefused : Bool → Rules → List Symbol → Refused → ℕ → State → List ℕ → Type 0
TellsRefused json rules table x number s told =
    (rule : List ℕ)
    × (IsUtf8 (line_text rules.text.items (line_number rules x.rule)) → rule ≡ line_text rules.text.items (line_number rules x.rule))
    × (told ≡ refused_by json table (line_number rules x.rule) rule x (number - 1) s)

-- the state before the step of a number, and the terms in force there
abbrev pub state_before : ℕ → Run → State
state_before number run = state_after (events_to (Some number) run) run

abbrev pub force_before : ℕ → Rules → Run → List Terms
force_before number rules run = in_force (terms_in rules) (events_to (Some number) run) (opening run.image)

-- nothing is told of a run that is quiet, but for an object that is asked for
abbrev pub is_silent : Bool → Bool → Bool
is_silent json quiet = not json && quiet

-- The rule that is broken is one of those in force. A run that is silent tells no line.
abbrev pub TellsStop : Bool → Bool → Rules → Run → ℕ → List ℕ → Type 0
TellsStop true json rules run number told = told ≡ []
TellsStop false json rules run number told =
    (x : Refused) × IsRefused (force_before number rules run) x (state_before number run)
    × TellsRefused json rules run.table x number (state_before number run) told

-- A policy stops a run before a step of a number: each step before it keeps to each rule that applies, by the terms in force, and then
-- a reachable capability breaks one; and these lines are told.
pub record IsStop (rules : Rules) (run : Run) (json quiet : Bool) (number : ℕ) (lines : List ℕ) : Type 0 where
  pub place : IsPlaceOf run.schedule number
  pub kept : StepsKeepToEach (terms_in rules) (events_to (Some number) run) (opening run.image)
  pub refused : (x : Refused) × IsRefused (force_before number rules run) x (state_before number run)
  pub told : TellsStop (is_silent json quiet) json rules run number lines

-- It doesn't: each step of the run keeps to each rule that applies.
abbrev pub KeepsToEnd : Rules → Run → Type 0
KeepsToEnd rules run = StepsKeepToEach (terms_in rules) (events_to None run) (opening run.image)

abbrev pub IsStopOf : Rules → Run → Bool → Bool → Option Stop → Type 0
IsStopOf rules run json quiet None = KeepsToEnd rules run
IsStopOf rules run json quiet (Some stop) = IsStop rules run json quiet stop.number (string_bytes stop.lines)

-- what is sent is written, so are its trace and its reports, if files are named for them, and the run ends as its machine does
pub record Ends (request : RunRequest) (reports : Reports) (run : Run) (events : List Event) (ended : Ended) (change : Change)
    : Type 0 where
  pub sent : Sends run events change.sent change.out
  pub written : Writes request reports run events change.old change.new
  pub end : ended.end ≡ end_of (state_after events run)

-- A run that a policy watches: it ends before the step at which the policy stops it, or as every run.
pub data IsWatchedRun (rules : Rules) (request : RunRequest) (reports : Reports) (run : Run) (ended : Ended) (change : Change)
    : Type 0 where
  stopped :
      (number : ℕ) → IsStop rules run request.json request.quiet number (string_bytes ended.place)
      → Ends request reports run (events_to (Some number) run) ended change → IsWatchedRun rules request reports run ended change
  whole :
      KeepsToEnd rules run → string_bytes ended.place ≡ place_of run request.json request.quiet false (events_to None run)
      → Ends request reports run (events_to None run) ended change → IsWatchedRun rules request reports run ended change

-- A run is watched by the rules of a policy, if there is one; else it ends before the trap that it is to stop at.
abbrev pub RunsBy : Option Rules → RunRequest → Reports → Option StopAt → Run → Ended → Change → Type 0
RunsBy None request reports at run ended change = RunsFreely request reports at run ended change
RunsBy (Some rules) request reports at run ended change = IsWatchedRun rules request reports run ended change

-- A run that is asked for, with what its files hold.
abbrev pub RunsFile : RunRequest → Reports → Option StopAt → Ended → Change → Type 0
RunsFile request reports at ended change =
    (loaded : LoadedRun) × IsLoaded request change.old loaded × RunsBy loaded.rules loaded.request reports at (run_of loaded) ended change
