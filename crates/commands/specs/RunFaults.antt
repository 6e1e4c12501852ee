-- Why a run isn't done to its end, and what it leaves in its files.
use Rattle.std.specs.Prelude.{◌≡◌, ◌⊎◌, ℕ, List, [], ◌∷◌, ◌++◌, Option, Some, None}
use Rattle.std.specs.Borrow.{Bor}
use Rattle.command_line.specs.declared.plans.Reports.{Reports}
use Rattle.command_line.specs.declared.plans.RunRequest.{RunRequest}
use Rattle.image.specs.declared.fault.ImageFault.TheVariants.{L11}
use Rattle.sim_run.specs.declared.stopping.StopAt.{StopAt}
use Rattle.steps.specs.declared.event.Event.{Event}
use Rattle.commands.specs.declared.fault.ProgramFault.{ProgramFault}
use Rattle.commands.specs.declared.fault.ProgramFault.TheVariants.{Image, Memory}
use Rattle.commands.specs.declared.loading.LoadedRun.{LoadedRun}
use Rattle.commands.specs.declared.loading.Rules.{Rules}
use Rattle.commands.specs.Files.{Text, File, Gains, IsNoMemory, IsOpening, IsUnfinished, IsUnsent, IsUnsentOrNoMemory, IsUnwritten}
use Rattle.commands.specs.Files.{begun, whole}
use Rattle.commands.specs.Loading.{FailsToLoad, IsLoaded, Run, events_to, run_of}
use Rattle.commands.specs.Running.{Traces, Writes, events_of, profile_alone, trace_of}
use Rattle.commands.specs.Watching.{IsStop, KeepsToEnd}

-- a trace whose run the output cut short: it isn't closed, or it is, with the lines up to there
abbrev pub IsCutTrace : Text → List ℕ → Option (List File) → Option (List File) → Type 0
IsCutTrace name lines old new =
    Gains old new (begun name ∷ []) ⊎ ((cut rest : List ℕ) × (lines ≡ cut ++ rest) × Gains old new (whole name cut))

-- a trace that is named: it isn't made, or it is made and cut short; there is no memory for the machine before, or for its lines
-- after; or a write to the output fails
pub data FailsTraced (name : Text) (lines : List ℕ) (old new : Option (List File)) (fault : ProgramFault) : Type 0 where
  no_machine : IsNoMemory fault → new ≡ old → FailsTraced name lines old new fault
  unwritten : IsUnwritten name old new fault → FailsTraced name lines old new fault
  no_block : fault ≡ Memory → Gains old new (begun name ∷ []) → FailsTraced name lines old new fault
  unsent : IsUnsent fault → IsCutTrace name lines old new → FailsTraced name lines old new fault

-- Why a run and its trace, if one is named, fail.
abbrev pub FailsToTrace : Option (Bor Text) → List ℕ → Option (List File) → Option (List File) → ProgramFault → Type 0
FailsToTrace None lines old new fault = IsUnsentOrNoMemory fault × (new ≡ old)
FailsToTrace (Some name) lines old new fault = FailsTraced name.now lines old new fault

-- a report that is named, and what is done before it: its file can't be made; or it is, and the rest fails; or that is done, and there is
-- no memory for the report; or it is cut short
pub data FailsReported (name : Text) (Done : Option (List File) → Option (List File) → Type 0)
    (Fails : Option (List File) → Option (List File) → ProgramFault → Type 0) (old new : Option (List File)) (fault : ProgramFault)
    : Type 0 where
  unmade : IsOpening name fault → new ≡ old → FailsReported name Done Fails old new fault
  at_run :
      (made : Option (List File)) → Gains old made (begun name ∷ []) → Fails made new fault → FailsReported name Done Fails old new fault
  at_report :
      (made next : Option (List File)) → Gains old made (begun name ∷ []) → Done made next
      → (IsNoMemory fault × (new ≡ next)) ⊎ IsUnfinished name next new fault → FailsReported name Done Fails old new fault

-- Why a run that meets these events, its trace and its profile, if one is named, fail.
abbrev pub FailsToProfile : RunRequest → Option (Bor Text) → Run → List Event → Option (List File) → Option (List File) → ProgramFault
    → Type 0
FailsToProfile request None run events old new fault = FailsToTrace request.trace (trace_of request run events) old new fault
FailsToProfile request (Some name) run events old new fault =
    FailsReported name.now (Traces request.trace (trace_of request run events)) (FailsToTrace request.trace (trace_of request run events))
    old new fault

-- the same, and its calls, if a file is named for them
abbrev pub FailsToTell : RunRequest → Option (Bor Text) → Option (Bor Text) → Run → List Event → Option (List File) → Option (List File)
    → ProgramFault → Type 0
FailsToTell request profile None run events old new fault = FailsToProfile request profile run events old new fault
FailsToTell request profile (Some name) run events old new fault =
    FailsReported name.now (Writes request (profile_alone profile) run events) (FailsToProfile request profile run events) old new fault

abbrev pub FailsToWriteRun : RunRequest → Reports → Run → List Event → Option (List File) → Option (List File) → ProgramFault → Type 0
FailsToWriteRun request reports run events old new fault = FailsToTell request reports.profile reports.calls run events old new fault

-- Why a run that no policy watches isn't done: there is no memory to find the trap that it stops at; or it, its trace or its reports fail;
-- or all is written, and there is no memory to tell where it ended.
pub data FailsFreely (request : RunRequest) (reports : Reports) (run : Run) (events : List Event) (old new : Option (List File))
    (fault : ProgramFault) : Type 0 where
  at_start : IsNoMemory fault → new ≡ old → FailsFreely request reports run events old new fault
  at_run : FailsToWriteRun request reports run events old new fault → FailsFreely request reports run events old new fault
  at_end : Writes request reports run events old new → fault ≡ Memory → FailsFreely request reports run events old new fault

-- Why one isn't that a policy watches: there is no memory to find where it is stopped; or it is stopped there, or isn't, and fails.
pub data FailsWatched (rules : Rules) (request : RunRequest) (reports : Reports) (run : Run) (old new : Option (List File))
    (fault : ProgramFault) : Type 0 where
  at_start : IsNoMemory fault → new ≡ old → FailsWatched rules request reports run old new fault
  stopped :
      (number : ℕ) (lines : List ℕ) → IsStop rules run request.json request.quiet number lines
      → FailsToWriteRun request reports run (events_to (Some number) run) old new fault
      → FailsWatched rules request reports run old new fault
  whole_run :
      KeepsToEnd rules run → FailsFreely request reports run (events_to None run) old new fault
      → FailsWatched rules request reports run old new fault

abbrev pub FailsBy : Option Rules → RunRequest → Reports → Option StopAt → Run → Option (List File) → Option (List File)
    → ProgramFault → Type 0
FailsBy None request reports at run old new fault = FailsFreely request reports run (events_of at run) old new fault
FailsBy (Some rules) request reports at run old new fault = FailsWatched rules request reports run old new fault

-- Why the run of a file isn't done: its files can't be loaded; or they are, and it fails.
pub data FailsToRun (request : RunRequest) (reports : Reports) (at : Option StopAt) (old new : Option (List File))
    (fault : ProgramFault) : Type 0 where
  at_files : FailsToLoad request old fault → new ≡ old → FailsToRun request reports at old new fault
  at_run :
      (loaded : LoadedRun) → IsLoaded request old loaded
      → FailsBy loaded.rules loaded.request reports at (run_of loaded) old new fault → FailsToRun request reports at old new fault

-- why the first image isn't run: no memory for it or for its machine, or a write to the output fails
abbrev pub IsFirstFault : ProgramFault → Type 0
IsFirstFault (Image fault) = fault ≡ L11
IsFirstFault other = IsUnsentOrNoMemory other
