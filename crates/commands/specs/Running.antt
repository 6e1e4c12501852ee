-- What a run sends, tells and writes, and where it ends. After an address stands its label, where a file with labels is named.
use Rattle.std.specs.Prelude.{◌≡◌, ℕ, Bool, true, false, not, is_some, ◌==◌, ◌&&◌, if◌then◌else◌, List, [], ◌∷◌, ◌++◌, Option, Some, None}
use Rattle.std.specs.Prelude.{string_bytes, ⊤}
use Rattle.std.specs.Borrow.{Bor}
use Rattle.std.specs.Io.KnownBytes.{Appends}
use Rattle.base.specs.Ram.{ram_base}
use Rattle.command_line.specs.declared.plans.Reports.{Reports}
use Rattle.command_line.specs.declared.plans.RunRequest.{RunRequest}
use Rattle.command_line.specs.declared.plans.Why.{Why}
use Rattle.command_line.specs.declared.plans.Why.TheVariants.{Unfetched, All, Double}
use Rattle.hart.specs.Opening.{opening}
use Rattle.image.specs.Image.{Image, image_of}
use Rattle.machine.specs.declared.end.End.{End}
use Rattle.machine.specs.Run.{run_sent, end_of}
use Rattle.origin_texts.specs.CallTrace.{call_trace}
use Rattle.schedules.specs.Schedule.{steps_in}
use Rattle.sim_run.specs.declared.run.Ran.{Ran}
use Rattle.sim_run.specs.declared.stopping.StopAt.{StopAt}
use Rattle.sim_run.specs.declared.stopping.StopAt.TheVariants as stop
use Rattle.sim_run.specs.Ending.{ending_lines}
use Rattle.sim_run.specs.Object.{ending_object, stopped_objects}
use Rattle.sim_run.specs.Profile.{IsProfile, fetches}
use Rattle.sim_run.specs.Stopping.{events_met, stop_met, stopped_lines}
use Rattle.sim_run.specs.Trace.{says_by, trace_text}
use Rattle.sim_run.specs.Unhandled.{trap_left}
use Rattle.sim_run.specs.Verdict.{status_of}
use Rattle.steps.specs.declared.event.Event.{Event}
use Rattle.steps.specs.State.{State}
use Rattle.commands.specs.declared.running.Ended.{Ended}
use Rattle.commands.specs.Files.{Text, File, Change, Gains, begun, ended, whole}
use Rattle.commands.specs.Loading.{Run, events_to, state_after}

-- which trap a run stops before that is to be explained
abbrev pub stop_at : Option Why → Option StopAt
stop_at None = None
stop_at (Some Unfetched) = Some stop.Unfetched
stop_at (Some All) = Some stop.Violation
stop_at (Some Double) = Some stop.Double

-- the events of a run up to the trap that it stops at
abbrev pub events_of : Option StopAt → Run → List Event
events_of at run = events_met at (events_to None run) (opening run.image)

-- whether it meets such a trap
abbrev pub stops : Option StopAt → Run → Bool
stops at run = is_some (stop_met at (events_to None run) (opening run.image))

-- what an output gets of a run that met these events
abbrev pub Sends : Run → List Event → Option (List ℕ) → Option (List ℕ) → Type 0
Sends run events old new = Appends old new (run_sent events (opening run.image))

-- what is left of it: its machine, and how far it came
pub record HasRun (run : Run) (events : List Event) (machine : State) (ran : Ran) : Type 0 where
  pub state : machine ≡ state_after events run
  pub end : ran.end ≡ end_of machine
  pub steps : ran.steps ≡ steps_in events

-- Where a run ended is told unless it is quiet, or it halted with 0.
abbrev pub is_told : Bool → End → Bool
is_told quiet end = not quiet && not (status_of end == 0)

-- of a run that stopped before a trap, why its next step traps
abbrev pub place_lines : Run → Bool → List Event → List ℕ
place_lines run true events = stopped_lines run.table (steps_in events) (state_after events run)
place_lines run false events =
    ending_lines run.table (steps_in events) (trap_left events (opening run.image)) (state_after events run)

-- the same values as objects of JSON
abbrev pub place_objects : Run → Bool → List Event → List ℕ
place_objects run true events =
    let s = state_after events run in
    stopped_objects run.table (end_of s) (steps_in events) s
place_objects run false events =
    let s = state_after events run in
    ending_object run.table (end_of s) (steps_in events) (trap_left events (opening run.image)) s

-- with --json objects are told of every end, and also where the run is quiet
abbrev pub place_of : Run → Bool → Bool → Bool → List Event → List ℕ
place_of run json quiet stopped events =
    if json then place_objects run stopped events
    else if is_told quiet (end_of (state_after events run)) then place_lines run stopped events else []

-- how a run ended that met these events, and the lines that say where
abbrev pub HasEnded : Run → Bool → Bool → Bool → List Event → Ended → Type 0
HasEnded run json quiet stopped events ended =
    (ended.end ≡ end_of (state_after events run)) × (string_bytes ended.place ≡ place_of run json quiet stopped events)

-- An output grows by what a run sends up to the trap that it stops at, and the run ends so.
abbrev pub Runs : Run → Option StopAt → Bool → Bool → Ended → Option (List ℕ) → Option (List ℕ) → Type 0
Runs run at json quiet ended old new =
    Sends run (events_of at run) old new × HasEnded run json quiet (stops at run) (events_of at run) ended

-- the lines that are kept of the trace of these events, with --json objects
abbrev pub trace_of : RunRequest → Run → List Event → List ℕ
trace_of request run events = trace_text (says_by request.json run.table) request.trace_from request.trace_last events (opening run.image)

-- A trace is written to a file, if one is named, and no other file is.
abbrev pub Traces : Option (Bor Text) → List ℕ → Option (List File) → Option (List File) → Type 0
Traces None lines old new = new ≡ old
Traces (Some name) lines old new = Gains old new (whole name.now lines)

-- what becomes of its file
abbrev pub traced : Option (Bor Text) → List ℕ → List File
traced None lines = []
traced (Some name) lines = whole name.now lines

-- A profile, if a file is named for it.
abbrev pub IsProfiled : Option (Bor Text) → Run → List Event → List ℕ → Type 0
IsProfiled None run events text = ⊤
IsProfiled (Some name) run events text = IsProfile run.table (fetches events (opening run.image)) text

-- the calls and returns of these events
abbrev pub calls_of : Run → List Event → List ℕ
calls_of run events = call_trace run.table 0 [] events (opening run.image)

-- what becomes of the file of a report, if one is named, and of others: it is made before them, and closed after
abbrev pub around : Option (Bor Text) → List ℕ → List File → List File
around None text others = others
around (Some name) text others = begun name.now ∷ (others ++ ended name.now (Some text) ∷ [])

-- Files get these, and where there are none all stay.
abbrev pub Grows : Option (List File) → Option (List File) → List File → Type 0
Grows old new [] = new ≡ old
Grows old new more = Gains old new more

-- A run that meets these events writes its trace, its profile and its calls, each if a file is named for it.
abbrev pub Writes : RunRequest → Reports → Run → List Event → Option (List File) → Option (List File) → Type 0
Writes request reports run events old new =
    (profile : List ℕ) × IsProfiled reports.profile run events profile
    × Grows old new (around reports.calls (calls_of run events)
    (around reports.profile profile (traced request.trace (trace_of request run events))))

-- its profile alone
abbrev pub profile_alone : Option (Bor Text) → Reports
profile_alone profile = record { profile = profile; calls = None }

-- A run that no policy watches.
abbrev pub RunsFreely : RunRequest → Reports → Option StopAt → Run → Ended → Change → Type 0
RunsFreely request reports at run ended change =
    Runs run at request.json request.quiet ended change.sent change.out
    × Writes request reports run (events_of at run) change.old change.new

-- ---- the first image

-- lui a1, 0x10000; addi a0, zero, 65; sb a0, 0(a1); lui a1, 0x100; sd zero, 0(a1): it sends A and halts with 0
abbrev pub first_words : List ℕ
first_words =
    0xb7 ∷ 0x05 ∷ 0x00 ∷ 0x10 ∷ 0x13 ∷ 0x05 ∷ 0x10 ∷ 0x04 ∷ 0x23 ∷ 0x80 ∷ 0xa5 ∷ 0x00 ∷ 0xb7 ∷ 0x05 ∷ 0x10 ∷ 0x00 ∷ 0x23 ∷ 0xb0 ∷ 0x05 ∷
    0x00
    ∷ []

-- in a page of RAM, from its first address on, in integer mode
abbrev pub first_image : Image
first_image = image_of 1 1 ram_base 0 (record { address = ram_base; bytes = first_words } ∷ []) []

-- its five steps, without labels or bytes that come
abbrev pub first_run : Run
first_run =
    record { image = first_image; table = []; schedule = record { steps = 5; gap = 1000; tick = 100 }; input = [] }
