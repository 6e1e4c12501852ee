-- A run with a trace: the lines that its steps leave, and what is done and written where a call of a sink fails.
use Rattle.std.specs.Prelude.{◌≡◌, ℕ, ◌+◌, ◌-◌, Bool, true, if◌then◌else◌, List, [], ◌∷◌, ◌++◌, length, drop, Option, Some, None, is_some}
use Rattle.std.specs.Prelude.{Result, Ok, Err}
use Rattle.std.specs.List.{concat}
use Rattle.std.specs.Io.KnownBytes.{Appends}
use Rattle.image.specs.Devices.{AppendsBeginning}
use Rattle.steps.specs.declared.event.Event.{Event}
use Rattle.steps.specs.declared.event.Event.TheVariants.{Step, Tick, Byte}
use Rattle.steps.specs.Event.{after, sent}
use Rattle.steps.specs.State.{State}
use Rattle.machine.specs.Run.{run_after, run_sent}
use Rattle.symbols.specs.Symbols.{Symbol}
use Rattle.explain.specs.TraceLine.{trace_line}
use Rattle.explain.specs.TraceObject.{trace_object}
use Rattle.sim_run.specs.declared.traced.Form.{Form}
use Rattle.sim_run.specs.declared.traced.TraceFault.{TraceFault}
use Rattle.sim_run.specs.declared.traced.TraceFault.TheVariants.{Output, Trace, Memory}

-- what is said of a step, by its number and the state before it
abbrev pub Says : Type 0
Says = ℕ → State → List ℕ

-- in words, or as an object
abbrev pub says_by : Bool → List Symbol → Says
says_by json symbols = if json then trace_object symbols else trace_line symbols

abbrev pub says_of : Form → Says
says_of form = says_by form.json form.symbols.now

-- a line for each step among the events, numbered after the steps that came before
abbrev pub trace_lines : Says → ℕ → List Event → State → List (List ℕ)
trace_lines says before [] s = []
trace_lines says before (Step ∷ es) s = says (before + 1) s ∷ trace_lines says (before + 1) es (after Step s)
trace_lines says before (Tick ∷ es) s = trace_lines says before es (after Tick s)
trace_lines says before (Byte b ∷ es) s = trace_lines says before es (after (Byte b) s)

-- but for the first so many, as one text
abbrev pub lines_past : Says → ℕ → ℕ → List Event → State → List ℕ
lines_past says skipped before events s = concat (drop skipped (trace_lines says before events s))

-- the last so many of lines, where not all are kept
abbrev pub last_lines : Option ℕ → List (List ℕ) → List (List ℕ)
last_lines None lines = lines
last_lines (Some n) lines = drop (length lines - n) lines

-- the text of a run's trace: the lines of the steps from a number on, counted from 1, and of those the last so many
abbrev pub trace_text : Says → ℕ → Option ℕ → List Event → State → List ℕ
trace_text says from last events s = concat (last_lines last (drop (from - 1) (trace_lines says 0 events s)))

-- The output failed: the machine met the events up to the one whose byte was not written. The bytes before it are written, and the
-- lines with that of the last step, but for the first so many.
pub record IsOutputCut (says : Says) (skipped before : ℕ) (events : List Event) (old new : State)
    (held_old held_new traced_old traced_new : Option (List ℕ))
    : Type 0 where
  pub done : List Event
  pub last : Event
  pub rest : List Event
  pub order : events ≡ done ++ last ∷ rest
  pub state : new ≡ after last (run_after done old)
  pub unwritten : is_some (sent last (run_after done old)) ≡ true
  pub held : Appends held_old held_new (run_sent done old)
  pub lines : Appends traced_old traced_new (lines_past says skipped before (done ++ last ∷ []) old)

-- The trace failed, or there was no memory for a line of it: the machine met the events up to a step that is not done. What they sent is
-- written, and of the lines with that of the step a beginning. A sink that writes in blocks holds what it has not written yet: its file
-- then has a beginning of that.
pub record IsTraceCut (says : Says) (skipped before : ℕ) (events : List Event) (old new : State)
    (held_old held_new traced_old traced_new : Option (List ℕ))
    : Type 0 where
  pub done : List Event
  pub rest : List Event
  pub order : events ≡ done ++ Step ∷ rest
  pub state : new ≡ run_after done old
  pub held : Appends held_old held_new (run_sent done old)
  pub lines : AppendsBeginning traced_old traced_new (lines_past says skipped before (done ++ Step ∷ []) old)

-- what a fault left
abbrev pub WasCut : Says → TraceFault → ℕ → ℕ → List Event → State → State → Option (List ℕ) → Option (List ℕ)
    → Option (List ℕ) → Option (List ℕ) → Type 0
WasCut says Output skipped before events old new held_old held_new traced_old traced_new =
    IsOutputCut says skipped before events old new held_old held_new traced_old traced_new
WasCut says _ skipped before events old new held_old held_new traced_old traced_new =
    IsTraceCut says skipped before events old new held_old held_new traced_old traced_new

-- The count of failures of the sink that failed rises by one, and no other; none where there was no memory.
abbrev pub CountsTraced : {T : Type 0} → Result T TraceFault → ℕ → ℕ → ℕ → ℕ → Type 0
CountsTraced (Ok x) output_old output_new trace_old trace_new = (output_new ≡ output_old) × (trace_new ≡ trace_old)
CountsTraced (Err Output) output_old output_new trace_old trace_new = (output_new ≡ output_old + 1) × (trace_new ≡ trace_old)
CountsTraced (Err Trace) output_old output_new trace_old trace_new = (output_new ≡ output_old) × (trace_new ≡ trace_old + 1)
CountsTraced (Err Memory) output_old output_new trace_old trace_new = (output_new ≡ output_old) × (trace_new ≡ trace_old)
