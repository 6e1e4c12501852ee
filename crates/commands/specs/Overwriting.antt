-- Commands that would write a file over another of their own, under whichever names.
use Rattle.std.specs.Prelude.{◌≡◌, Bool, false, ◌||◌, Option, Some, None, IfSome}
use Rattle.std.specs.Borrow.{Bor}
use Rattle.command_line.specs.declared.plans.Plan.{Plan}
use Rattle.command_line.specs.declared.plans.Plan.TheVariants.{Asm, Image, Go, Run, Audit}
use Rattle.command_line.specs.declared.plans.Reports.{Reports}
use Rattle.command_line.specs.declared.plans.RunRequest.{RunRequest}
use Rattle.commands.specs.Files.{Text}

-- whether two names lead to one file
abbrev pub Sameness : Type 0
Sameness = Text → Text → Bool

abbrev pub are_same : Sameness → Option (Bor Text) → Option (Bor Text) → Bool
are_same same None other = false
are_same same (Some name) None = false
are_same same (Some name) (Some other) = same name.now other.now

-- the trace of a run is written over a file that is read for it
abbrev pub traces_over : Sameness → RunRequest → Bool
traces_over same run =
    (are_same same run.trace (Some run.image) || are_same same run.trace run.input)
    || ((are_same same run.trace run.policy || are_same same run.trace run.symbols) || are_same same run.trace run.lines)

-- a report of it is written over such a file, or over its trace
abbrev pub reports_over : Sameness → RunRequest → Option (Bor Text) → Bool
reports_over same run report = traces_over same (record run { trace = report }) || are_same same report run.trace

-- a file that a run writes is another of its own
abbrev pub runs_over : Sameness → RunRequest → Reports → Bool
runs_over same run reports =
    (traces_over same run || reports_over same run reports.profile)
    || (reports_over same run reports.calls || are_same same reports.calls reports.profile)

-- a file that is written is another file of the command
abbrev pub overwrites : Sameness → Plan → Bool
overwrites same (Asm input output symbols lines quiet) =
    ((same output.now input.now || are_same same symbols (Some input)) || are_same same symbols (Some output))
    || ((are_same same lines (Some input) || are_same same lines (Some output)) || are_same same lines symbols)
overwrites same (Image flat output layout quiet) = same output.now flat.now
overwrites same (Go request why reports) = runs_over same request reports
overwrites same (Run request why reports) = runs_over same request reports
overwrites same (Audit request) = traces_over same request
overwrites same other = false

-- the same where it is known which names lead to one file
abbrev pub Overwrites : Option Sameness → Plan → Bool → Type 0
Overwrites known plan answer = IfSome known (λ same. answer ≡ overwrites same plan)
