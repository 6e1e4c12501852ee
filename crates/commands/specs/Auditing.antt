-- What `audit` tells and writes of a run.
use Rattle.std.specs.Prelude.{◌≡◌, ℕ, Bool, false, if◌then◌else◌, List, [], length, Option, Some, None, string_bytes}
use Rattle.std.specs.Io.KnownBytes.{Appends}
use Rattle.breach_texts.specs.declared.breach.RuleLine.{RuleLine}
use Rattle.command_line.specs.declared.plans.RunRequest.{RunRequest}
use Rattle.hart.specs.Opening.{opening}
use Rattle.policy_audit.specs.Entries.{entries_text}
use Rattle.policy_audit.specs.Lines.{AreLinesOf}
use Rattle.policy_audit.specs.Text.{audit_findings, audit_text}
use Rattle.commands.specs.declared.auditing.Audited.{Audited}
use Rattle.commands.specs.declared.loading.LoadedRun.{LoadedRun}
use Rattle.commands.specs.declared.loading.Rules.{Rules}
use Rattle.commands.specs.declared.fault.ProgramFault.{ProgramFault}
use Rattle.commands.specs.Files.{Change, File, IsNoMemory, IsUnsent}
use Rattle.commands.specs.Loading.{FailsToLoad, IsLoaded, Run, events_to, run_of, terms_in}
use Rattle.commands.specs.RunFaults.{FailsToTrace}
use Rattle.commands.specs.Running.{Traces, trace_of}

-- The audit of a run by a policy is told, in words or as objects, with the lines of its rules; and how many parts are broken.
abbrev pub Audits : Bool → Rules → Run → Audited → Type 0
Audits json rules run audited =
    (lines : List RuleLine) × AreLinesOf rules.text.items rules.policy.lines.items lines
    × (string_bytes audited.text ≡ audit_text json run.table lines (terms_in rules) (events_to None run) (opening run.image))
    × (audited.count ≡ length (audit_findings (terms_in rules) (events_to None run) (opening run.image)))

-- Without a policy its entries are told.
abbrev pub ListsEntries : Bool → Run → Audited → Type 0
ListsEntries json run audited =
    (string_bytes audited.text ≡ entries_text json (events_to None run) (opening run.image)) × (audited.count ≡ 0)

abbrev pub AuditsBy : Bool → Option Rules → Run → Audited → Type 0
AuditsBy json None run audited = ListsEntries json run audited
AuditsBy json (Some rules) run audited = Audits json rules run audited

-- what is told, unless nothing is to be
abbrev pub told_unless : Bool → List ℕ → List ℕ
told_unless quiet text = if quiet then [] else text

-- A run is audited, the lines of its trace that are kept are written to a file, if one is named, and what is told is written.
abbrev pub AuditsLoaded : LoadedRun → ℕ → Change → Type 0
AuditsLoaded loaded count change =
    (audited : Audited) × AuditsBy loaded.request.json loaded.rules (run_of loaded) audited
    × Traces loaded.request.trace (trace_of loaded.request (run_of loaded) (events_to None (run_of loaded))) change.old change.new
    × (count ≡ audited.count) × Appends change.sent change.out (told_unless loaded.request.quiet (string_bytes audited.text))

-- A run that is asked for, with what its files hold.
abbrev pub AuditsRun : RunRequest → ℕ → Change → Type 0
AuditsRun request count change = (loaded : LoadedRun) × IsLoaded request change.old loaded × AuditsLoaded loaded count change

-- ---- faults

-- what is to be told can't be written
abbrev pub IsUntold : Bool → ProgramFault → Type 0
IsUntold quiet fault = (quiet ≡ false) × IsUnsent fault

-- a run that is loaded: no memory to audit it; or it is audited, and its trace fails; or that is written, and what is told can't be
pub data FailsLoaded (loaded : LoadedRun) (old new : Option (List File)) (fault : ProgramFault) : Type 0 where
  at_audit : IsNoMemory fault → new ≡ old → FailsLoaded loaded old new fault
  at_trace :
      FailsToTrace loaded.request.trace (trace_of loaded.request (run_of loaded) (events_to None (run_of loaded))) old new fault
      → FailsLoaded loaded old new fault
  at_output :
      Traces loaded.request.trace (trace_of loaded.request (run_of loaded) (events_to None (run_of loaded))) old new
      → IsUntold loaded.request.quiet fault → FailsLoaded loaded old new fault

-- Why the run of a file isn't audited: its files can't be loaded; or they are, and that fails.
pub data FailsToAudit (request : RunRequest) (old new : Option (List File)) (fault : ProgramFault) : Type 0 where
  at_files : FailsToLoad request old fault → new ≡ old → FailsToAudit request old new fault
  at_run : (loaded : LoadedRun) → IsLoaded request old loaded → FailsLoaded loaded old new fault → FailsToAudit request old new fault
