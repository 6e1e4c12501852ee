-- The status of a command line that was carried out, and what then holds of its files.
use Rattle.std.specs.Prelude.{◌≡◌, ◌==◌, ℕ, List, Option, None, IfSome, Bool, true, false, bytes_eq, codes, [], ◌∷◌}
use Rattle.std.specs.Prelude.{if◌then◌else◌, ◌||◌, ◌⊎◌}
use Rattle.std.specs.Borrow.{Bor}
use Rattle.std.specs.Io.KnownBytes.{Appends}
use Rattle.bounds_text.specs.WordText.{word_of_halves}
use Rattle.command_line.specs.CommandLine.{IsPlanOf, IsSound, IsTaken, NoPlanFits, found_in}
use Rattle.command_line.specs.declared.fault.PlanFault.{PlanFault}
use Rattle.command_line.specs.declared.fault.PlanFault.TheVariants as plan_fault
use Rattle.command_line.specs.declared.plans.Plan.{Plan}
use Rattle.command_line.specs.declared.plans.Plan.TheVariants.{Asm, Image, Go, Run, Audit, Prove, Dis, Debug, Bounds, Word, First}
use Rattle.sim_run.specs.Verdict.{status_of}
use Rattle.program.specs.declared.carrying.Done.{Done}
use Rattle.program.specs.declared.carrying.Done.TheVariants as done
use Rattle.commands.specs.declared.running.Ended.{Ended}
use Rattle.commands.specs.declared.fault.ProgramFault.{ProgramFault}
use Rattle.commands.specs.declared.fault.ProgramFault.TheVariants.{Memory}
use Rattle.commands.specs.Assembling.{Assembles, FailsToAssemble}
use Rattle.commands.specs.Auditing.{AuditsRun, FailsToAudit}
use Rattle.commands.specs.Bounding.{FailsToShow, WritesWord, bounds_answer}
use Rattle.program.specs.Debugging.{DebugsFile, FailsToDebug}
use Rattle.program.specs.Telling.{end_text, is_quiet}
use Rattle.commands.specs.Files.{File, Text, Change, IsUnsent, bytes_of}
use Rattle.commands.specs.Imaging.{FailsToImage, MakesImage}
use Rattle.commands.specs.Listing.{FailsToList, ListsFile}
use Rattle.commands.specs.Overwriting.{Overwrites, Sameness}
use Rattle.commands.specs.Proving.{FailsToProve, ProvesFile}
use Rattle.commands.specs.RunFaults.{FailsToRun, IsFirstFault}
use Rattle.commands.specs.Running.{Runs, first_run, stop_at}
use Rattle.commands.specs.Watching.{RunsFile}

-- 0 for what was done, and of a run what its end comes to; 1 of an audit where something is broken, and of a proof that wasn't found
abbrev pub status_of_done : Done → ℕ
status_of_done done.All = 0
status_of_done (done.Run ended json) = status_of ended.end
status_of_done (done.Audit count) = if count == 0 then 0 else 1
status_of_done (done.Proof shown) = if shown then 0 else 1

-- A plan was carried out wholly, with this status: what an output holds then that held something before, where that is known, and what
-- became of files, where they are known; what was typed is what the input had left. This was told of it on standard error.
abbrev pub HasStatus : Plan → Option (List ℕ) → Change → List ℕ → ℕ → Type 0
HasStatus (Asm input output symbols lines quiet) typed change told status =
    (status ≡ 0) × (told ≡ []) × (change.out ≡ change.sent)
    × IfSome (bytes_of input.now change.old) (λ text. Assembles input.now output.now symbols lines text change.old change.new)
HasStatus (Image flat output layout quiet) typed change told status =
    (status ≡ 0) × (told ≡ []) × (change.out ≡ change.sent)
    × IfSome (bytes_of flat.now change.old) (λ bytes. MakesImage layout output.now bytes change.old change.new)
HasStatus (Go request why reports) typed change told status =
    (ended : Ended) × (status ≡ status_of ended.end) × (told ≡ end_text request.json ended)
    × RunsFile request reports (stop_at why) ended change
HasStatus (Run request why reports) typed change told status =
    (ended : Ended) × (status ≡ status_of ended.end) × (told ≡ end_text request.json ended)
    × RunsFile request reports (stop_at why) ended change
HasStatus (Audit request) typed change told status =
    (count : ℕ) × (status ≡ (if count == 0 then 0 else 1)) × (told ≡ []) × AuditsRun request count change
HasStatus (Prove request) typed change told status =
    (shown : Bool) × (status ≡ (if shown then 0 else 1)) × (told ≡ []) × ProvesFile request change.old shown change.sent change.out
HasStatus (Dis image symbols header quiet) typed change told status =
    (status ≡ 0) × (told ≡ []) × ListsFile header change.old image.now symbols change.sent change.out
HasStatus (Debug image symbols lines input gap tick quiet) typed change told status =
    (status ≡ 0) × (told ≡ []) × DebugsFile change.old image.now symbols lines input gap tick typed change.sent change.out
HasStatus (Bounds base length address json) typed change told status =
    (status ≡ 0) × (told ≡ []) × Appends change.sent change.out (bounds_answer json base length address)
HasStatus (Word high low memory json) typed change told status =
    (status ≡ 0) × (told ≡ []) × WritesWord json (word_of_halves high low memory) change.sent change.out
HasStatus First typed change told status =
    (ended : Ended) × (status ≡ status_of ended.end) × (told ≡ end_text false ended)
    × Runs first_run None false false ended change.sent change.out

-- A plan fails, for this reason, and leaves files so.
abbrev pub FailsAs : Plan → Option (List File) → Option (List File) → ProgramFault → Type 0
FailsAs (Asm input output symbols lines quiet) old new fault = FailsToAssemble input.now output.now symbols lines old new fault
FailsAs (Image flat output layout quiet) old new fault = FailsToImage layout flat.now output.now old new fault
FailsAs (Go request why reports) old new fault = FailsToRun request reports (stop_at why) old new fault
FailsAs (Run request why reports) old new fault = FailsToRun request reports (stop_at why) old new fault
FailsAs (Audit request) old new fault = FailsToAudit request old new fault
FailsAs (Prove request) old new fault = FailsToProve request old fault × (new ≡ old)
FailsAs (Dis image symbols header quiet) old new fault = FailsToList image.now symbols old fault × (new ≡ old)
FailsAs (Debug image symbols lines input gap tick quiet) old new fault = FailsToDebug old image.now symbols lines input fault × (new ≡ old)
FailsAs (Bounds base length address json) old new fault = FailsToShow json fault × (new ≡ old)
FailsAs (Word high low memory json) old new fault = FailsToShow json fault × (new ≡ old)
FailsAs First old new fault = IsFirstFault fault × (new ≡ old)

-- the program's name, and --version or -V alone
abbrev pub asks_version : List Text → Bool
asks_version (name ∷ word ∷ []) = bytes_eq word (codes "--version") || bytes_eq word (codes "-V")
asks_version words = false

abbrev pub version_line : List ℕ
version_line = codes "cherisim 0.1.0\n"

-- The words are a plan, which writes no file over another of its own where it is known which names lead to one file, and was carried
-- out with this status.
abbrev pub IsCarriedOut : List Text → Option Sameness → Option (List ℕ) → Change → List ℕ → ℕ → Type 0
IsCarriedOut words same typed change told status =
    (plan : Plan) × IsTaken words × IsPlanOf (found_in words) plan × IsSound plan × Overwrites same plan false
    × HasStatus plan typed change told status

-- The words are a plan that would write a file over another of its own, and no file is written.
abbrev pub IsSpared : List Text → Option Sameness → Option (List File) → Option (List File) → Type 0
IsSpared words same old new =
    (plan : Plan) × IsTaken words × IsPlanOf (found_in words) plan × Overwrites same plan true × (new ≡ old)

-- Clap doesn't take the words, or nothing that it finds in them is a sound plan.
abbrev pub IsRefused : List Text → Type 0
IsRefused words = IsTaken words → (NoPlanFits (found_in words) → ⊥) → ⊥

-- why it isn't told that words are no plan: there is no memory for them, or the help that they ask for can't be written
abbrev pub IsNoPlanFault : PlanFault → ProgramFault → Type 0
IsNoPlanFault plan_fault.Memory fault = fault ≡ Memory
IsNoPlanFault (plan_fault.Help text) fault = IsUnsent fault
IsNoPlanFault (plan_fault.Refused text) fault = ⊥

-- Why the words aren't carried out, whether that is told by its first line alone, and what it leaves in files: the version or the help that
-- they ask for can't be written; or there is no memory for them; or they are a plan, which fails.
pub data FailsToCarry (words : List Text) (same : Option Sameness) (old new : Option (List File)) (quiet : Bool) (fault : ProgramFault)
    : Type 0 where
  at_version : asks_version words ≡ true → IsUnsent fault → quiet ≡ false → new ≡ old → FailsToCarry words same old new quiet fault
  at_help :
      asks_version words ≡ false → IsRefused words → IsUnsent fault → quiet ≡ false → new ≡ old
      → FailsToCarry words same old new quiet fault
  at_words : asks_version words ≡ false → fault ≡ Memory → quiet ≡ false → new ≡ old → FailsToCarry words same old new quiet fault
  at_plan :
      (plan : Plan) → asks_version words ≡ false → IsTaken words → IsPlanOf (found_in words) plan → IsSound plan
      → Overwrites same plan false → quiet ≡ is_quiet plan → FailsAs plan old new fault → FailsToCarry words same old new quiet fault
