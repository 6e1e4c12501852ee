-- What standard error gets.
use Rattle.std.specs.Prelude.{◌≡◌, ◌==◌, ℕ, Bool, true, false, if◌then◌else◌, List, [], ◌++◌, Option, codes, string_bytes}
use Rattle.std.specs.Io.KnownBytes.{Appends}
use Rattle.command_line.specs.declared.plans.Plan.{Plan}
use Rattle.command_line.specs.declared.plans.Plan.TheVariants.{Asm, Image, Go, Run, Audit, Prove, Dis, Debug, Bounds, Word, First}
use Rattle.commands.specs.declared.running.Ended.{Ended}
use Rattle.program.specs.declared.carrying.Done.{Done}
use Rattle.program.specs.declared.carrying.Done.TheVariants as done
use Rattle.sim_run.specs.Verdict.{status_of, verdict_line}

-- Unless a call of it failed, it has grown by this text, where it is known what it held.
abbrev pub Tells : ℕ → ℕ → Option (List ℕ) → Option (List ℕ) → List ℕ → Type 0
Tells failed_old failed_new old new text = failed_new ≡ failed_old → Appends old new text

-- how a run ended, and where, as an object tells it, or lines, of which there are none at status 0
abbrev pub end_text : Bool → Ended → List ℕ
end_text true ended = string_bytes ended.place
end_text false ended =
    if status_of ended.end == 0 then [] else verdict_line ended.end ++ codes "\n" ++ string_bytes ended.place

-- nothing of another command that was carried out
abbrev pub done_text : Done → List ℕ
done_text (done.Run ended json) = end_text json ended
done_text _ = []

-- whether a plan asks for less to be told: of a fault its first line alone
abbrev pub is_quiet : Plan → Bool
is_quiet (Asm input output symbols lines quiet) = quiet
is_quiet (Image flat output layout quiet) = quiet
is_quiet (Go request why reports) = request.quiet
is_quiet (Run request why reports) = request.quiet
is_quiet (Audit request) = request.quiet
is_quiet (Prove request) = request.quiet
is_quiet (Dis image symbols header quiet) = quiet
is_quiet (Debug image symbols lines input gap tick quiet) = quiet
is_quiet _ = false

-- of a command that would write a file over another of its own
abbrev pub same_file : List ℕ
same_file = codes "error: a file that is written cannot be another file of the command\n"
