-- What a status says of what was done, and why words are no plan.
use Rattle.std.specs.Prelude.{◌≡◌, ◌==◌, ◌≤◌, ℕ, Bool, true, false, if◌then◌else◌, List, Option, refl, ⊤}
use Rattle.std.proofs.Common.{arith, subst, sym}
use Rattle.command_line.specs.CommandLine.{IsTaken, NoPlanFits, found_in}
use Rattle.command_line.specs.declared.fault.PlanFault.{PlanFault}
use Rattle.command_line.specs.declared.fault.PlanFault.TheVariants as plan_fault
use Rattle.commands.specs.declared.fault.ProgramFault.{ProgramFault}
use Rattle.commands.specs.Files.{File, Text}
use Rattle.commands.specs.Overwriting.{Sameness}
use Rattle.machine.specs.declared.end.End.{End}
use Rattle.machine.specs.declared.end.End.TheVariants.{Running, Halted}
use Rattle.sim_run.specs.Verdict.{status_of}
use Rattle.program.specs.declared.carrying.Done.{Done}
use Rattle.program.specs.declared.carrying.Done.TheVariants as done
use Rattle.program.specs.Carrying.{FailsToCarry, IsNoPlanFault, asks_version, status_of_done}
use Rattle.program.specs.Carrying.FailsToCarry.{at_help, at_words}

low : (b : Bool) → (if b then 0 else 1) ≤ 1
low true = omega arith
low false = omega arith

low_end : (end : End) → status_of end ≤ 1
low_end (Halted number) = low (number == 0)
low_end Running = omega arith

-- what was done is 0 or 1
pub at_most_one : (what : Done) → status_of_done what ≤ 1
at_most_one done.All = omega arith
at_most_one (done.Run ended json) = low_end ended.end
at_most_one (done.Audit count) = low (count == 0)
at_most_one (done.Proof shown) = low shown

abbrev is_memory : PlanFault → Type 0
is_memory plan_fault.Memory = ⊤
is_memory other = ⊥

-- words that are no plan
pub no_plan : (words : List Text) (same : Option Sameness) (files : Option (List File)) (why : PlanFault) (fault : ProgramFault)
    → IsNoPlanFault why fault → asks_version words ≡ false
    → (IsTaken words → (NoPlanFits (found_in words) → ⊥) → why ≡ plan_fault.Memory) → FailsToCarry words same files files false fault
no_plan words same files plan_fault.Memory fault told = λ unasked wanting. at_words unasked told refl refl
no_plan words same files (plan_fault.Help text) fault told =
    λ unasked wanting. at_help unasked (λ taken some. subst is_memory (sym (wanting taken some)) tt) told refl refl
no_plan words same files (plan_fault.Refused text) fault told = absurd told
