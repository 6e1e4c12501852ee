use Rattle.std.proofs.Common.{ℕ, ◌<◌}
use Rattle.std.specs.List.{Contains}
use Rattle.registers.specs.Registers.{register}
use Rattle.reached.specs.Links.{values}
use Rattle.every_run.specs.Handled.{IsOfSet, unknown_in}
use Rattle.every_run.proofs.handler.check_registers.Given as goal

abbrev pub invariant-loop-n : goal.invariant-loop-n
invariant-loop-n g l =
    (k : ℕ) → k < l.n → IsOfSet (Contains (values g.C.CapRep.value l.members)) (unknown_in l.marks k) (register l.hart.registers k)
