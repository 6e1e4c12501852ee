use Rattle.std.proofs.Common.{ℕ}
use Rattle.std.proofs.lemmas.Result.{err_from_is_err_and}
use Rattle.tagged_memory.specs.Memory.{fill_fault}
use Rattle.tagged_memory.proofs.Faults.{fill-refused, fill-given, unless_refused, unless_given}
use Rattle.tagged_memory.proofs.memory.Memory.bytes.Goals as goal

pub returns-in_err-place-clause-which : goal.returns-in_err-place-clause-which
returns-in_err-place-clause-which c =
    let p = err_from_is_err_and c.from_residual.result c.from_residual.ensures.1 in
    rw (p.1, p.2)
    (unless_refused {X = ℕ} {Y = ℕ} (fill_fault c.args.self.now c.args.address c.args.size) 0 0 _
    (fill-refused _ c.self.inside.planes.items c.deref.result.now c.args.address c.args.size _ 0 _ c.self.view_is c.deref.ensures.value
    c.in_err-place.ensures.value))

pub returns-clause-inside : goal.returns-clause-inside
returns-clause-inside c =
    (unless_given {X = ℕ} (fill_fault c.args.self.now c.args.address c.args.size) 0 0
    (fill-given _ c.self.inside.planes.items c.deref.result.now c.args.address c.args.size _ c.in_ok-place.place 0 c.self.view_is
    c.deref.ensures.value c.in_ok-place.ensures.value)).0
