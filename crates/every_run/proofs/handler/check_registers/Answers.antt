use Rattle.std.proofs.Common.{subst, arith}
use Rattle.std.specs.List.{Contains}
use Rattle.registers.specs.Registers.{register}
use Rattle.reached.specs.Links.{values}
use Rattle.every_run.specs.Handled.{IsOfSet, unknown_in}
use Rattle.every_run.proofs.Handlers.{registers-more}
use Rattle.every_run.proofs.handler.check_registers.Goals as goal

pub loop-n-preserved : goal.loop-n-preserved
loop-n-preserved g c =
    let P = Contains (values g.C.CapRep.value c.args.members.now) in
    let marks = c.args.marks in
    let rs = c.args.hart.now.registers in
    registers-more (λ k. IsOfSet P (unknown_in marks k) (register rs k)) c.loop-n.n c.loop-n.invariant
    (subst (λ b. IsOfSet P b (register rs c.loop-n.n)) c.is_unknown.ensures
    (subst (IsOfSet P c.is_unknown.result) c.reg.ensures.value (c.is_of_set.ensures c.if-not-is_of_set.false)))

pub returns : goal.returns
returns g c = λ n below. c.loop-n.invariant n (omega arith)
