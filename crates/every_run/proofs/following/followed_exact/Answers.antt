use Rattle.std.proofs.Common.{subst}
use Rattle.reached.specs.Links.{values}
use Rattle.steps.specs.Applying.{meant}
use Rattle.every_run.specs.Handled.{IsFollowed, IsKept, LeavesExact, by_exact}
use Rattle.every_run.proofs.Handlers.{some-then}
use Rattle.every_run.proofs.following.followed_exact.Goals as goal

pub returns : goal.returns
returns g c =
    let Known = IsKept (values g.C.CapRep.value c.args.members.now) c.args.any.now in
    some-then (LeavesExact (meant g.C.CapRep.value c.args.effect.now) c.args.marks)
    (IsFollowed Known c.args.hart.now c.args.insn c.args.marks) c.after.result
    (λ later leaves.
    by_exact (c.looks_at_exact.ensures c.if-not-looks_at_exact.false) (c.are_exact.ensures.one c.if-not-are_exact.false)
    (c.are_exact.ensures.two c.if-not-are_exact.false)
    (subst (λ e. LeavesExact e c.args.marks later) c.requires.planned.0 leaves))
    c.after.ensures
