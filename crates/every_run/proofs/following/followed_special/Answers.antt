use Rattle.std.proofs.Common.{refl, sym, ◌∙◌, subst}
use Rattle.reached.specs.Links.{values}
use Rattle.every_run.specs.Handled.{IsDeviceStore, IsDone, IsFollowed, IsKept, MovesSpecial, by_special, by_store}
use Rattle.every_run.proofs.Handlers.{some-then}
use Rattle.every_run.proofs.following.followed_special.Goals as goal

pub returns-in-SpecialRw : goal.returns-in-SpecialRw
returns-in-SpecialRw g c =
    some-then (MovesSpecial c.args.insn c.args.marks)
    (IsFollowed (IsKept (values g.C.CapRep.value c.args.members.now) c.args.any.now) c.args.hart.now c.args.insn c.args.marks)
    c.after_special.result
    (λ later moves.
    by_special (sym c.kind.ensures ∙ c.in-SpecialRw.is) (subst IsDone c.requires.planned.0 (c.is_done.ensures c.if-is_done.true)) moves)
    c.after_special.ensures

pub returns-in-Store : goal.returns-in-Store
returns-in-Store g c =
    let exact = c.stores_exactly.ensures in
    by_store (sym c.kind.ensures ∙ c.in-Store.is) (exact.exact c.if-stores_exactly.true) (exact.through c.if-stores_exactly.true)
    (subst IsDeviceStore c.requires.planned.0 (exact.device c.if-stores_exactly.true)) refl
