use Rattle.std.proofs.Common.{sym, ◌∙◌, arith}
use Rattle.every_run.proofs.Checked.{contains-mapped}
use Rattle.every_run.proofs.Found.{same-value}
use Rattle.every_run.proofs.members.is_member.Goals as goal

pub returns-then-equal_exact : goal.returns-then-equal_exact
returns-then-equal_exact g c = λ _.
    contains-mapped (λ m. g.C.CapRep.value m.cap) c.args.members.now c.loop-member.member-index c.member-item.result (omega arith)
    c.member-item.is (g.C.CapRep.value c.args.cap)
    (same-value (g.C.CapRep.value c.member-item.result.cap) (g.C.CapRep.value c.args.cap) (g.met.C.CapRep.valid c.member-item.result.cap)
    (g.met.C.CapRep.valid c.args.cap) (sym c.equal_exact.ensures ∙ c.if-equal_exact.true))
