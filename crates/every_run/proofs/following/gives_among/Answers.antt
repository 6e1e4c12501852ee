use Rattle.std.proofs.Common.{sym, ◌∙◌, subst}
use Rattle.every_run.specs.Handled.{GivesAmong}
use Rattle.every_run.proofs.following.gives_among.Goals as goal

pub returns-then-not-unseals : goal.returns-then-not-unseals
returns-then-not-unseals g c = λ among.
    subst (λ k. GivesAmong k c.args.insn c.args.marks c.args.hart.now) (sym (sym c.kind.ensures ∙ c.in-Capability.is))
    (c.unseals.ensures c.if-not-unseals.true, c.are_among.ensures.one among, c.are_among.ensures.two among)
