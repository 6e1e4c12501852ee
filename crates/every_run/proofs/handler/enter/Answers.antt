use Rattle.std.proofs.Common.{sym, ap, ◌∙◌, subst, rules}
use Rattle.base.specs.declared.registers.csr.TheConstants.{MSTATUS}
use Rattle.hart.specs.Setting.{csr_set}
use Rattle.special_regs.specs.Traps.{target}
use Rattle.every_run.specs.Handled.{BeginsAt, IsDirect}
use Rattle.every_run.proofs.Handlers.{begins-there}
use Rattle.every_run.proofs.handler.enter.Goals as goal

pub returns-clause-begins : goal.returns-clause-begins
returns-clause-begins g c =
    let o = c.args.hart.now in
    let direct : IsDirect o = search rules in
    subst (BeginsAt o) (sym (c.set_csr.ensures.state ∙ ap (csr_set MSTATUS 0) c.set_scr.ensures.state))
    (begins-there o direct (g.C.CapRep.value c.target.result)
    (c.target.ensures.value ∙ ap target (c.mtcc-entry.ensures ∙ ap (λ x. x.mtcc) c.scrs.ensures.value)))
