use Rattle.std.proofs.Common.{sym, ap, ◌∙◌}
use Rattle.std.proofs.lemmas.Bool.{ne_eqb, cond-false}
use Rattle.base.specs.declared.registers.scr.TheConstants.{PCC}
use Rattle.special_regs.specs.Scrs.{Scrs}
use Rattle.special_regs.specs.Writes.{scr_written}
use Rattle.steps.specs.State.{State}
use Rattle.hart.proofs.hart.Hart.set_scr.Goals as goal

pub returns-clause-state : goal.returns-clause-state
returns-clause-state g c =
    let now : State = c.args.self.now in
    let n = c.args.n in
    let v = g.C.CapRep.value c.args.value in
    ap (λ (s : State). record s { scrs = c.set.new.self }) c.self.view_is
    ∙ ap (λ (k : Scrs). record now { scrs = k })
    (c.set.ensures ∙ ap (λ (s : State). scr_written n v s.scrs) c.self.view_is
    ∙ sym (cond-false _ _ _ (ne_eqb n PCC c.if-n-eq-PCC.false)))
