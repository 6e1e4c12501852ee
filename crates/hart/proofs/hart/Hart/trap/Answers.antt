use Rattle.std.proofs.Common.{ap, ◌∙◌}
use Rattle.special_regs.specs.Csrs.{cycle_counted}
use Rattle.special_regs.specs.Scrs.{Scrs}
use Rattle.special_regs.specs.Traps.{trapped_scrs, trapped_csrs}
use Rattle.special_regs.specs.declared.csrs.Csrs.{Csrs}
use Rattle.steps.specs.State.{State}
use Rattle.hart.proofs.hart.Hart.trap.Goals as goal

pub returns : goal.returns
returns g c =
    let now : State = c.args.self.now in
    let fault = c.args.fault in
    let same = c.self.view_is in
    ap (λ (s : State). record s { scrs = c.enter_trap.new.scrs; csrs = c.count_cycle.new.self }) same
    ∙ ap (λ (k : Scrs). record now { scrs = k; csrs = c.count_cycle.new.self })
    (c.enter_trap.ensures.scrs ∙ ap (λ (s : State). trapped_scrs fault s.scrs) same)
    ∙ ap (λ (k : Csrs). record now { scrs = trapped_scrs fault now.scrs; csrs = k })
    (c.count_cycle.ensures ∙ ap cycle_counted (c.enter_trap.ensures.csrs ∙ ap (λ (s : State). trapped_csrs fault s.csrs) same))
