use Rattle.std.proofs.Common.{◌≡◌, ap₂, sym, ◌∙◌}
use Rattle.special_regs.specs.Traps.{entry_address}
use Rattle.cap_bounds.specs.CapValue.{value_address}
use Rattle.sim_run.proofs.LeftTraps.{IsAtEntry, fault_with, none-left, none-some}
use Rattle.sim_run.proofs.unhandled.may_be_trapped.Goals as goal

pub returns : goal.returns
returns g c = λ no events s there.
    let t = c.args.machine.now in
    let same : entry_address (fault_with t.csrs.mcause t.csrs.mtval) (value_address t.scrs.mtcc)
    ≡ entry_address (fault_with c.mcause.result t.csrs.mtval) c.mtvec.result =
    ap₂ (λ m v. entry_address (fault_with m t.csrs.mtval) v) (sym c.mcause.ensures) (sym c.mtvec.ensures) in
    let elsewhere : IsAtEntry t → ⊥ = λ at. none-some (sym no ∙ c.is_entry.ensures t.csrs.mtval (c.pc.ensures ∙ at ∙ same)) in
    none-left t elsewhere events s there
