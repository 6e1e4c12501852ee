use Rattle.std.proofs.Common.{◌≡◌, true, false, None, Some, refl, sym, ap, ◌∙◌}
use Rattle.base.specs.Registers.{pcc_register}
use Rattle.devices.specs.Devices.{interrupts_of}
use Rattle.special_regs.specs.CsrValues.{csr_value}
use Rattle.special_regs.specs.Refusals.{csr_checks, csr_fault}
use Rattle.steps.specs.AskedLaws.{register-allowed, register-refused}
use Rattle.steps.specs.State.{State}
use Rattle.steps.specs.SystemRows.{csr_number, csr_writes, csr_held, csr_done}
use Rattle.steps.specs.RowEffects.{csr_effect}
use Rattle.hart.proofs.hart.Hart.plan_csr.Goals as goal

pub returns-in-Err-clause-effect : goal.returns-in-Err-clause-effect
unfolding csr_effect csr_fault
returns-in-Err-clause-effect g c =
    let insn = c.args.insn in
    let s : State = c.args.self.now in
    let some : csr_fault s.scrs (csr_number insn) (csr_writes insn.row insn.rs1) ≡ Some c.in-Err.refusal =
    ap (λ (k : State). csr_fault k.scrs (csr_number insn) (csr_writes insn.row insn.rs1)) (sym c.self.view_is)
    ∙ (rw (c.csr_number-number.ensures.value, c.csr_writes-writes.ensures) at c.in-Err.ensures.refused) in
    c.refused_effect.ensures.effect
    ∙ register-refused pcc_register c.args.word (csr_checks s.scrs (csr_number insn) (csr_writes insn.row insn.rs1))
    (csr_done (csr_held insn s) insn s) c.in-Err.refusal some

pub returns-in-Err-clause-can : goal.returns-in-Err-clause-can
returns-in-Err-clause-can g c = c.refused_effect.ensures.can c.args.self.now

pub returns-then-writes-clause-effect : goal.returns-then-writes-clause-effect
unfolding csr_effect csr_fault csr_done
returns-then-writes-clause-effect g c =
    let insn = c.args.insn in
    let s : State = c.args.self.now in
    let none : csr_fault s.scrs (csr_number insn) (csr_writes insn.row insn.rs1) ≡ None =
    ap (λ (k : State). csr_fault k.scrs (csr_number insn) (csr_writes insn.row insn.rs1)) (sym c.self.view_is)
    ∙ (rw (c.csr_number-number.ensures.value, c.csr_writes-writes.ensures) at c.in_default.ensures.allowed) in
    let held : csr_value s.csrs s.scrs (interrupts_of s.devices) (csr_number insn) ≡ Some c.held_csr-held.result =
    ap (λ (k : State). csr_value k.csrs k.scrs (interrupts_of k.devices) (csr_number insn)) (sym c.self.view_is)
    ∙ (rw (c.interrupts.ensures, c.csr_number-number.ensures.value) at c.held_csr-held.ensures) in
    let writes : csr_writes insn.row insn.rs1 ≡ true = sym c.csr_writes-writes.ensures ∙ c.if-writes.true in
    rw (c.integer-old.ensures, c.csr_new.ensures, c.csr_source.ensures, c.csr_number-number.ensures.value)
    (rw (held, writes) refl
    ∙ register-allowed pcc_register c.args.word (csr_checks s.scrs (csr_number insn) (csr_writes insn.row insn.rs1))
    (csr_done (csr_held insn s) insn s) none)

pub returns-else-writes-clause-effect : goal.returns-else-writes-clause-effect
unfolding csr_effect csr_fault csr_done
returns-else-writes-clause-effect g c =
    let insn = c.args.insn in
    let s : State = c.args.self.now in
    let none : csr_fault s.scrs (csr_number insn) (csr_writes insn.row insn.rs1) ≡ None =
    ap (λ (k : State). csr_fault k.scrs (csr_number insn) (csr_writes insn.row insn.rs1)) (sym c.self.view_is)
    ∙ (rw (c.csr_number-number.ensures.value, c.csr_writes-writes.ensures) at c.in_default.ensures.allowed) in
    let held : csr_value s.csrs s.scrs (interrupts_of s.devices) (csr_number insn) ≡ Some c.held_csr-held.result =
    ap (λ (k : State). csr_value k.csrs k.scrs (interrupts_of k.devices) (csr_number insn)) (sym c.self.view_is)
    ∙ (rw (c.interrupts.ensures, c.csr_number-number.ensures.value) at c.held_csr-held.ensures) in
    let reads : csr_writes insn.row insn.rs1 ≡ false = sym c.csr_writes-writes.ensures ∙ c.if-writes.false in
    rw c.integer-old.ensures
    (rw (held, reads) refl
    ∙ register-allowed pcc_register c.args.word (csr_checks s.scrs (csr_number insn) (csr_writes insn.row insn.rs1))
    (csr_done (csr_held insn s) insn s) none)
