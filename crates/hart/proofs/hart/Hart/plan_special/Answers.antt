use Rattle.std.proofs.Common.{not, eqb, rules, sym, ap, ◌∙◌}
use Rattle.std.specs.Option.{unwrap_or}
use Rattle.base.specs.Registers.{special_register}
use Rattle.cap_bounds.specs.CapValue.{integer}
use Rattle.cap_checks.specs.Question.{fault_of}
use Rattle.special_regs.specs.Refusals.{scr_checks, scr_fault}
use Rattle.special_regs.specs.Scrs.{scr_value}
use Rattle.steps.specs.AskedLaws.{register-allowed, register-refused}
use Rattle.steps.specs.State.{State}
use Rattle.steps.specs.SystemRows.{question_of, special_held, special_done}
use Rattle.steps.specs.RowEffects.{special_effect}
use Rattle.steps.specs.declared.effect.Effect.TheVariants.{Trap}
use Rattle.hart.proofs.hart.Hart.plan_special.Goals as goal

pub special_done-requires : goal.special_done-requires
special_done-requires g c =
    let insn = c.args.insn in (
      search rules,
      (
        c.requires.registers,
        ap (λ (k : State). scr_fault k.scrs insn.rs2 (not (eqb insn.rs1 0))) (sym c.self.view_is) ∙ c.in-Ok.ensures.allowed,
      ),
    )

pub returns-in-Ok-clause-effect : goal.returns-in-Ok-clause-effect
unfolding special_effect scr_fault
returns-in-Ok-clause-effect g c =
    let insn = c.args.insn in
    let s = c.args.self.now in
    let held = ap (λ (k : State). scr_value k.scrs insn.rs2) (sym c.self.view_is) ∙ c.in-Ok.ensures.value in
    let none = ap (λ (k : State). scr_fault k.scrs insn.rs2 (not (eqb insn.rs1 0))) (sym c.self.view_is) ∙ c.in-Ok.ensures.allowed in
    c.special_done.ensures.effect ∙ ap (λ o. special_done (unwrap_or o (integer 0)) insn s) (sym held)
    ∙ register-allowed (special_register insn.rs2) c.args.word (scr_checks s.scrs insn.rs2 (not (eqb insn.rs1 0)))
    (special_done (special_held insn s) insn s) none

pub returns-in-Ok-clause-can : goal.returns-in-Ok-clause-can
returns-in-Ok-clause-can g c = c.special_done.ensures.can

pub returns-in-Err-clause-effect : goal.returns-in-Err-clause-effect
unfolding special_effect scr_fault
returns-in-Err-clause-effect g c =
    let insn = c.args.insn in
    let s = c.args.self.now in
    let some = ap (λ (k : State). scr_fault k.scrs insn.rs2 (not (eqb insn.rs1 0))) (sym c.self.view_is) ∙ c.in-Err.ensures.refused in
    c.refused_effect.ensures.effect
    ∙ ap (λ n. Trap (fault_of (question_of c.in-Err.refusal (special_register n) c.args.word))) c.from.ensures
    ∙ register-refused (special_register insn.rs2) c.args.word (scr_checks s.scrs insn.rs2 (not (eqb insn.rs1 0)))
    (special_done (special_held insn s) insn s) c.in-Err.refusal some

pub returns-in-Err-clause-can : goal.returns-in-Err-clause-can
returns-in-Err-clause-can g c = c.refused_effect.ensures.can c.args.self.now
