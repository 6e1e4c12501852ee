use Rattle.std.proofs.Common.{sym, ap, ◌∙◌}
use Rattle.base.specs.Registers.{pcc_register}
use Rattle.special_regs.specs.Refusals.{return_checks, return_fault}
use Rattle.special_regs.specs.Traps.{is_sentry}
use Rattle.steps.specs.Applying.{CanApply}
use Rattle.steps.specs.AskedLaws.{register-allowed, register-refused}
use Rattle.steps.specs.State.{State}
use Rattle.steps.specs.SystemRows.{return_done}
use Rattle.steps.specs.RowEffects.{return_effect}
use Rattle.steps.specs.declared.effect.Effect.TheVariants.{Return}
use Rattle.hart.proofs.hart.Hart.plan_return.Goals as goal

pub returns-in-Ok-clause-effect : goal.returns-in-Ok-clause-effect
unfolding return_effect return_fault
returns-in-Ok-clause-effect g c =
    let s = c.args.self.now in
    let none = ap (λ (k : State). return_fault k.scrs) (sym c.self.view_is) ∙ c.in-Ok.ensures.allowed in
    ap Return (c.in-Ok.ensures.sentry ∙ ap (λ (k : State). is_sentry k.scrs.mepcc) c.self.view_is)
    ∙ register-allowed pcc_register c.args.word (return_checks s.scrs) (return_done s) none

pub returns-in-Ok-clause-can : goal.returns-in-Ok-clause-can
unfolding CanApply
returns-in-Ok-clause-can g c = ap (λ (k : State). return_fault k.scrs) (sym c.self.view_is) ∙ c.in-Ok.ensures.allowed

pub returns-in-Err-clause-effect : goal.returns-in-Err-clause-effect
unfolding return_effect return_fault
returns-in-Err-clause-effect g c =
    let s = c.args.self.now in
    let some = ap (λ (k : State). return_fault k.scrs) (sym c.self.view_is) ∙ c.in-Err.ensures.refused in
    c.refused_effect.ensures.effect ∙ register-refused pcc_register c.args.word (return_checks s.scrs) (return_done s) c.in-Err.refusal some

pub returns-in-Err-clause-can : goal.returns-in-Err-clause-can
returns-in-Err-clause-can g c = c.refused_effect.ensures.can c.args.self.now
