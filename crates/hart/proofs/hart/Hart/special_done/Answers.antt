use Rattle.std.proofs.Common.{not, None, ◌≡◌, subst, ap, ◌∙◌}
use Rattle.std.proofs.lemmas.Bool.{ne_eqb}
use Rattle.cap_bounds.specs.CapValue.{CapValue}
use Rattle.special_regs.specs.Refusals.{scr_fault}
use Rattle.steps.specs.Applying.{CanApply}
use Rattle.registers.specs.Registers.{register}
use Rattle.steps.specs.State.{State}
use Rattle.steps.specs.declared.effect.Effect.TheVariants.{Special}
use Rattle.steps.proofs.Plans.{special_done-read, special_done-write}
use Rattle.hart.proofs.hart.Hart.special_done.Goals as goal

pub returns-then-insn-eq0-clause-effect : goal.returns-then-insn-eq0-clause-effect
returns-then-insn-eq0-clause-effect g c =
    special_done-read (g.C.CapRep.value c.args.old) c.args.insn c.args.self.now c.if-insn-eq0.true

pub returns-then-insn-eq0-clause-can : goal.returns-then-insn-eq0-clause-can
unfolding CanApply
returns-then-insn-eq0-clause-can g c = c.requires.registers.0

pub returns-clause-effect : goal.returns-clause-effect
returns-clause-effect g c =
    let insn = c.args.insn in
    ap (λ (v : CapValue). Special (record { rd = insn.rd; old = g.C.CapRep.value c.args.old; number = insn.rs2; value = v }))
    (c.get.ensures.value ∙ ap (λ (s : State). register s.registers insn.rs1) c.self.view_is)
    ∙ special_done-write (g.C.CapRep.value c.args.old) insn c.args.self.now c.if-insn-eq0.false

pub returns-clause-can : goal.returns-clause-can
unfolding CanApply
returns-clause-can g c = (
  c.requires.registers.0,
  subst (λ b. scr_fault c.args.self.now.scrs c.args.insn.rs2 (not b) ≡ None) (ne_eqb c.args.insn.rs1 0 c.if-insn-eq0.false)
      c.requires.allowed,
)
