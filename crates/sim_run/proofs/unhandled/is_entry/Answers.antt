use Rattle.std.proofs.Common.{◌^◌, ◌<◌, inl, inr, ◌∙◌, arith}
use Rattle.std.proofs.lemmas.Bool.{eq-eqb}
use Rattle.sim_run.proofs.LeftTraps.{fault_with, two-entries}
use Rattle.sim_run.proofs.unhandled.is_entry.Goals as goal

pub returns-else-address-base : goal.returns-else-address-base
returns-else-address-base c = λ mtval at.
    let small : c.args.mtvec < 2 ^ 64 = omega arith in
    elim (two-entries (fault_with c.args.mcause mtval) c.args.mtvec small) [
      | inl base ↦ absurd (c.if-address-base.false (at ∙ base))
      | inr other ↦ eq-eqb c.args.address _ (at ∙ other)
    ]
