use Rattle.std.proofs.Common.{sym, ap, ◌∙◌, rules}
use Rattle.devices.specs.Devices.{interrupts_of}
use Rattle.special_regs.specs.Interrupts.{pending}
use Rattle.steps.specs.Step.{fetch, insn_fetched}
use Rattle.every_run.proofs.Checked.{registers-named}
use Rattle.every_run.proofs.step.check_fetched.Goals as goal

pub check_looks-requires : goal.check_looks-requires
check_looks-requires g c =
    let s = c.args.hart.now in (
      search rules,
      registers-named (pending s.csrs (interrupts_of s.devices)) (fetch s) c.in-Some.insn
          (sym (ap insn_fetched c.requires) ∙ (sym c.insn.ensures ∙ c.in-Some.is)),
    )
