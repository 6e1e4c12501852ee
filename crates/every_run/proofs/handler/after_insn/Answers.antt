use Rattle.std.proofs.Common.{sym, ap, ◌∙◌, subst, rules}
use Rattle.devices.specs.Devices.{interrupts_of}
use Rattle.special_regs.specs.Interrupts.{pending}
use Rattle.steps.specs.Step.{fetch, insn_fetched}
use Rattle.every_run.specs.Handled.{IsDone}
use Rattle.every_run.proofs.Checked.{registers-named}
use Rattle.every_run.proofs.Handlers.{fetched-insn}
use Rattle.every_run.proofs.handler.after_insn.Goals as goal

pub followed-requires : goal.followed-requires
followed-requires g c =
    let s = c.args.hart.now in (
      search rules,
      (
        registers-named (pending s.csrs (interrupts_of s.devices)) (fetch s) c.in-Some.insn
            (sym (ap insn_fetched c.next-planned.ensures.fetched) ∙ (sym c.insn.ensures ∙ c.in-Some.is)),
        c.next-planned.ensures.effect,
      ),
    )

pub returns-then-is_return : goal.returns-then-is_return
returns-then-is_return g c = λ o same.
    let s = c.args.hart.now in
    record {
      insn = c.in-Some.insn;
      fetched = fetched-insn (pending s.csrs (interrupts_of s.devices)) s c.in-Some.insn
          (sym (ap insn_fetched c.next-planned.ensures.fetched) ∙ (sym c.insn.ensures ∙ c.in-Some.is));
      row = c.is_return.ensures.row c.if-is_return.true;
      done = subst IsDone c.next-planned.ensures.effect.0 (c.is_return.ensures.done c.if-is_return.true);
      returns = c.in_ok-check_return.ensures o same;
    }

pub returns-in-Some-followed : goal.returns-in-Some-followed
returns-in-Some-followed g c = λ o same.
    let s = c.args.hart.now in
    record {
      insn = c.in-Some.insn;
      fetched = fetched-insn (pending s.csrs (interrupts_of s.devices)) s c.in-Some.insn
          (sym (ap insn_fetched c.next-planned.ensures.fetched) ∙ (sym c.insn.ensures ∙ c.in-Some.is));
      followed = c.in-Some-followed.ensures;
    }
