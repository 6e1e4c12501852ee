use Rattle.std.proofs.Common.{◌≡◌, sym, ap, ◌∙◌, subst}
use Rattle.std.specs.List.{Contains}
use Rattle.std.specs.Prelude.{is_some, Option}
use Rattle.policy.specs.Terms.{terms_of}
use Rattle.policy.specs.Watch.{Applies}
use Rattle.reached.specs.Links.{values}
use Rattle.steps.specs.State.{State}
use Rattle.every_run.specs.declared.marks.Marks.{Marks}
use Rattle.every_run.specs.Handled.{IsHandledAfter, IsKept, IsOwnCode, LeadsOn, is_over}
use Rattle.every_run.proofs.Checked.{none-there-some, ok-then}
use Rattle.every_run.proofs.Handlers.{handled-after}
use Rattle.every_run.proofs.handler.after_step.Goals as goal

pub returns-then-is_some : goal.returns-then-is_some
returns-then-is_some g c = λ o same.
    let Known = IsKept (values g.C.CapRep.value c.args.members.now) c.args.any.now in
    let own : IsOwnCode (terms_of c.args.rules.now) Known c.args.hart.now = record {
      state = c.pc_of.ensures.state;
      off = c.in_ok-check_word.ensures.off;
      word = c.in_ok-check_word.ensures.known;
      unruled = λ rule there about. c.in_ok-check_rules.ensures rule there (subst (Applies rule) (sym c.fetched_at.ensures) about);
    } in
    is_over own (ap is_some (sym c.halted.ensures.value) ∙ (sym c.is_some.ensures ∙ c.if-is_some.true))

pub returns : goal.returns
returns g c =
    let P = Contains (values g.C.CapRep.value c.args.members.now) in
    let Known = IsKept (values g.C.CapRep.value c.args.members.now) c.args.any.now in
    let rules = terms_of c.args.rules.now in
    let a = c.args.hart.now in
    let own : IsOwnCode rules Known a = record {
      state = c.pc_of.ensures.state;
      off = c.in_ok-check_word.ensures.off;
      word = c.in_ok-check_word.ensures.known;
      unruled = λ rule there about. c.in_ok-check_rules.ensures rule there (subst (Applies rule) (sym c.fetched_at.ensures) about);
    } in
    ok-then (λ (next : Option Marks). (o : State) → g.C.CapRep.value c.args.kept ≡ o.scrs.mscratchc → LeadsOn P Known o c.args.marks a next)
    (λ (next : Option Marks). (o : State) → g.C.CapRep.value c.args.kept ≡ o.scrs.mscratchc
    → IsHandledAfter rules P Known o c.args.marks a next)
    c.after_insn.result
    (λ next leads. λ o same.
    handled-after rules P Known o c.args.marks a own
    (sym c.halted.ensures.value ∙ none-there-some c.halted.result (sym c.is_some.ensures ∙ c.if-is_some.false)) next (leads o same))
    c.after_insn.ensures
