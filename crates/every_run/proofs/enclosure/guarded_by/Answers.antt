use Rattle.std.proofs.Common.{sym, ◌∙◌, subst}
use Rattle.policy.specs.Terms.{terms_of}
use Rattle.reached.specs.Links.{values}
use Rattle.every_run.specs.Known.{IsOutside}
use Rattle.every_run.specs.Members.{AreTagsKnown}
use Rattle.every_run.proofs.Checked.{none-there-some}
use Rattle.every_run.proofs.Enclosed.{guards-from}
use Rattle.every_run.proofs.Handlers.{on-ok-then}
use Rattle.every_run.proofs.enclosure.guarded_by.Goals as goal

pub returns : goal.returns
returns g c =
    on-ok-then _ _ c.handle.result (λ handles. λ all.
    guards-from c.args.any.now c.args.hart.now c.is_state.ensures
    (subst (AreTagsKnown (IsOutside c.args.any.now)) c.memory.ensures.value c.in_ok-check_members.ensures.tags)
    (values g.C.CapRep.value c.args.members.now) all c.in_ok-check_members.ensures.harmless (terms_of c.args.rules.now)
    c.in_ok-check_members.ensures.keep
    (sym c.halted.ensures.value ∙ none-there-some c.halted.result (sym c.is_some.ensures ∙ c.if-is_some.false)) handles
    c.handled_traps_keep_rules.ensures) c.handle.ensures
