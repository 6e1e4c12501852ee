use Rattle.std.proofs.Common.{map, ap, ◌∙◌, subst}
use Rattle.policy.specs.Terms.{terms_of}
use Rattle.reached.specs.Links.{values}
use Rattle.every_run.specs.Known.{IsOutside}
use Rattle.every_run.specs.Members.{AreHarmless, AreTagsKnown, HoldAll, KeepEach}
use Rattle.every_run.proofs.Enclosed.{holds-from}
use Rattle.every_run.proofs.enclosure.enclosed.Goals as goal

pub returns-in-Ok : goal.returns-in-Ok
returns-in-Ok g c = λ _.
    let value = g.C.CapRep.value in
    let Known = IsOutside c.args.any.now in
    let a = c.args.hart.now in
    let held = c.in-Some.held.items in
    let same = c.deref-2.ensures.value in
    let all = subst (λ begin. HoldAll (values value held) begin a.memory) (ap (map value) c.deref.ensures.value ∙ c.in_ok-begin.ensures)
    (rw c.in-Some.is at c.in_ok-held.ensures) in
    holds-from Known a c.is_state.ensures (subst (AreTagsKnown Known) c.memory.ensures.value c.in-Ok.ensures.tags)
    (values value held) all (subst (λ xs. AreHarmless (values value xs)) same c.in-Ok.ensures.harmless) (terms_of c.args.rules.now)
    (subst (λ xs. KeepEach (terms_of c.args.rules.now) (values value xs)) same c.in-Ok.ensures.keep) c.enclosed_states_keep_rules.ensures
