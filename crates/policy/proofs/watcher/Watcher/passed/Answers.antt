use Rattle.std.proofs.Common.{◌≡◌, ◌∙◌, ap, length, sym}
use Rattle.std.proofs.lemmas.List.{with_items_is}
use Rattle.std.specs.Vec.{with_items}
use Rattle.policy.specs.Known.{Spares, rules_of}
use Rattle.policy.proofs.Advancing.{certified-run, known-run}
use Rattle.policy.proofs.watcher.Watcher.passed.Goals as goal

pub keep_spared-requires : goal.keep_spared-requires
keep_spared-requires g c = ap length c.deref_mut.ensures.value ∙ c.requires.whole.1 ∙ ap length (sym c.rules.ensures)

pub returns-clause-knows : goal.returns-clause-knows
returns-clause-knows g c = λ s n knows under ends goes.
    let w = c.args.self.now in
    let marks = c.keep_spared.new.certified in
    let left : (with_items w.certified marks).items ≡ marks =
    with_items_is w.certified marks (c.keep_spared.auto.certified ∙ ap length c.deref_mut.ensures.value ∙ sym w.certified.ok.0) in
    let spares : Spares (rules_of w) w.known w.certified.items marks =
    rw (c.rules.ensures, c.deref_mut.ensures.value) at c.keep_spared.ensures in
    c.look.ensures.knows (record {
      known = rw ends (known-run w s knows under n goes);
      certified = rw (ends, left) (certified-run w s knows under n goes marks spares);
    })
