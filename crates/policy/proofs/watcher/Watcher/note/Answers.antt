use Rattle.std.proofs.Common.{◌≡◌, ◌∙◌, ap, length, refl, sym}
use Rattle.std.proofs.lemmas.List.{with_items_is}
use Rattle.std.specs.Vec.{with_items}
use Rattle.steps.specs.declared.event.Event.TheVariants.{Step}
use Rattle.steps.specs.Event.{after}
use Rattle.steps.specs.Step.{step_effect}
use Rattle.policy.specs.Watch.{fetched_at}
use Rattle.policy.specs.Known.{AreCertified, KeepsThose, forced_by, rules_of}
use Rattle.policy.proofs.Certificates.{certified-those}
use Rattle.policy.proofs.Looking.{certified-then, known-then}
use Rattle.policy.proofs.watcher.Watcher.note.Goals as goal

pub returns-clause-remembers : goal.returns-clause-remembers
returns-clause-remembers g c = λ true_of hold.
    let w = c.args.self.now in
    let t = c.args.machine.now in
    let f = c.pass.new.self in
    let marks = c.take_all.new.certified in
    let last = c.keep_certificates.new.certified in
    let kept : length marks ≡ length w.certified.items = c.take_all.auto.certified ∙ ap length c.deref_mut.ensures.value in
    let left : (with_items w.certified marks).items ≡ marks = with_items_is w.certified marks (kept ∙ sym w.certified.ok.0) in
    let same : c.deref_mut-2.result.now ≡ marks = c.deref_mut-2.ensures.value ∙ left in
    let end : (with_items (with_items w.certified marks) last).items ≡ last =
    with_items_is (with_items w.certified marks) last
    (c.keep_certificates.auto.certified ∙ ap length same ∙ kept ∙ sym w.certified.ok.0) in
    let is : c.fetched_at-at.result ≡ fetched_at t = c.fetched_at-at.ensures ∙ ap fetched_at c.hart.ensures.value in
    let before : AreCertified (forced_by f) marks t.memory =
    certified-then (rules_of w) (forced_by f) w.certified.items marks t.memory c.in_ok-changed.changed true_of.certified
    c.in_ok-changed.ensures.unchanged (rw c.deref_mut.ensures.value at c.take_all.ensures) in
    let keeps : KeepsThose (forced_by f) marks last (step_effect t) =
    rw (c.rules.ensures, same, c.requires.planned.0) at c.keep_certificates.ensures in
    record {
      known = known-then (rules_of w) (forced_by f) t (after Step t) Step c.fetched_at-at.result c.is_plain_step.result
          c.in_ok-changed.changed c.known_at-self.result c.hart.ensures.state refl c.is_plain_step.ensures c.known_at-self.ensures is hold
          c.in_ok-changed.ensures.unchanged;
      certified = rw end (certified-those (forced_by f) marks last t c.hart.ensures.state keeps before);
    }
