use Rattle.std.proofs.Common.{◌≡◌, ◌∙◌, ◌<◌, length, refl, sym, ap, subst}
use Rattle.std.proofs.lemmas.List.{length-map}
use Rattle.std.specs.Prelude.{Some}
use Rattle.policy.specs.Rule.{BreaksRule}
use Rattle.policy.specs.Terms.{terms, terms_of}
use Rattle.policy.specs.Watch.{IsRefused, values_in}
use Rattle.policy.specs.Lending.{in_force}
use Rattle.reach.specs.Reach.{members_in}
use Rattle.schedules.specs.Schedule.{events_before}
use Rattle.commands.proofs.Policies.{in_force-length, member-inside}
use Rattle.commands.proofs.watching.stop_of.Goals as goal

pub stop_lines-requires-clause-rule : goal.stop_lines-requires-clause-rule
stop_lines-requires-clause-rule g c =
    let policy = c.args.rules.now.policy in
    let rules = c.deref.result.now in
    let s = c.in_ok-machine.machine in
    let x = c.in-Ok-Some.breach in
    let events = events_before (Some x.number) c.args.run.now.schedule c.deref-2.result.now s in
    let whole : length (in_force (terms_of rules) events s) ≡ policy.lines.len =
    sym (in_force-length (terms_of rules) (terms_of rules) events s refl) ∙ length-map rules terms
    ∙ ap length c.deref.ensures.value ∙ sym policy.rules.ok.0 ∙ c.requires.numbered in
    let refused : IsRefused (in_force (terms_of rules) events s) x.refused c.find_breach.new.machine =
    rw c.in-Ok-Some.field-0-is at c.in-Ok-Some.ensures.refused in
    subst (λ n. x.refused.rule < n) whole refused.first.inside

pub stop_lines-requires-clause-member : goal.stop_lines-requires-clause-member
stop_lines-requires-clause-member g c =
    let rules = c.deref.result.now in
    let s = c.in_ok-machine.machine in
    let x = c.in-Ok-Some.breach in
    let later = c.find_breach.new.machine in
    let events = events_before (Some x.number) c.args.run.now.schedule c.deref-2.result.now s in
    let refused : IsRefused (in_force (terms_of rules) events s) x.refused later =
    rw c.in-Ok-Some.field-0-is at c.in-Ok-Some.ensures.refused in
    let first = refused.first in
    let inside =
    member-inside BreaksRule (values_in later) x.refused.member (in_force (terms_of rules) events s) x.refused.rule first.inside
    first.member in
    subst (λ n. x.refused.member < n) (length-map (members_in later) (λ m. m.value)) inside
