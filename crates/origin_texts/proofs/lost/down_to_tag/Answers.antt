use Rattle.std.proofs.Common.{◌≡◌, ◌+◌, ◌-◌, ◌≤◌, ◌<◌, ◌∙◌, ap, arith, drop, get_or, length, rules, subst, suc, sym, take}
use Rattle.std.proofs.lemmas.List.{take_more}
use Rattle.std.specs.Prelude.{IfSome, Some, if◌then◌else◌, option_copied, option_map}
use Rattle.hart.specs.Opening.{opening}
use Rattle.machine.specs.Run.{run_after}
use Rattle.origins.specs.Making.{source}
use Rattle.origins.specs.Places.{IsThere}
use Rattle.origins.specs.Search.{is_tagged_at}
use Rattle.past.proofs.InTurn.{drop_on, run_on}
use Rattle.past.specs.Given.{past_events, state_at}
use Rattle.origin_texts.specs.Lost as spec
use Rattle.origin_texts.specs.Origin.{history}
use Rattle.origin_texts.proofs.Descending.{few_too, met_too, none_left, one_up, some_before}
use Rattle.origin_texts.proofs.Following.{no_link}
use Rattle.origin_texts.proofs.Histories.{early_history, sources_there}
use Rattle.origin_texts.proofs.Telling.{next_left}
use Rattle.origin_texts.proofs.lost.down_to_tag.Goals as goal

pub loop-left-init : goal.loop-left-init
loop-left-init c =
    let past = c.args.past.now in
    let replay = option_copied c.args.replay in
    let links = c.args.links.now in
    record {
      machine = c.in_ok-machine.ensures;
      size = ap (λ m. length m.memory.bytes) c.in_ok-machine.ensures;
      events = c.events-events.ensures;
      within = omega arith;
      later = some_before (history past replay) c.requires.0 (length links) links (omega arith) c.requires.1;
      few = tt;
      down = sym (ap (spec.down_to_tag past replay) (none_left (length links) links (omega arith)));
    }

pub overflow_sub-link-in-loop-left : goal.overflow_sub-link-in-loop-left
overflow_sub-link-in-loop-left c =
    let past = c.args.past.now in
    let replay = option_copied c.args.replay in
    let l = c.loop-left in
    let links = c.args.links.now in
    let i = l.left - 1 in
    let one : l.left ≡ i + 1 = omega (arith, c.loop-left-test.true) in
    let few : i < length links = omega (arith, c.loop-left-test.true, l.invariant.within) in
    let it = next_left (history past replay) (early_history past replay) l.met (take i links) (take l.left links) (get_or links i no_link)
    (ap (λ n. take n links) one ∙ take_more links i no_link few) l.invariant.later in
    it.later

pub is_tagged_at-was_tagged-requires : goal.is_tagged_at-was_tagged-requires
is_tagged_at-was_tagged-requires c =
    let past = c.args.past.now in
    let replay = option_copied c.args.replay in
    let l = c.loop-left in
    let links = c.args.links.now in
    let i = l.left - 1 in
    let link = get_or links i no_link in
    let one : l.left ≡ i + 1 = omega (arith, c.loop-left-test.true) in
    let few : i < length links = omega (arith, c.loop-left-test.true, l.invariant.within) in
    let it = next_left (history past replay) (early_history past replay) l.met (take i links) (take l.left links) link
    (ap (λ n. take n links) one ∙ take_more links i no_link few) l.invariant.later in
    let n = link.found.before - l.met in
    let sum : l.met + n ≡ link.found.before = omega (arith, it.later) in
    let at : c.give.new.machine ≡ state_at link.found.before past replay =
    c.give.ensures.state ∙ ap (λ es. run_after (take n es) l.machine) l.invariant.events
    ∙ ap (run_after (take n (drop l.met (past_events past replay)))) l.invariant.machine
    ∙ run_on l.met n link.found.before (past_events past replay) (opening past.image) sum in (
      search rules,
      subst (λ o. IfSome o (λ from. IsThere from c.give.new.machine)) (sym c.source.ensures)
          (subst (λ s. IfSome (source link.found.making) (λ from. IsThere from s)) (sym at)
          (sources_there past replay link.place it.events link.found it.found).0),
    )

pub loop-left-preserved : goal.loop-left-preserved
loop-left-preserved c =
    let past = c.args.past.now in
    let replay = option_copied c.args.replay in
    let l = c.loop-left in
    let links = c.args.links.now in
    let all = past_events past replay in
    let i = l.left - 1 in
    let link = get_or links i no_link in
    let found = link.found in
    let one : l.left ≡ i + 1 = omega (arith, c.loop-left-test.true) in
    let next : l.left ≡ suc i = omega (arith, c.loop-left-test.true) in
    let few : i < length links = omega (arith, c.loop-left-test.true, l.invariant.within) in
    let it = next_left (history past replay) (early_history past replay) l.met (take i links) (take l.left links) link
    (ap (λ n. take n links) one ∙ take_more links i no_link few) l.invariant.later in
    let n = found.before - l.met in
    let sum : l.met + n ≡ found.before = omega (arith, it.later) in
    let at : c.give.new.machine ≡ state_at found.before past replay =
    c.give.ensures.state ∙ ap (λ es. run_after (take n es) l.machine) l.invariant.events
    ∙ ap (run_after (take n (drop l.met all))) l.invariant.machine
    ∙ run_on l.met n found.before all (opening past.image) sum in
    let tagged : c.is_tagged_at-was_tagged.result ≡ spec.was_tagged past replay link =
    c.is_tagged_at-was_tagged.ensures ∙ ap (λ o. is_tagged_at o c.give.new.machine) c.source.ensures
    ∙ ap (is_tagged_at (source found.making)) at in
    let within = subst (λ k. IfSome l.down (λ n. (k ≤ n) × (n ≤ length links))) next l.invariant.few in
    let nearer : c.nearer-down.result ≡ (if c.is_tagged_at-was_tagged.result then Some (suc i) else l.down) =
    c.nearer-down.ensures ∙ ap (λ k. if c.is_tagged_at-was_tagged.result then Some k else l.down) next in
    record {
      machine = at;
      size = c.give.ensures.size ∙ l.invariant.size;
      events = c.give.ensures.events ∙ ap (drop n) l.invariant.events ∙ drop_on l.met n all ∙ ap (λ k. drop k all) sum;
      within = omega (arith, few);
      later = met_too (history past replay) found.before (take i links) it.left;
      few = subst (λ o. IfSome o (λ n. (i ≤ n) × (n ≤ length links))) (sym nearer)
          (few_too l.down c.is_tagged_at-was_tagged.result i (length links) few within);
      down = ap (option_map (λ n. drop i (take n links))) nearer
          ∙ one_up past replay links i no_link c.is_tagged_at-was_tagged.result l.down few within tagged
          (subst (λ k. option_map (λ n. drop k (take n links)) l.down ≡ spec.down_to_tag past replay (drop k links)) next l.invariant.down);
    }
