use Rattle.std.proofs.Common.{◌≡◌, ◌+◌, ◌-◌, ◌++◌, ◌∙◌, ap, arith, drop, length, rules, subst, suc, sym, take}
use Rattle.std.specs.Prelude.{map, option_copied}
use Rattle.hart.specs.Opening.{opening}
use Rattle.machine.specs.Run.{run_after}
use Rattle.origins.proofs.Stays.{length-after, place-stays}
use Rattle.origins.specs.Kept.{AreThere}
use Rattle.past.proofs.InTurn.{drop_on, run_on}
use Rattle.past.specs.Given.{past_events, state_at}
use Rattle.steps.specs.Event.{after}
use Rattle.steps.specs.declared.event.Event.TheVariants.{Step}
use Rattle.origin_texts.specs.Held.{newest_first}
use Rattle.origin_texts.specs.Origin.{history, told, told_at}
use Rattle.origin_texts.proofs.Histories.{among_all, early_history, next_dropped, sources_there, stepped}
use Rattle.origin_texts.proofs.Telling.{next_left, told_more}
use Rattle.origin_texts.proofs.links.tell_links.Goals as goal

pub overflow_sub-link : goal.overflow_sub-link
overflow_sub-link c =
    let past = c.args.past.now in
    let replay = option_copied c.args.replay in
    let l = c.loop-link in
    let it = next_left (history past replay) (early_history past replay) l.met c.pop.new.self.items l.links.items c.in-Some.link
    c.in-Some.ensures.items l.invariant.left in
    it.later

pub tell-requires : goal.tell-requires
tell-requires c =
    let past = c.args.past.now in
    let replay = option_copied c.args.replay in
    let l = c.loop-link in
    let link = c.in-Some.link in
    let all = past_events past replay in
    let it = next_left (history past replay) (early_history past replay) l.met c.pop.new.self.items l.links.items link
    c.in-Some.ensures.items l.invariant.left in
    let n = link.found.before - l.met in
    let sum : l.met + n ≡ link.found.before = omega (arith, it.later) in
    let at : c.give.new.machine ≡ state_at link.found.before past replay =
    c.give.ensures.state ∙ ap (λ es. run_after (take n es) l.machine) l.invariant.events
    ∙ ap (run_after (take n (drop l.met all))) l.invariant.machine
    ∙ run_on l.met n link.found.before all (opening past.image) sum in
    let among = among_all past replay link.place it.events link.found it.found in (
      search rules,
      (
        omega (arith, among, c.count-count.ensures.events replay, c.count-count.type_inv),
        (
          place-stays (opening past.image) c.give.new.machine (c.give.ensures.size ∙ l.invariant.size) link.place it.there,
          subst (AreThere link.found.making) (sym at) (sources_there past replay link.place it.events link.found it.found),
        ),
      ),
    )

pub overflow_add-met : goal.overflow_add-met
overflow_add-met c =
    let past = c.args.past.now in
    let replay = option_copied c.args.replay in
    let l = c.loop-link in
    let link = c.in-Some.link in
    let it = next_left (history past replay) (early_history past replay) l.met c.pop.new.self.items l.links.items link
    c.in-Some.ensures.items l.invariant.left in
    let among = among_all past replay link.place it.events link.found it.found in
    omega (arith, among, c.count-count.ensures.events replay, c.count-count.type_inv)

pub loop-link-preserved : goal.loop-link-preserved
loop-link-preserved c =
    let symbols = c.args.symbols.now in
    let past = c.args.past.now in
    let replay = option_copied c.args.replay in
    let l = c.loop-link in
    let link = c.in-Some.link in
    let found = link.found in
    let all = past_events past replay in
    let it = next_left (history past replay) (early_history past replay) l.met c.pop.new.self.items l.links.items link
    c.in-Some.ensures.items l.invariant.left in
    let n = found.before - l.met in
    let sum : l.met + n ≡ found.before = omega (arith, it.later) in
    let one : suc found.before ≡ found.before + 1 = omega arith in
    let at : c.give.new.machine ≡ state_at found.before past replay =
    c.give.ensures.state ∙ ap (λ es. run_after (take n es) l.machine) l.invariant.events
    ∙ ap (run_after (take n (drop l.met all))) l.invariant.machine
    ∙ run_on l.met n found.before all (opening past.image) sum in
    let next : c.give.new.self ≡ drop found.before all =
    c.give.ensures.events ∙ ap (drop n) l.invariant.events ∙ drop_on l.met n all ∙ ap (λ k. drop k all) sum in
    record {
      machine = c.in_ok-tell.ensures.state ∙ ap (after Step) at ∙ sym (stepped past replay link.place it.events found it.found)
          ∙ ap (λ k. state_at k past replay) one;
      size = ap (λ m. length m.memory.bytes) c.in_ok-tell.ensures.state ∙ length-after c.give.new.machine c.hart.ensures.state Step
          ∙ c.give.ensures.size ∙ l.invariant.size;
      events = next_dropped c.next_event.result found.before all c.give.new.self c.next_event.new.self next c.next_event.ensures.some
          c.next_event.ensures.none (among_all past replay link.place it.events found it.found);
      left = it.left;
      told = ap (λ ts. map (told symbols past replay c.args.telling) c.pop.new.self.items ++ newest_first ts) c.in_ok-push.ensures.items
          ∙ told_more (told symbols past replay c.args.telling) c.pop.new.self.items link l.all.items c.in_ok-tell.field-0
          (map (told symbols past replay c.args.telling) c.args.links.items)
          (c.in_ok-tell.ensures.told ∙ ap (told_at c.args.telling symbols link.place found) at)
          (ap (λ ls. map (told symbols past replay c.args.telling) ls ++ newest_first l.all.items) (sym c.in-Some.ensures.items)
          ∙ l.invariant.told);
    }
