use Rattle.std.proofs.Common.{◌≡◌, ◌+◌, ◌*◌, ◌<◌, ◌≤◌, map, length, true, arith, ap, ◌∙◌, drop, refl, ⊎_elim}
use Rattle.std.proofs.lemmas.Bool.{cases_lt}
use Rattle.std.proofs.lemmas.List.{map-append, length-take, take-append-le, drop-append-le, take_all}
use Rattle.std.proofs.lemmas.List.Elements.{All-push}
use Rattle.base.specs.Ram.{ram_base}
use Rattle.cap_bounds.specs.CapValue.{value_of}
use Rattle.tagged_memory.specs.Memory.{word_at}
use Rattle.tagged_memory.specs.MemoryLaws.{in_ram-from}
use Rattle.reached.specs.Links.{IsMemberThrough}
use Rattle.reached.specs.Order.{seen_members}
use Rattle.reached.proofs.Finding.{IsTaking-begun, IsTaking-more, AreFound-taken}
use Rattle.reached.specs.Search.{held, IsBetween}
use Rattle.reached.proofs.Opening.{place_fault-none, none_added, IsOpened-none, IsOpened-more}
use Rattle.reached.proofs.granules.take_granules.Goals as goal

pub load_cap-word-requires : goal.load_cap-word-requires
load_cap-word-requires g c =
    let m = c.args.memory.now in
    let granule = c.next_tag-granule.result in
    let words = c.requires.words in
    let address = ram_base + 16 * granule in
    place_fault-none m address (omega arith) (in_ram-from m address 16 (omega arith) (omega arith))

pub loop-next-init : goal.loop-next-init
loop-next-init g c =
    let items = c.args.members.now.items in
    let value = g.C.CapRep.value in
    record {
      from_first = omega arith;
      opened = IsOpened-none c.args.memory.now (value c.args.cap) (map (λ m. value m.cap) items) c.args.left.now
          (IsBetween c.args.span.first c.args.span.first) (λ k place. absurd (omega (arith, place.0, place.1)));
      kept = take_all (length items) items (omega arith);
      added = none_added (IsMemberThrough value c.args.memory.now (value c.args.cap) c.args.from) items;
      found = IsTaking-begun c.args.memory.now c.args.from (seen_members value items) c.args.left.now c.args.span.first c.args.span.end;
    }

pub loop-next-preserved : goal.loop-next-preserved
loop-next-preserved g c =
    let m = c.args.memory.now in
    let now = c.loop-next.left in
    let granule = c.next_tag-granule.result in
    let words = c.requires.words in
    let inv = c.loop-next.invariant.opened in
    let from_first = c.loop-next.invariant.from_first in
    let inside : granule < 64 * length now = omega arith in
    let pair = c.load_cap-word.ensures in
    let here = c.requires.tags granule (inv.fewer granule (c.next_tag-granule.ensures.tagged inside)) in
    let tag : c.load_cap-word.result.1 ≡ true = ap (λ p. p.1) pair ∙ here in
    let word : c.load_cap-word.result.0 ≡ word_at m (ram_base + 16 * granule) = ap (λ p. p.0) pair in
    let value : g.C.CapRep.value c.from_word.result ≡ held m granule =
    c.from_word.ensures ∙ ap (λ t. value_of c.load_cap-word.result.0 t) tag ∙ ap (λ w. value_of w true) word in
    let old = c.args.members.now.items in
    let items = c.loop-next.members.items in
    let kept = c.loop-next.invariant.kept in
    let some : length old ≤ length items = let e = ap length kept in omega (arith, length-take (length old) items) in
    let opens = c.requires.opens granule (omega arith, omega arith) in
    record {
      from_first = omega arith;
      opened = rw (c.in_ok-push.ensures.items, map-append)
          (IsOpened-more m (g.C.CapRep.value c.args.cap) (map (λ member. g.C.CapRep.value member.cap) old)
          (map (λ member. g.C.CapRep.value member.cap) items) c.args.left.now now c.args.span.first c.loop-next.next
          granule inv c.next_tag-granule.ensures c.clear_tag.new.planes (g.C.CapRep.value c.from_word.result) inside c.requires.tags
          opens value c.clear_tag.ensures.len c.clear_tag.ensures.value);
      kept = rw (c.in_ok-push.ensures.items) (take-append-le (length old) items _ some ∙ kept);
      added = rw (c.in_ok-push.ensures.items, drop-append-le (length old) items _ some)
          (All-push (IsMemberThrough g.C.CapRep.value m (g.C.CapRep.value c.args.cap) c.args.from) (drop (length old) items) _
          c.loop-next.invariant.added
          (record {
            from_is = refl;
            granule = ram_base + 16 * granule;
            place_is = refl;
            opens = opens;
            here = record { tagged = here; value = value };
          }));
      found = rw (c.in_ok-push.ensures.items, map-append, value)
          (IsTaking-more m c.args.from (seen_members g.C.CapRep.value old) (seen_members g.C.CapRep.value items) c.args.left.now now
          c.args.span.first c.args.span.end c.loop-next.invariant.found c.loop-next.next granule c.clear_tag.new.planes inv.taken
          c.next_tag-granule.ensures from_first (omega arith) inside c.clear_tag.ensures.len c.clear_tag.ensures.value);
    }

pub returns-then-granule-span-clause-found : goal.returns-then-granule-span-clause-found
returns-then-granule-span-clause-found g c =
    let inv = c.loop-next.invariant in
    AreFound-taken c.args.memory.now c.args.from (seen_members g.C.CapRep.value c.args.members.now.items)
    (seen_members g.C.CapRep.value c.loop-next.members.items) c.args.left.now c.loop-next.left c.args.span.first c.args.span.end inv.found
    (λ k place. ⊎_elim (λ early. inv.opened.taken k (place.0, early))
    (λ late. c.next_tag-granule.ensures.none_between k late (omega (arith, place.1))) (cases_lt k c.loop-next.next))

pub returns-clause-found : goal.returns-clause-found
returns-clause-found g c =
    let inv = c.loop-next.invariant in
    AreFound-taken c.args.memory.now c.args.from (seen_members g.C.CapRep.value c.args.members.now.items)
    (seen_members g.C.CapRep.value c.loop-next.members.items) c.args.left.now c.loop-next.left c.args.span.first c.args.span.end inv.found
    (λ k place. inv.opened.taken k (place.0, omega (arith, place.1)))
