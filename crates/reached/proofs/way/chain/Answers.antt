use Rattle.std.proofs.Common.{◌≡◌, ◌<◌, false, length, get_or, refl, ap, ◌∙◌, sym, arith}
use Rattle.std.proofs.lemmas.List.{get_or_default}
use Rattle.reached.specs.Chain.{is_root}
use Rattle.reached.specs.ChainLaws.{links_open}
use Rattle.reached.proofs.Ways.{IsWayDown-more, IsWayDown-inside, IsChain-reversed, IsWayUp-more, way-reversed}
use Rattle.reached.proofs.way.chain.Goals as goal

pub loop-last-preserved : goal.loop-last-preserved
loop-last-preserved g c =
    let ms = c.args.members.now in
    let last = c.loop-last.last in
    let way = c.loop-last.way.items in
    let w = c.loop-last.invariant.down in
    let below : last < length ms = IsWayDown-inside ms c.args.index way last w in
    let here = c.index-members-last-in-loop-last.result in
    let from = (get_or ms last here).from in
    let first = c.index-members-last.result in
    let place : is_root (get_or ms last here).place ≡ false =
    ap (λ x. is_root x.place) (get_or_default ms last here first below) ∙ sym c.is_root.ensures ∙ c.loop-last-test.true in
    let earlier : from < last = c.requires.order last here below place in
    record {
      down = rw (c.in_ok-push-2.ensures.items)
          (IsWayDown-more ms c.args.index way last from w (omega arith)
          (λ d. record {
            no_root = ap (λ x. is_root x.place) (get_or_default ms last d here below) ∙ place;
            from_is = ap (λ x. x.from) (get_or_default ms last d here below);
          }));
      up = rw (c.in_ok-push-2.ensures.items)
          (IsWayUp-more g.C.CapRep.value ms c.args.index way last from here c.loop-last.invariant.up below
          (record { no_root = place; from_is = refl }) earlier);
    }

pub returns-clause-chain : goal.returns-clause-chain
returns-clause-chain g c =
    let ms = c.args.members.now in
    let last = c.loop-last.last in
    let w = c.loop-last.invariant.down in
    let below : last < length ms = IsWayDown-inside ms c.args.index c.loop-last.way.items last w in
    rw (c.reverse.ensures.items) (IsChain-reversed ms c.args.index c.loop-last.way.items last w (λ d.
    ap (λ x. is_root x.place) (get_or_default ms last d c.index-members-last.result below)
    ∙ sym c.is_root.ensures ∙ c.loop-last-test.false))

pub returns-clause-way : goal.returns-clause-way
returns-clause-way g c =
    let ms = c.args.members.now in
    let last = c.loop-last.last in
    let w = c.loop-last.invariant in
    let below : last < length ms = IsWayDown-inside ms c.args.index c.loop-last.way.items last w.down in
    c.reverse.ensures.items
    ∙ way-reversed g.C.CapRep.value ms c.args.index c.loop-last.way.items last c.index-members-last.result w.up below
    (sym c.is_root.ensures ∙ c.loop-last-test.false)

pub returns-clause-opens : goal.returns-clause-opens
returns-clause-opens g c = λ roots specials m linked.
    links_open g.C.CapRep.value roots specials m c.args.members.now c.args.index c.reverse.new.self.items linked
    (returns-clause-chain g c)
