use Rattle.std.proofs.Common.{◌≡◌, ◌+◌, ◌*◌, map, length, ap, sym, subst, arith, inl, inr, ⊎_elim, ◌∙◌}
use Rattle.std.proofs.lemmas.Bool.{false≢true}
use Rattle.base.specs.Ram.{ram_base}
use Rattle.cap_rights.specs.Rights.{OpensGranule}
use Rattle.reached.specs.Reached.{OpensCapabilities}
use Rattle.reached.specs.Order.{seen_members}
use Rattle.reached.proofs.Finding.{AreFound-none, AreFound-opened}
use Rattle.reached.specs.Search.{IsBetween, granules_of}
use Rattle.reached.proofs.Opening.{IsOpened-these, opened_granule, granule_opened, IsBare-either, IsBare-fewer}
use Rattle.reached.proofs.granules.open_granules.Goals as goal

pub take_granules-requires-clause-within : goal.take_granules-requires-clause-within
take_granules-requires-clause-within g c =
    let count = 64 * length c.args.left.now in
    let end : c.of-span.result.end ≡ (granules_of count (g.C.CapRep.value c.args.cap)).end = ap (λ s. s.end) c.of-span.ensures in
    omega (arith, end, c.beside.ensures.within)

pub take_granules-requires-clause-opens : goal.take_granules-requires-clause-opens
take_granules-requires-clause-opens g c = λ k place.
    let count = 64 * length c.args.left.now in
    let cap = g.C.CapRep.value c.args.cap in
    let opens : OpensCapabilities cap = c.opens_capabilities.ensures.0 c.if-not-opens_capabilities.false in
    opened_granule cap count k opens (subst (λ s. IsBetween s.first s.end k) c.of-span.ensures (c.beside.ensures.part k place))

pub returns-clause-opened : goal.returns-clause-opened
returns-clause-opened g c =
    let value = g.C.CapRep.value in
    let left = c.args.left.now in
    let span = c.of-span.result in
    let rest = c.beside.result in
    let cap = value c.args.cap in
    IsOpened-these c.args.memory.now cap (map (λ m. value m.cap) c.args.members.now.items)
    (map (λ m. value m.cap) c.take_granules.new.members.items) left c.take_granules.new.left (IsBetween rest.first rest.end)
    (λ k. OpensGranule cap (ram_base + 16 * k)) c.in_ok-take_granules.ensures.opened
    (λ k inside opens.
    let place : IsBetween span.first span.end k =
    subst (λ s. IsBetween s.first s.end k) (sym c.of-span.ensures) (granule_opened cap (64 * length left) k inside opens) in
    ⊎_elim (λ there. inl (c.requires.bare k there)) (λ there. inr there) (c.beside.ensures.rest k place))

pub returns-clause-bare : goal.returns-clause-bare
returns-clause-bare g c =
    let bare = c.args.bare in
    let rest = c.beside.result in
    let joined = c.joined.result in
    let new = c.take_granules.new.left in
    let opened = c.in_ok-take_granules.ensures.opened in
    IsBare-either bare.first bare.end rest.first rest.end joined.first joined.end new
    (IsBare-fewer bare.first bare.end c.args.left.now new opened.fewer c.requires.bare) opened.taken
    (λ k place. ⊎_elim (λ there. inl there) (λ there. c.beside.ensures.rest k there) (c.joined.ensures k place))

pub returns-clause-found : goal.returns-clause-found
returns-clause-found g c =
    let value = g.C.CapRep.value in
    let left = c.args.left.now in
    let cap = value c.args.cap in
    let span = c.of-span.result in
    let rest = c.beside.result in
    let opens : OpensCapabilities cap = c.opens_capabilities.ensures.0 c.if-not-opens_capabilities.false in
    AreFound-opened c.args.memory.now c.args.from (seen_members value c.args.members.now.items)
    (seen_members value c.take_granules.new.members.items) left c.take_granules.new.left cap rest.first rest.end
    c.in_ok-take_granules.ensures.found
    (λ k place. opened_granule cap (64 * length left) k opens
    (subst (λ s. IsBetween s.first s.end k) c.of-span.ensures (c.beside.ensures.part k place)))
    (λ k inside granule.
    let place : IsBetween span.first span.end k =
    subst (λ s. IsBetween s.first s.end k) (sym c.of-span.ensures) (granule_opened cap (64 * length left) k inside granule) in
    ⊎_elim (λ there. inl (c.requires.bare k there)) (λ there. inr there) (c.beside.ensures.rest k place))

pub returns-then-not-opens_capabilities-clause-found : goal.returns-then-not-opens_capabilities-clause-found
returns-then-not-opens_capabilities-clause-found g c =
    AreFound-none c.args.memory.now c.args.from (seen_members g.C.CapRep.value c.args.members.now.items) c.args.left.now
    (g.C.CapRep.value c.args.cap)
    (λ opens. false≢true (sym c.if-not-opens_capabilities.true ∙ c.opens_capabilities.ensures.1 opens))
