use Rattle.std.proofs.Common.{◌≡◌, ◌++◌, ◌-◌, [], ◌∷◌, suc, sym, ap, ap₂, ◌∙◌, append_assoc, length, arith}
use Rattle.std.proofs.lemmas.List.{length-append, map-append}
use Rattle.std.specs.Prelude.{map}
use Rattle.cherisim_c.specs.Links.{shown_link, trail, trail_on}
use Rattle.cherisim_c.proofs.links.trail_of.Goals as goal

pub loop-next-preserved : goal.loop-next-preserved
loop-next-preserved c =
    let l = c.loop-next in
    let met = c.in_ok-met.met in
    let some = c.if-left-eq0.false in
    let follow = trail c.args.past.now in
    let links = map shown_link l.links.items in
    let rest = trail_on (follow (l.left - 1)) met.next met.before in
    let more : suc (l.left - 1) ≡ l.left = omega (arith, some) in
    let one : trail_on (follow l.left) l.next l.events ≡ shown_link met.link ∷ rest =
    ap₂ (λ k o. trail_on (follow k) o l.events) (sym more) c.in-Some.is ∙ c.in_ok-met.ensures.trail (l.left - 1) in
    record {
      trail = ap (λ xs. map shown_link xs ++ rest) c.in_ok-push.ensures.items
          ∙ ap (λ xs. xs ++ rest) (map-append shown_link l.links.items (met.link ∷ []))
          ∙ append_assoc links (shown_link met.link ∷ []) rest ∙ ap (λ xs. links ++ xs) (sym one) ∙ l.invariant.trail;
      few = omega (arith, some, l.invariant.few, ap length c.in_ok-push.ensures.items, length-append l.links.items (met.link ∷ []));
      there = c.in_ok-met.ensures.there;
    }
