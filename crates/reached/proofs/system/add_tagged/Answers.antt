use Rattle.std.proofs.Common.{◌≡◌, ◌+◌, ◌<◌, ◌≤◌, ◌++◌, [], ◌∷◌, map, filter, take, drop, length, true, ap, ◌∙◌}
use Rattle.std.proofs.Common.{sym, refl, arith, append_assoc}
use Rattle.std.proofs.lemmas.List.{map-append, get_or-map, length-map, length-take, take-append-le, drop-append-le}
use Rattle.std.proofs.lemmas.List.Elements.{All-push}
use Rattle.cap_bounds.specs.CapValue.{is_tagged}
use Rattle.reached.specs.Links.{IsAmong}
use Rattle.reached.proofs.Linking.{filtered_more}
use Rattle.reached.specs.Order.{found, among, seen_members, tagged_from}
use Rattle.reached.proofs.Finding.{tagged_rest, tagged_from-tagged}
use Rattle.reached.proofs.system.add_tagged.Goals as goal

pub loop-number-preserved : goal.loop-number-preserved
loop-number-preserved g c =
    let value = g.C.CapRep.value in
    let old = c.args.members.now.items in
    let items = c.loop-number.members.items in
    let caps = c.args.caps.now in
    let n = c.loop-number.number in
    let y = c.index-caps-number.result in
    let below : n < length caps = omega arith in
    let inv = c.loop-number.invariant in
    let kept = inv.kept in
    let some : length old ≤ length items = let e = ap length kept in omega (arith, length-take (length old) items) in
    let tagged : is_tagged (value y) ≡ true = sym c.tag.ensures ∙ c.if-not-tag.false in
    let special = among c.args.special in
    let rest = tagged_from special c.args.from (n + 1) (map value (drop (n + 1) caps)) in
    record {
      values = rw (c.in_ok-push.ensures.items, map-append)
          (ap (λ vs. vs ++ value y ∷ []) inv.values
          ∙ append_assoc (map (λ x. value x.cap) old) (filter is_tagged (map value (take n caps))) (value y ∷ [])
          ∙ ap (λ vs. map (λ x. value x.cap) old ++ vs) (sym (filtered_more value caps n y below c.index-caps-number.is tagged)));
      kept = rw (c.in_ok-push.ensures.items) (take-append-le (length old) items _ some ∙ kept);
      added = rw (c.in_ok-push.ensures.items, drop-append-le (length old) items _ some)
          (All-push (IsAmong value (map value caps) c.args.special c.args.from) (drop (length old) items) _ inv.added
          (record {
            from_is = refl;
            number = n;
            place_is = c.place_among.ensures;
            some = omega (arith, length-map caps value);
            is_it = get_or-map value caps n y (value y) below ∙ ap value (sym c.index-caps-number.is);
          }));
      found = rw (c.in_ok-push.ensures.items, map-append)
          (append_assoc (seen_members value items) (found (value y) c.place_among.result c.args.from ∷ []) rest
          ∙ ap (λ place. seen_members value items ++ found (value y) place c.args.from ∷ rest) c.place_among.ensures
          ∙ ap (λ xs. seen_members value items ++ xs)
          (sym (tagged_rest value caps special c.args.from n y below c.index-caps-number.is
          ∙ tagged_from-tagged special c.args.from n (value y) (map value (drop (n + 1) caps)) tagged))
          ∙ inv.found);
    }
