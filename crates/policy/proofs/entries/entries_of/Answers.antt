use Rattle.std.proofs.Common.{◌≤◌, arith, ap, sym, ◌∙◌, drop, length, ◌+◌}
use Rattle.std.proofs.lemmas.List.{drop_all, length-map}
use Rattle.reached.specs.Links.{values}
use Rattle.policy.specs.Opened.{entries_with}
use Rattle.policy.proofs.Next.{drop_next}
use Rattle.policy.proofs.entries.entries_of.Goals as goal

pub loop-number-preserved : goal.loop-number-preserved
loop-number-preserved g c =
    let value = g.C.CapRep.value in
    let ms = c.args.members.now in
    let k = c.loop-number.number in
    let inside = c.loop-number-test.true in
    let rest = drop (k + 1) (values value ms) in
    let found = c.loop-number.entries.items in
    record {
      within = omega (arith, inside);
      entries = ap (λ ts. entries_with ts rest) c.in_ok-put_entry.ensures
          ∙ ap (entries_with found) (sym (drop_next value ms k c.index-members-number.result inside))
          ∙ c.loop-number.invariant.entries;
    }

pub returns : goal.returns
returns g c =
    let value = g.C.CapRep.value in
    let ms = c.args.members.now in
    let past : length (values value ms) ≤ c.loop-number.number =
    omega (arith, c.loop-number-test.false, length-map ms (λ m. value m.cap)) in
    ap (entries_with c.loop-number.entries.items) (sym (drop_all c.loop-number.number (values value ms) past))
    ∙ c.loop-number.invariant.entries
