use Rattle.std.proofs.Common.{◌≤◌, arith, ap, sym, ◌∙◌, drop, length, ◌+◌}
use Rattle.std.proofs.lemmas.List.{drop_all, length-map}
use Rattle.reached.specs.Links.{values}
use Rattle.policy.specs.Opened.{types_with}
use Rattle.policy.proofs.Next.{drop_next}
use Rattle.policy.proofs.types.types_of.Goals as goal

pub loop-number-preserved : goal.loop-number-preserved
loop-number-preserved g c =
    let value = g.C.CapRep.value in
    let ms = c.args.members.now in
    let k = c.loop-number.number in
    let inside = c.loop-number-test.true in
    let rest = drop (k + 1) (values value ms) in
    let types = c.loop-number.types.items in
    record {
      within = omega (arith, inside);
      types = ap (λ ts. types_with ts rest) c.in_ok-put_type_of.ensures
          ∙ ap (types_with types) (sym (drop_next value ms k c.index-members-number.result inside))
          ∙ c.loop-number.invariant.types;
    }

pub returns : goal.returns
returns g c =
    let value = g.C.CapRep.value in
    let ms = c.args.members.now in
    let past : length (values value ms) ≤ c.loop-number.number =
    omega (arith, c.loop-number-test.false, length-map ms (λ m. value m.cap)) in
    ap (types_with c.loop-number.types.items) (sym (drop_all c.loop-number.number (values value ms) past)) ∙ c.loop-number.invariant.types
