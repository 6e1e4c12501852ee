use Rattle.std.proofs.Common.{◌≡◌, ◌*◌, ◌%◌, refl, sym, ap, ◌∙◌}
use Rattle.cap_bounds.specs.Record.{record_with, has_exponent}
use Rattle.cap_bounds.specs.CapValue.{Cap}
use Rattle.cap_bounds.specs.SetBounds.{bounded}
use Rattle.cap_bounds.specs.PlainCap.{plain_value, plain_sound}
use Rattle.cap_bounds.specs.SetBoundsLaws.{IsWellFormed-bounded, with_bounds-set, with_bounds-refused}
use Rattle.cap_bounds.proofs.set_bounds.bounded.Goals as goal
use Rattle.cap_bounds.proofs.set_bounds.bounded.Goals.{After-otype}

-- the record that the body puts together has the bounds of the request
set : (c : After-otype)
    → record_with c.rounded_out-rounded.result.base
    (c.rounded_out-rounded.result.top % (2 * c.power.result)) c.address-address.result c.perms.result c.flag.result c.otype.result
    ≡ bounded (plain_value c.args.c) c.args.length
unfolding bounded
set c =
    rw (
      c.rounded_out-rounded.ensures.base,
      c.rounded_out-rounded.ensures.top,
      c.power.ensures.value,
      c.from.ensures,
      c.from-2.ensures,
      c.perms.ensures,
      c.flag.ensures,
      c.otype.ensures,
      c.address-address.ensures,
    ) refl

pub invariant_of-set : goal.invariant_of-set
invariant_of-set c =
    let may = sym c.may_bound.ensures ∙ c.if-may_bound.true in
    record {
      well_formed = rw (set (goal.at.invariant_of-set c).After-otype)
          (IsWellFormed-bounded (plain_value c.args.c) c.args.length (plain_sound c.args.c) c.ranges.length.fits may);
    }

pub returns-then-may_bound-clause-value : goal.returns-then-may_bound-clause-value
returns-then-may_bound-clause-value c =
    let may = sym c.may_bound.ensures ∙ c.if-may_bound.true in
    ap Cap (set (goal.at.returns-then-may_bound-clause-value c).After-otype)
    ∙ sym (with_bounds-set (plain_value c.args.c) c.args.length may)

pub returns-else-may_bound-clause-value : goal.returns-else-may_bound-clause-value
unfolding bounded has_exponent
returns-else-may_bound-clause-value c =
    let refused = sym c.may_bound.ensures ∙ c.if-may_bound.false in
    rw (with_bounds-refused (plain_value c.args.c) c.args.length refused)
    (c.data_with-set.ensures
    ∙ rw (
      c.exponent-e.ensures.value,
      c.rounded_out-rounded.ensures.base,
      c.rounded_out-rounded.ensures.top,
      c.power.ensures.value,
      c.from.ensures,
      c.from-2.ensures,
      c.address-address.ensures,
    ) refl)
