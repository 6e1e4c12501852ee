use Rattle.std.proofs.Common.{◌≡◌, sym, ap, ◌∙◌}
use Rattle.cap_bounds.specs.Record.{has_exponent, encoded_at}
use Rattle.cap_bounds.specs.CapValue.{value_of, value_address}
use Rattle.cap_bounds.specs.Rounding.{rounding_exponent}
use Rattle.cap_bounds.specs.SetBounds.{request_top, bounded, with_bounds}
use Rattle.cap_bounds.specs.SetBoundsLaws.{bounds-with_bounds, within-with_bounds}
use Rattle.word_cap.specs.WordCap.{word_value, word_sound}
use Rattle.word_cap.proofs.Requests.{joined-bounded, value_of-bounded, IsWordWellFormed-bounded}
use Rattle.word_cap.proofs.rep.WordCapCapRep.set_bounds.Goals as goal
use Rattle.word_cap.proofs.rep.WordCapCapRep.set_bounds.Goals.{After-may_bound}

-- the word of the result
word-is : (c : After-may_bound)
    → c.word_with.result
    ≡ encoded_at (rounding_exponent (value_address (word_value c.args.self)) (request_top (word_value c.args.self) c.args.length))
    (has_exponent c.args.length)
    (bounded (word_value c.args.self) c.args.length)
word-is c =
    let encoding = c.encoding_of-encoding.ensures in
    let from = c.address.ensures in
    c.word_with.ensures.fields
    ∙ joined-bounded c.args.self.word c.args.length _ _ c.args.self.tag _ encoding.ie (rw from at encoding.t) (rw from at encoding.b)

-- and what it stands for, with the tag
value-is : (c : After-may_bound) → value_of c.word_with.result c.may_bound.result ≡ with_bounds (word_value c.args.self) c.args.length
value-is c =
    ap (value_of c.word_with.result) c.may_bound.ensures
    ∙ value_of-bounded (word_value c.args.self) c.args.length c.word_with.result (word_sound c.args.self) c.ranges.length.fits (word-is c)

pub invariant_of-set : goal.invariant_of-set
invariant_of-set c = record {
  in_range = c.word_with.ensures.range;
  well_formed =
      λ tagged. IsWordWellFormed-bounded (word_value c.args.self) c.args.length c.word_with.result
      (word_sound c.args.self) c.ranges.length.fits (word-is c)
      (sym c.may_bound.ensures ∙ tagged);
}

pub returns-clause-value : goal.returns-clause-value
returns-clause-value c = value-is (goal.at.returns-clause-value c).After-may_bound

pub returns-clause-bounds : goal.returns-clause-bounds
returns-clause-bounds c =
    let v = word_value c.args.self in
    rw (value-is (goal.at.returns-clause-bounds c).After-may_bound)
    (bounds-with_bounds (word_value c.args.self) c.args.length (word_sound c.args.self) c.ranges.length.fits)

pub returns-clause-within : goal.returns-clause-within
returns-clause-within c =
    rw (value-is (goal.at.returns-clause-within c).After-may_bound)
    (within-with_bounds (word_value c.args.self) c.args.length (word_sound c.args.self))
