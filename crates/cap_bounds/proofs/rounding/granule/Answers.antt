use Rattle.std.proofs.Common.{◌+◌, ◌^◌, sym, ap, ◌∙◌, arith}
use Rattle.cap_bounds.specs.RoundingLaws.{rounding_granule-short, rounding_granule-long}
use Rattle.cap_bounds.proofs.rounding.granule.Goals as goal

pub returns-then-length-lt4096-clause-value : goal.returns-then-length-lt4096-clause-value
returns-then-length-lt4096-clause-value c = sym (rounding_granule-short 0 c.args.length (omega arith))

pub returns-clause-value : goal.returns-clause-value
returns-clause-value c =
    c.granule_at.ensures.value
    ∙ ap (λ e. 2 ^ (e + 3)) c.length_exponent.ensures.value
    ∙ sym (rounding_granule-long 0 c.args.length (omega arith))
