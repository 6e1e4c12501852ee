use Rattle.std.proofs.Common.{◌+◌, ◌≤◌, ◌^◌, below_more, sym, arith}
use Rattle.cap_bounds.specs.ExponentLaws.{exponent_for-is}
use Rattle.cap_bounds.proofs.encode.exponent.Goals as goal

pub loop-e-preserved : goal.loop-e-preserved
loop-e-preserved c = record {
  in_range = omega arith;
  too_small = below_more (λ j. 2 ^ (j + 13) ≤ c.args.length) _ c.loop-e.invariant.too_small (omega (arith, c.power.ensures.value));
}

pub returns-else-length-power-clause-value : goal.returns-else-length-power-clause-value
returns-else-length-power-clause-value c =
    sym (exponent_for-is c.args.length c.loop-e.e c.loop-e.invariant.in_range c.loop-e.invariant.too_small
    (λ _. omega (arith, c.power.ensures.value)))

pub returns-after-loop-e-clause-value : goal.returns-after-loop-e-clause-value
returns-after-loop-e-clause-value c =
    sym (exponent_for-is c.args.length c.loop-e.e c.loop-e.invariant.in_range c.loop-e.invariant.too_small (λ below. absurd (omega arith)))
