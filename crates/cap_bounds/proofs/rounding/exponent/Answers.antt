use Rattle.std.proofs.Common.{sym, arith}
use Rattle.cap_bounds.specs.RoundingLaws.{rounding_exponent-is}
use Rattle.cap_bounds.proofs.rounding.exponent.Goals as goal

pub returns-else-granules_spanned-ge1024-clause-value : goal.returns-else-granules_spanned-ge1024-clause-value
returns-else-granules_spanned-ge1024-clause-value c =
    sym (rounding_exponent-is c.args.base c.args.top c.loop-e.e c.loop-e.invariant.in_range c.loop-e.invariant.too_small (λ _. omega arith))

pub returns-after-loop-e-clause-value : goal.returns-after-loop-e-clause-value
returns-after-loop-e-clause-value c =
    sym (rounding_exponent-is c.args.base c.args.top c.loop-e.e c.loop-e.invariant.in_range c.loop-e.invariant.too_small
    (λ below. absurd (omega arith)))
