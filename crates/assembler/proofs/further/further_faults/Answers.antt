use Rattle.std.proofs.Common.{ℕ, ◌+◌, ◌<◌, ◌≤◌, List, length, Option, Some, None, IfSome, rules, arith}
use Rattle.std.specs.Borrow.{Bor}
use Rattle.assembler.proofs.further.further_faults.Goals as goal

past : (rest : Option (Bor (List ℕ))) (number longer most : ℕ) → IfSome rest (λ r. length r.now < longer) → number + longer ≤ most
    → IfSome rest (λ r. number + 1 + length r.now ≤ most)
past None number longer most shorter room = search rules
past (Some r) number longer most shorter room = omega arith

pub loop-rest-preserved : goal.loop-rest-preserved
loop-rest-preserved c =
    let so_far = c.loop-rest.invariant in
    record {
      told = c.in_ok-pass.ensures.told _ _ (rw (c.in-Some.is, c.next_line.ensures.lines) at so_far.told);
      counted = omega (arith, so_far.counted, c.in_ok-pass.ensures.left);
      lines = past _ _ _ _ c.next_line.ensures.shorter (rw c.in-Some.is at so_far.lines);
    }
