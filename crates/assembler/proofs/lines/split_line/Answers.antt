use Rattle.std.proofs.Common.{◌≡◌, length, arith}
use Rattle.std.proofs.lemmas.List.{take_rest}
use Rattle.assembler.proofs.LineLemmas.{split_at, split_none}
use Rattle.assembler.proofs.lines.split_line.Goals as goal

pub returns-then-byte-eq10-clause-split : goal.returns-then-byte-eq10-clause-split
returns-then-byte-eq10-clause-split c = rw take_rest (split_at _ _ c.loop-end-test.true c.if-byte-eq10.true c.loop-end.invariant)

pub returns-clause-split : goal.returns-clause-split
returns-clause-split c = let e : c.loop-end.end ≡ length c.args.text.now = omega arith in split_none _ (rw e at c.loop-end.invariant)
