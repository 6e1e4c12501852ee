use Rattle.std.proofs.Common.{false, ap, lit<}
use Rattle.cap_bounds.specs.CapValue.{Cap}
use Rattle.cap_bounds.specs.RootLaws.{decoded-root, encoded-root}
use Rattle.cap_bounds.proofs.laws.root_word.Goals as goal

pub returns-clause-meaning : goal.returns-clause-meaning
returns-clause-meaning c = ap Cap (decoded-root 0 false (lit< tt))

pub returns-clause-word : goal.returns-clause-word
returns-clause-word c = encoded-root
