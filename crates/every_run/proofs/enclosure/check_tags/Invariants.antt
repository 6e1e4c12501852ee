use Rattle.std.proofs.Common.{ℕ, ◌<◌}
use Rattle.std.specs.List.{HoldsAt}
use Rattle.every_run.proofs.Checked.{HasNoTagIn}
use Rattle.every_run.proofs.enclosure.check_tags.Given as goal

abbrev pub invariant-loop-range : goal.invariant-loop-range
invariant-loop-range l = (k : ℕ) → k < l.range-index → HoldsAt (HasNoTagIn l.memory) l.any k
