use Rattle.std.proofs.Common.{◌≡◌, ◌-◌}
use Rattle.image.specs.Grammar.{capability_at, place_of}
use Rattle.image.proofs.Going.{Goes}
use Rattle.image.proofs.reading.entries.Given as goal

abbrev pub invariant-loop : goal.invariant-loop
invariant-loop g l = record {
  count : g.R.Source.failed l.source ≡ g.R.Source.failed l.initial.source;
  read : Goes (capability_at l.pages) place_of l.count l.entries.items (l.count - l.counter) l.before
      (g.R.Source.left l.initial.source) (g.R.Source.left l.source);
}
