use Rattle.std.proofs.Common.{◌≡◌, ◌-◌}
use Rattle.image.specs.Grammar.{section_at, section_end}
use Rattle.image.proofs.Going.{Goes}
use Rattle.image.proofs.reading.sections.Given as goal

abbrev pub invariant-loop : goal.invariant-loop
invariant-loop g l = record {
  count : g.R.Source.failed l.source ≡ g.R.Source.failed l.initial.source;
  read : Goes (section_at l.pages) section_end l.count l.sections.items (l.count - l.counter) l.free
      (g.R.Source.left l.initial.source) (g.R.Source.left l.source);
}
