use Rattle.std.proofs.Common.{◌≡◌}
use Rattle.debugger.specs.Standing.{standing_with}
use Rattle.debugger.specs.Heard.{IsHeard}
use Rattle.debugger.proofs.talking.hear.Given as goal

-- so many bytes were heard, and no call has failed
abbrev pub invariant-loop : goal.invariant-loop
invariant-loop g l = record {
  heard : IsHeard l.counter l.line.items
      (standing_with l.initial.session (g.R.Source.left l.initial.source) (g.W.Sink.held l.initial.sink))
      (standing_with l.session (g.R.Source.left l.source) (g.W.Sink.held l.sink));
  reads : g.R.Source.failed l.source ≡ g.R.Source.failed l.initial.source;
  writes : g.W.Sink.failed l.sink ≡ g.W.Sink.failed l.initial.sink;
}
