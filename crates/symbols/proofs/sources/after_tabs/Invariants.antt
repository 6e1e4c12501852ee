use Rattle.std.proofs.Common.{◌≡◌, length}
use Rattle.symbols.specs.Sources.{after_tabs}
use Rattle.symbols.proofs.sources.after_tabs.Given as goal

abbrev pub invariant-loop-byte : goal.invariant-loop-byte
invariant-loop-byte l = after_tabs l.found l.rest ≡ after_tabs l.text l.text

abbrev pub decreases-loop-byte : goal.decreases-loop-byte
decreases-loop-byte l = length l.rest
