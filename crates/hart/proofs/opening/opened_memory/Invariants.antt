use Rattle.std.proofs.Common.{◌≡◌, ◌*◌, drop, length}
use Rattle.image.specs.ImageLaws.{AreGoodCapabilities}
use Rattle.steps.specs.State.{HoldsCapabilities}
use Rattle.hart.specs.Opening.{with_capabilities, opening_memory}
use Rattle.hart.proofs.opening.opened_memory.Given as goal

-- putting the rest gives what putting all gives, the rest has no fault, and capabilities are held so far
abbrev pub invariant-loop-entry : goal.invariant-loop-entry
invariant-loop-entry g l = record {
  whole : length l.memory.bytes ≡ 4096 * l.image.pages;
  good : AreGoodCapabilities l.image.pages (drop l.entry-index l.entry-items);
  rest : with_capabilities (drop l.entry-index l.entry-items) l.memory ≡ opening_memory l.image;
  holds : HoldsCapabilities l.memory;
}
