use Rattle.std.proofs.Common.{◌≡◌, take}
use Rattle.std.specs.Prelude.{map}
use Rattle.origin_texts.specs.Lost.{step_of}
use Rattle.origin_texts.proofs.lost.steps_of.Given as goal

abbrev pub invariant-loop-link : goal.invariant-loop-link
invariant-loop-link l = l.steps.items ≡ map step_of (take l.link-index l.links)
