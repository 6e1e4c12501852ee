use Rattle.std.proofs.Common.{◌≡◌, length}
use Rattle.commands.specs.Assembling.{after_slashes}
use Rattle.commands.proofs.assembling.base_name.Given as goal

abbrev pub invariant-loop-byte : goal.invariant-loop-byte
invariant-loop-byte l = after_slashes l.found l.rest ≡ after_slashes l.name l.name

abbrev pub decreases-loop-byte : goal.decreases-loop-byte
decreases-loop-byte l = length l.rest
