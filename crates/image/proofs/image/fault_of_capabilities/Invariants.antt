use Rattle.std.proofs.Common.{◌≡◌, drop}
use Rattle.image.specs.Image.{capabilities_fault}
use Rattle.image.proofs.image.fault_of_capabilities.Given as goal

-- the fault of the rest is that of all
abbrev pub invariant-loop-capability : goal.invariant-loop-capability
invariant-loop-capability l =
    capabilities_fault l.pages l.before (drop l.capability-index l.capabilities) ≡ capabilities_fault l.pages 0 l.capabilities
