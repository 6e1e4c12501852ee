use Rattle.std.proofs.Common.{◌≡◌, drop}
use Rattle.image.specs.Image.{sections_fault, lent_sections}
use Rattle.image.proofs.image.fault_of_sections.Given as goal

-- the fault of the rest is that of all
abbrev pub invariant-loop-address : goal.invariant-loop-address
invariant-loop-address l =
    sections_fault l.pages l.free (lent_sections (drop l.address-index l.sections)) ≡ sections_fault l.pages 0 (lent_sections l.sections)
