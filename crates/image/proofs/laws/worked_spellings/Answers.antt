use Rattle.std.proofs.Common.{refl}
use Rattle.image.specs.Grammar.{header_bytes, span_bytes, capability_bytes}
use Rattle.image.proofs.laws.worked_spellings.Goals as goal

pub returns-clause-header : goal.returns-clause-header
unfolding header_bytes
returns-clause-header c = refl

pub returns-clause-section : goal.returns-clause-section
unfolding span_bytes
returns-clause-section c = refl

pub returns-clause-entry : goal.returns-clause-entry
unfolding capability_bytes
returns-clause-entry c = refl
