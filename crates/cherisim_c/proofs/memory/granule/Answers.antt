use Rattle.std.proofs.Common.{◌∙◌, ap, sym, subst}
use Rattle.cap_bounds.specs.Record.{IsWordWellFormed}
use Rattle.steps.specs.State.{HoldsCapabilities}
use Rattle.cherisim_c.proofs.RamBytes.{answer-is}
use Rattle.cherisim_c.proofs.memory.granule.Goals as goal

pub from_word-requires : goal.from_word-requires
from_word-requires c = λ tagged.
    let same = answer-is _ _ _ c.in-Ok.ensures.value in
    let holds = subst HoldsCapabilities (sym c.memory.ensures.value) c.memory.ensures.well_formed in
    subst IsWordWellFormed (ap (λ p. p.0) same) (holds c.args.address (ap (λ p. p.1) same ∙ tagged))
