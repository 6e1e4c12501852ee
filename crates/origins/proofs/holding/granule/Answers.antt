use Rattle.std.proofs.Common.{sym, ap, subst, ◌≡◌, true, ◌∙◌}
use Rattle.cap_bounds.specs.CapValue.{value_of}
use Rattle.cap_bounds.specs.Record.{IsWordWellFormed}
use Rattle.tagged_memory.specs.Memory.{has_tag, word_at}
use Rattle.origins.specs.Places as spec
use Rattle.origins.proofs.holding.granule.Goals as goal

pub from_word-requires : goal.from_word-requires
from_word-requires g c =
    let memory = c.memory.result.now in
    let loaded = c.load_cap-word.ensures in
    λ tagged. subst IsWordWellFormed (sym (ap (λ r. r.0) loaded))
    (subst (λ m. has_tag m c.args.address ≡ true → IsWordWellFormed (word_at m c.args.address)) (sym c.memory.ensures.value)
    (c.memory.ensures.well_formed c.args.address)
    (sym (ap (λ r. r.1) loaded) ∙ tagged))

pub returns-clause-value : goal.returns-clause-value
unfolding spec.held
returns-clause-value g c =
    c.from_word.ensures
    ∙ ap (λ r. value_of r.0 r.1) c.load_cap-word.ensures
    ∙ ap (λ m. value_of (word_at m c.args.address) (has_tag m c.args.address)) c.memory.ensures.value

pub returns-clause-sound : goal.returns-clause-sound
returns-clause-sound g c = g.met.C.CapRep.valid c.from_word.result
