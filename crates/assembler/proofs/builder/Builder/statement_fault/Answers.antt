use Rattle.std.proofs.Common.{is_some, ap, ◌∙◌}
use Rattle.assembler.proofs.SoundLemmas.{named-none, parts-known, last-fault}
use Rattle.assembler.proofs.builder.Builder.statement_fault.Goals as goal

pub exact_fault-requires : goal.exact_fault-requires
exact_fault-requires c =
    parts-known _ _ _ _ _ _ c.named_fault-named.ensures (named-none _ _ c.is_some.ensures c.if-is_some.false)
    c.capability_in-operands.ensures

pub returns : goal.returns
returns c =
    last-fault _ _ _ _ _ _ _ _ _ c.page_count.ensures c.place-place.ensures.value c.named_fault-named.ensures
    (named-none _ _ c.is_some.ensures c.if-is_some.false) (c.is_some-2.ensures ∙ ap is_some c.misplaced.ensures) c.if-is_some-2.false
    c.capability_in-operands.ensures c.exact_fault.ensures
