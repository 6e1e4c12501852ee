use Rattle.std.proofs.Common.{◌∙◌, ap, nat_lt}
use Rattle.std.specs.List.{position_or_len}
use Rattle.assembler.proofs.BlockLemmas.{entered-at}
use Rattle.assembler.proofs.capabilities.insert.Goals as goal

pub returns : goal.returns
returns c =
    entered-at c.args.entry c.args.capabilities.now.items _ c.rank-rank.result
    (c.rank-rank.ensures.value
    ∙ ap (position_or_len (λ t. nat_lt c.args.entry.place t.place)) c.deref.ensures.value) c.in_ok-insert.ensures.items
