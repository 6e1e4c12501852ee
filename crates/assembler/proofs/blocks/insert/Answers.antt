use Rattle.std.proofs.Common.{◌∙◌, ap, nat_lt}
use Rattle.std.specs.List.{position_or_len}
use Rattle.assembler.proofs.BlockLemmas.{inserted-at}
use Rattle.assembler.proofs.blocks.insert.Goals as goal

pub returns : goal.returns
returns c =
    inserted-at c.args.block c.args.done.now.items _ c.address.result _ c.address.ensures
    (c.rank-rank.ensures.value
    ∙ ap (position_or_len (λ t. nat_lt c.address.result t.address)) c.deref.ensures.value) c.in_ok-insert.ensures.items
