use Rattle.std.proofs.Common.{rules}
use Rattle.std.proofs.lemmas.List.Sorted.{answers_always}
use Rattle.sim_run.specs.declared.tally.Share.{Share}
use Rattle.sim_run.proofs.tally.ranked.Goals as goal

pub returns-clause-order : goal.returns-clause-order
returns-clause-order c =
    c.sort_unstable_by_key.ensures.sorted (λ (share : Share). (record { 0 = share.count }, share.place))
    (answers_always _ _ _ (λ f a r h. search rules))
