use Rattle.std.proofs.lemmas.Bool.{ne_eqb}
use Rattle.image.specs.Grammar.{count_at, entries_at, capabilities_at}
use Rattle.image.proofs.Taking.{Takes-last}
use Rattle.image.proofs.reading.capabilities.Goals as goal

pub returns-clause-part : goal.returns-clause-part
unfolding capabilities_at
returns-clause-part g c =
    let v = c.args.version in
    let pages = c.args.pages in
    rw (ne_eqb v 1 c.if-version-eq1.false)
    (Takes-last (λ v. v.items) (count_at v) (λ n. entries_at pages n 0) _ _ _ c.in_ok-count.count c.entries.result
    c.in_ok-count.ensures.part c.entries.ensures.part)
