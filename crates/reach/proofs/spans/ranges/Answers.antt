use Rattle.std.proofs.Common.{rules, sym, subst}
use Rattle.std.proofs.lemmas.List.Sorted.{IsNonDecreasingBy-from_sort, answers_always}
use Rattle.std.specs.List.Sorted.{IsNonDecreasingBy}
use Rattle.reached.specs.Links.{values}
use Rattle.reach.specs.declared.range.Range.{Range}
use Rattle.reach.proofs.Merging.{filled-permutation, merged-opened}
use Rattle.reach.proofs.Putting.{are_ranges_of}
use Rattle.reach.proofs.spans.ranges.Goals as goal

pub merged-requires-clause-filled : goal.merged-requires-clause-filled
merged-requires-clause-filled g c =
    filled-permutation c.in_ok-ranges.ranges.items c.sort_unstable_by_key.new.self.items c.deref.result.now
    c.sort_unstable_by_key.ensures.permutation c.deref.ensures.value c.in_ok-ranges.ensures.filled

pub merged-requires-clause-ascending : goal.merged-requires-clause-ascending
merged-requires-clause-ascending g c =
    let begins = λ (range : Range). range.from in
    subst (IsNonDecreasingBy begins) (sym c.deref.ensures.value)
    (IsNonDecreasingBy-from_sort begins _
    (c.sort_unstable_by_key.ensures.sorted begins (answers_always _ _ _ (λ f a r g h. search rules))))

pub returns-clause-same : goal.returns-clause-same
returns-clause-same g c =
    merged-opened c.args.right (values g.C.CapRep.value c.args.members.now) c.in_ok-ranges.ranges.items
    c.sort_unstable_by_key.new.self.items c.deref.result.now c.in_ok-found.found.items c.sort_unstable_by_key.ensures.permutation
    c.deref.ensures.value c.in_ok-ranges.ensures.same c.in_ok-found.ensures.same

pub returns-clause-exact : goal.returns-clause-exact
returns-clause-exact g c =
    are_ranges_of c.args.right (values g.C.CapRep.value c.args.members.now) c.in_ok-found.found.items c.in_ok-found.ensures.apart
    (returns-clause-same g c)
