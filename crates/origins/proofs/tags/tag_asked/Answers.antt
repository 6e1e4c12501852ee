use Rattle.std.proofs.Common.{◌≡◌, subst}
use Rattle.std.specs.Prelude.{IfOk}
use Rattle.origins.specs.Places.{held}
use Rattle.origins.specs.Tags as spec
use Rattle.origins.proofs.tags.tag_asked.Goals as goal

pub returns-in-Loaded : goal.returns-in-Loaded
unfolding spec.tag_asked
returns-in-Loaded g c =
    rw c.in-Loaded.is
    (subst (λ v. IfOk c.loaded_asked.result
    (λ list. list.items ≡ spec.loaded_asked c.in-Loaded.address c.in-Loaded.authority v c.args.machine.now))
    c.held-in-Loaded.ensures.value c.loaded_asked.ensures)

pub returns-in-Moved : goal.returns-in-Moved
unfolding spec.tag_asked
returns-in-Moved g c =
    rw c.in-Moved.is
    (subst (λ v. IfOk c.moved_asked.result (λ list. list.items ≡ spec.moved_asked c.in-Moved.from v c.in-Moved.address))
    c.held-in-Moved.ensures.value c.moved_asked.ensures)

pub returns-in-Bounded : goal.returns-in-Bounded
unfolding spec.tag_asked
returns-in-Bounded g c =
    rw c.in-Bounded.is
    (subst (λ v. IfOk c.bounded_asked.result (λ list. list.items ≡ spec.bounded_asked c.in-Bounded.from v c.in-Bounded.length))
    c.held-in-Bounded.ensures.value c.bounded_asked.ensures)

pub returns-in-BoundedExactly : goal.returns-in-BoundedExactly
unfolding spec.tag_asked
returns-in-BoundedExactly g c =
    rw c.in-BoundedExactly.is
    (subst (λ v. IfOk c.bounded_exactly_asked.result
    (λ list. list.items ≡ spec.bounded_exactly_asked c.in-BoundedExactly.from v c.in-BoundedExactly.length))
    c.held-in-BoundedExactly.ensures.value c.bounded_exactly_asked.ensures)

pub returns-in-Restricted : goal.returns-in-Restricted
unfolding spec.tag_asked
returns-in-Restricted g c =
    rw c.in-Restricted.is
    (subst (λ v. IfOk c.kept_asked.result (λ list. list.items ≡ spec.kept_asked c.in-Restricted.from v))
    c.held-in-Restricted.ensures.value c.kept_asked.ensures)

pub returns-in-Flagged : goal.returns-in-Flagged
unfolding spec.tag_asked
returns-in-Flagged g c =
    rw c.in-Flagged.is
    (subst (λ v. IfOk c.kept_asked-in-Flagged.result (λ list. list.items ≡ spec.kept_asked c.in-Flagged.from v))
    c.held-in-Flagged.ensures.value c.kept_asked-in-Flagged.ensures)

pub returns-in-Sealed : goal.returns-in-Sealed
unfolding spec.tag_asked
returns-in-Sealed g c =
    rw c.in-Sealed.is
    (subst (λ v. IfOk c.sealed_asked.result
    (λ list. list.items ≡ spec.sealed_asked c.in-Sealed.from v c.in-Sealed.authority (held c.in-Sealed.authority c.args.machine.now)))
    c.held-in-Sealed.ensures.value
    (subst (λ a. IfOk c.sealed_asked.result
    (λ list. list.items ≡ spec.sealed_asked c.in-Sealed.from (g.C.CapRep.value c.held-in-Sealed.result) c.in-Sealed.authority a))
    c.held-a.ensures.value c.sealed_asked.ensures))

pub returns-in-Unsealed : goal.returns-in-Unsealed
unfolding spec.tag_asked
returns-in-Unsealed g c =
    rw c.in-Unsealed.is
    (subst (λ v. IfOk c.unsealed_asked.result
    (λ list. list.items ≡ spec.unsealed_asked c.in-Unsealed.from v c.in-Unsealed.authority
    (held c.in-Unsealed.authority c.args.machine.now)))
    c.held-in-Unsealed.ensures.value
    (subst (λ a. IfOk c.unsealed_asked.result
    (λ list. list.items ≡ spec.unsealed_asked c.in-Unsealed.from (g.C.CapRep.value c.held-in-Unsealed.result)
    c.in-Unsealed.authority a))
    c.held-a-in-Unsealed.ensures.value c.unsealed_asked.ensures))

pub returns-in-SealedEntry : goal.returns-in-SealedEntry
unfolding spec.tag_asked
returns-in-SealedEntry g c =
    rw c.in-SealedEntry.is
    (subst (λ v. IfOk c.entry_asked.result (λ list. list.items ≡ spec.entry_asked c.in-SealedEntry.from v))
    c.held-in-SealedEntry.ensures.value c.entry_asked.ensures)

pub returns-in-Linked : goal.returns-in-Linked
unfolding spec.tag_asked
returns-in-Linked g c =
    rw c.in-Linked.is
    (subst (λ v. IfOk c.linked_asked.result (λ list. list.items ≡ spec.linked_asked v c.in-Linked.address))
    c.held-in-Linked.ensures.value c.linked_asked.ensures)

pub returns-in-Entered : goal.returns-in-Entered
unfolding spec.tag_asked
returns-in-Entered g c =
    rw c.in-Entered.is
    (subst (λ v. IfOk c.entered_asked.result (λ list. list.items ≡ spec.entered_asked c.in-Entered.from v c.in-Entered.address))
    c.held-in-Entered.ensures.value c.entered_asked.ensures)

pub returns-in-Resumed : goal.returns-in-Resumed
unfolding spec.tag_asked
returns-in-Resumed g c =
    rw c.in-Resumed.is
    (subst (λ v. IfOk c.resumed_asked.result (λ list. list.items ≡ spec.resumed_asked c.in-Resumed.from v c.in-Resumed.address))
    c.held-in-Resumed.ensures.value c.resumed_asked.ensures)
