use Rattle.std.proofs.Common.{ℕ, ◌+◌, ◌<◌, ◌≤◌, arith}
use Rattle.std.proofs.lemmas.List.{length-map}
use Rattle.cap_rights.specs.Rights.{OpensStore}
use Rattle.reached.specs.Links.{values}
use Rattle.every_run.proofs.Checked.{mapped-more, holds-each}
use Rattle.every_run.proofs.kept.may_be_stored.Goals as goal

pub loop-member-preserved : goal.loop-member-preserved
loop-member-preserved g c =
    mapped-more (λ m. g.C.CapRep.value m.cap) c.args.members.now c.loop-member.member-index c.member-item.result (omega arith)
    c.member-item.is (λ x. (a : ℕ) → c.args.address ≤ a → a < c.args.address + c.args.size → OpensStore x a → ⊥)
    (c.may_store_some.ensures c.if-may_store_some.false) c.loop-member.invariant

pub returns : goal.returns
returns g c = λ _. λ a low high writable.
    holds-each (λ x. (b : ℕ) → c.args.address ≤ b → b < c.args.address + c.args.size → OpensStore x b → ⊥)
    (values g.C.CapRep.value c.args.members.now) c.loop-member.member-index
    (omega (arith, length-map c.args.members.now (λ m. g.C.CapRep.value m.cap))) c.loop-member.invariant writable.source
    writable.member a low high writable.opens
