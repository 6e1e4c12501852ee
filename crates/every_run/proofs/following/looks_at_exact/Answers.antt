use Rattle.std.proofs.Common.{sym, ◌∙◌, subst}
use Rattle.reached.specs.Links.{values}
use Rattle.steps.specs.Accesses.{size_of}
use Rattle.steps.specs.MemoryRows.{place_of}
use Rattle.every_run.specs.Handled.{IsKept, LooksAtExact}
use Rattle.every_run.specs.Stands.{IsKnownData}
use Rattle.every_run.proofs.Checked.{known-load}
use Rattle.every_run.proofs.Handlers.{looks-otherwise, not-true}
use Rattle.every_run.proofs.following.looks_at_exact.Goals as goal

pub returns-in-Capability : goal.returns-in-Capability
returns-in-Capability g c = λ other.
    subst (λ k. LooksAtExact (IsKept (values g.C.CapRep.value c.args.members.now) c.args.any.now) k c.args.insn c.args.hart.now)
    (sym (sym c.kind.ensures ∙ c.in-Capability.is)) (c.tests_subset.ensures (not-true c.tests_subset.result other))

pub returns-then-is_through_rs1 : goal.returns-then-is_through_rs1
returns-then-is_through_rs1 g c = λ kept.
    let Known = IsKept (values g.C.CapRep.value c.args.members.now) c.args.any.now in
    let a = c.args.hart.now in
    subst (λ k. LooksAtExact Known k c.args.insn a) (sym (sym c.kind.ensures ∙ c.in-Load.is)) (
      sym c.is_through_rs1.ensures ∙ c.if-is_through_rs1.true,
      known-load Known a.memory (place_of c.args.insn a) (size_of c.args.insn.row)
          (subst (λ p. IsKnownData Known a.memory p 8) c.access_place.ensures (c.is_kept_data.ensures kept)),
    )

pub returns-then-is_through_rs1-2 : goal.returns-then-is_through_rs1-2
returns-then-is_through_rs1-2 g c = λ kept.
    let Known = IsKept (values g.C.CapRep.value c.args.members.now) c.args.any.now in
    let a = c.args.hart.now in
    subst (λ k. LooksAtExact Known k c.args.insn a) (sym (sym c.kind.ensures ∙ c.in-LoadCapability.is)) (
      sym c.is_through_rs1-in-LoadCapability.ensures ∙ c.if-is_through_rs1-2.true,
      subst (λ p. IsKnownData Known a.memory p 16) c.access_place-then-is_through_rs1-2.ensures
          (c.is_kept_data-then-is_through_rs1-2.ensures kept),
    )

pub returns-in-Store : goal.returns-in-Store
returns-in-Store g c = λ through.
    subst (λ k. LooksAtExact (IsKept (values g.C.CapRep.value c.args.members.now) c.args.any.now) k c.args.insn c.args.hart.now)
    (sym (sym c.kind.ensures ∙ c.in-Store.is)) (sym c.is_through_rs1-in-Store.ensures ∙ through)

pub returns-in-StoreCapability : goal.returns-in-StoreCapability
returns-in-StoreCapability g c = λ through.
    subst (λ k. LooksAtExact (IsKept (values g.C.CapRep.value c.args.members.now) c.args.any.now) k c.args.insn c.args.hart.now)
    (sym (sym c.kind.ensures ∙ c.in-StoreCapability.is)) (sym c.is_through_rs1-in-StoreCapability.ensures ∙ through)

pub returns-in_default : goal.returns-in_default
returns-in_default g c = λ _.
    let Known = IsKept (values g.C.CapRep.value c.args.members.now) c.args.any.now in
    subst (λ k. LooksAtExact Known k c.args.insn c.args.hart.now) c.kind.ensures
    (looks-otherwise Known c.kind.result c.args.insn c.args.hart.now c.in_default.not-Csr c.in_default.not-SpecialRw c.in_default.not-Mret
    c.in_default.not-Capability c.in_default.not-Load c.in_default.not-LoadCapability c.in_default.not-Store
    c.in_default.not-StoreCapability)
