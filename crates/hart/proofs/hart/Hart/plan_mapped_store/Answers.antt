use Rattle.std.proofs.Common.{rules, sym, ap, ◌∙◌}
use Rattle.std.proofs.lemmas.Bool.{false≢true}
use Rattle.cap_checks.specs.Question.{fault_of}
use Rattle.steps.specs.Applying.{CanApply}
use Rattle.steps.specs.declared.effect.Effect.TheVariants.{Trap}
use Rattle.steps.proofs.Loads.{store-ram, store-device, store-refused}
use Rattle.hart.proofs.hart.Hart.plan_mapped_store.Goals as goal

pub holds-requires : goal.holds-requires
holds-requires g c = (search rules, c.requires)

pub returns-then-holds-clause-effect : goal.returns-then-holds-clause-effect
returns-then-holds-clause-effect g c =
    sym (store-ram c.args.address c.args.size c.args.number c.args.self.now (sym c.holds.ensures.value ∙ c.if-holds.true))

pub returns-then-holds-clause-can : goal.returns-then-holds-clause-can
unfolding CanApply
returns-then-holds-clause-can g c = c.holds.ensures.allowed c.if-holds.true

pub returns-then-takes-clause-effect : goal.returns-then-takes-clause-effect
returns-then-takes-clause-effect g c =
    let outside = sym c.holds.ensures.value ∙ c.if-holds.false in
    sym (store-device c.args.address c.args.size c.args.number c.args.self.now outside (c.takes.ensures.0 c.if-takes.true))

pub returns-then-takes-clause-can : goal.returns-then-takes-clause-can
unfolding CanApply
returns-then-takes-clause-can g c = c.takes.ensures.0 c.if-takes.true

pub returns-else-takes-clause-effect : goal.returns-else-takes-clause-effect
returns-else-takes-clause-effect g c =
    let outside = sym c.holds.ensures.value ∙ c.if-holds.false in
    ap Trap (c.fault.ensures ∙ ap fault_of c.store_question.ensures)
    ∙ sym (store-refused c.args.address c.args.size c.args.number c.args.self.now outside
    (λ none. false≢true (sym c.if-takes.false ∙ c.takes.ensures.1 none)))
