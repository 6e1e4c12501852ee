use Rattle.std.proofs.Common.{◌≡◌, false, sym, ap, ◌∙◌}
use Rattle.std.proofs.lemmas.Bool.{false≢true}
use Rattle.cap_bounds.specs.CapValue.{CapValue, integer}
use Rattle.devices.specs.Devices.{value_at}
use Rattle.tagged_memory.specs.Memory.{is_in_ram, number_at}
use Rattle.base.specs.Size.{bytes_of}
use Rattle.cap_checks.specs.Question.{fault_of}
use Rattle.steps.specs.Accesses.{loaded}
use Rattle.steps.specs.Applying.{CanApply}
use Rattle.steps.specs.State.{State}
use Rattle.steps.specs.declared.effect.Effect.TheVariants.{Trap, Write, DeviceLoad}
use Rattle.steps.proofs.Loads.{load-ram, load-device, load-refused}
use Rattle.hart.proofs.hart.Hart.plan_mapped_load.Goals as goal

pub returns-then-gives-clause-effect : goal.returns-then-gives-clause-effect
returns-then-gives-clause-effect g c =
    let now : State = c.args.self.now in
    let outside : is_in_ram now.memory c.args.address (bytes_of c.args.size) ≡ false = sym c.holds.ensures.value ∙ c.if-holds.false in
    let value = c.integer-then-gives.ensures ∙ ap integer
    (c.value_at.ensures ∙ ap (λ s. value_at c.args.address s.devices) c.self.view_is) in
    ap (λ v. DeviceLoad (record { rd = c.args.insn.rd; value = v; address = c.args.address; size = c.args.size })) value
    ∙ sym (load-device c.args.insn c.args.address c.args.size now outside (c.gives.ensures.0 c.if-gives.true))

pub returns-else-gives-clause-effect : goal.returns-else-gives-clause-effect
returns-else-gives-clause-effect g c =
    let now : State = c.args.self.now in
    let outside : is_in_ram now.memory c.args.address (bytes_of c.args.size) ≡ false = sym c.holds.ensures.value ∙ c.if-holds.false in
    ap Trap (c.fault.ensures ∙ ap fault_of c.load_question.ensures) ∙ sym (load-refused c.args.insn c.args.address c.args.size now outside
    (λ none. false≢true (sym c.if-gives.false ∙ c.gives.ensures.1 none)))

pub returns-then-holds-clause-effect : goal.returns-then-holds-clause-effect
returns-then-holds-clause-effect g c =
    let insn = c.args.insn in
    ap (λ (v : CapValue). Write (record { rd = insn.rd; value = v }))
    (c.integer.ensures ∙ ap integer (c.loaded.ensures ∙ ap (loaded insn.row c.args.size)
    (c.load-number.ensures.value ∙ ap (λ (s : State). number_at s.memory c.args.address (bytes_of c.args.size)) c.self.view_is)))
    ∙ sym (load-ram insn c.args.address c.args.size c.args.self.now (sym c.holds.ensures.value ∙ c.if-holds.true))

pub returns-then-holds-clause-can : goal.returns-then-holds-clause-can
unfolding CanApply
returns-then-holds-clause-can g c = c.requires.registers.0

pub returns-then-gives-clause-can : goal.returns-then-gives-clause-can
unfolding CanApply
returns-then-gives-clause-can g c = (c.requires.registers.0, c.gives.ensures.0 c.if-gives.true)
