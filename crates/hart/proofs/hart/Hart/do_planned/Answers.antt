use Rattle.std.proofs.Common.{◌≡◌, ℕ, true, false, Option, Some, None, rules, refl, sym, ap, ◌∙◌}
use Rattle.std.specs.Prelude.{is_some}
use Rattle.steps.specs.Effect.{applied, sent_by}
use Rattle.steps.specs.State.{State}
use Rattle.steps.specs.Step.{stepped, stepped_unless, step_sent, step_sent_unless}
use Rattle.hart.proofs.hart.Hart.do_planned.Goals as goal

none-of : (o : Option ℕ) → is_some o ≡ false → o ≡ None
none-of None none = refl
none-of (Some n) none = absurd (cc)

-- a machine that is halted stays as it is, and sends nothing
stays : (o : Option ℕ) (s : State) → is_some o ≡ true → s ≡ stepped_unless o s
stays None s some = absurd (cc)
stays (Some n) s some = refl

is-silent : (o : Option ℕ) (s : State) → is_some o ≡ true → None ≡ step_sent_unless o s
is-silent None s some = absurd (cc)
is-silent (Some n) s some = refl

pub apply_effect-requires : goal.apply_effect-requires
apply_effect-requires g c = (search rules, c.requires.1)

pub returns-then-is_some-clause-state : goal.returns-then-is_some-clause-state
unfolding stepped
returns-then-is_some-clause-state g c =
    stays c.halted.result c.args.self.now (sym c.is_some.ensures ∙ c.if-is_some.true)
    ∙ ap (λ halted. stepped_unless halted c.args.self.now) (c.halted.ensures ∙ ap (λ (s : State). s.devices.halted) c.self.view_is)

pub returns-then-is_some-clause-byte : goal.returns-then-is_some-clause-byte
unfolding step_sent
returns-then-is_some-clause-byte g c =
    is-silent c.halted.result c.args.self.now (sym c.is_some.ensures ∙ c.if-is_some.true)
    ∙ ap (λ halted. step_sent_unless halted c.args.self.now) (c.halted.ensures ∙ ap (λ (s : State). s.devices.halted) c.self.view_is)

pub returns-clause-state : goal.returns-clause-state
unfolding stepped
returns-clause-state g c =
    let none : c.halted.result ≡ None = none-of c.halted.result (sym c.is_some.ensures ∙ c.if-is_some.false) in
    c.apply_effect.ensures ∙ ap (λ e. applied e c.args.self.now) c.requires.0
    ∙ ap (λ halted. stepped_unless halted c.args.self.now)
    (sym none ∙ c.halted.ensures ∙ ap (λ (s : State). s.devices.halted) c.self.view_is)

pub returns-clause-byte : goal.returns-clause-byte
unfolding step_sent
returns-clause-byte g c =
    let none : c.halted.result ≡ None = none-of c.halted.result (sym c.is_some.ensures ∙ c.if-is_some.false) in
    c.byte-byte.ensures ∙ ap sent_by c.requires.0
    ∙ ap (λ halted. step_sent_unless halted c.args.self.now)
    (sym none ∙ c.halted.ensures ∙ ap (λ (s : State). s.devices.halted) c.self.view_is)
