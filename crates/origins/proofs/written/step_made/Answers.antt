use Rattle.std.proofs.Common.{◌≡◌, ap, sym, subst, ◌∙◌, rules}
use Rattle.std.specs.Prelude.{IfSome}
use Rattle.steps.specs.FetchedLaws.{registers_fetched}
use Rattle.steps.specs.Looks.{HasRegisters}
use Rattle.steps.specs.Step.{insn_fetched, step_effect, step_fetched}
use Rattle.origins.specs.Kept.{AreThere}
use Rattle.origins.specs.Made.{made_by}
use Rattle.origins.proofs.Steps.{step-effect}
use Rattle.origins.proofs.There.{effect-there}
use Rattle.origins.proofs.written.step_made.Goals as goal

pub made_by-requires : goal.made_by-requires
made_by-requires g c =
    let same : c.insn.result ≡ insn_fetched (step_fetched c.hart.result.now) =
    c.insn.ensures ∙ ap insn_fetched c.requires.fetched ∙ ap (λ t. insn_fetched (step_fetched t)) (sym c.hart.ensures.value) in
    (search rules, (subst (λ o. IfSome o HasRegisters) (sym same) (registers_fetched _ _), same))

pub returns-clause-there : goal.returns-clause-there
returns-clause-there g c =
    let s = c.args.machine.now in
    let same : c.made_by.result ≡ made_by c.args.place (step_effect s) s =
    c.made_by.ensures
    ∙ ap (λ e. made_by c.args.place e c.hart.result.now) c.requires.planned.0
    ∙ ap (λ h. made_by c.args.place (step_effect s) h) c.hart.ensures.value in
    subst (λ o. IfSome o (λ making. AreThere making s)) (sym same) (effect-there s c.args.place (step_effect s) (step-effect s))
