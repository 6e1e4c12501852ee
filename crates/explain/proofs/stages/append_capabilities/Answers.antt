use Rattle.std.proofs.Common.{◌++◌, ap, sym, ◌∙◌}
use Rattle.std.proofs.lemmas.Result.{on_ok_weaker}
use Rattle.std.specs.Prelude.{string_bytes}
use Rattle.explain.proofs.StageTexts.{lines-other}
use Rattle.explain.proofs.stages.append_capabilities.Goals as goal

pub returns-in_default : goal.returns-in_default
returns-in_default g c =
    let shown = lines-other c.args.first c.in_default.not-Right c.in_default.not-Instruction c.args.conditions.now c.args.hart.now in
    on_ok_weaker c.append_capability-in_default.result (λ e. e ∙ ap (λ more. string_bytes c.args.text.now ++ more) (sym shown))
    c.append_capability-in_default.ensures
