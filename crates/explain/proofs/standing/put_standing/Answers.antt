use Rattle.std.proofs.Common.{◌≡◌, ◌++◌, ap, ◌∙◌}
use Rattle.std.proofs.lemmas.Result.{on_ok_weaker}
use Rattle.std.specs.Prelude.{codes, decimal, string_bytes}
use Rattle.steps.specs.State.{pc_of}
use Rattle.symbols.specs.Labels.{labelled}
use Rattle.explain.proofs.standing.put_standing.Goals as goal

pub returns : goal.returns
returns g c =
    let place : c.as_str.result.now ≡ labelled c.args.symbols.now (pc_of c.args.hart.now) =
    c.as_str.ensures.value ∙ c.labelled-place.ensures.text ∙ ap (labelled c.args.symbols.now) c.pc.ensures in
    on_ok_weaker c.append.result
    (λ e. e
    ∙ ap (λ more. string_bytes c.args.text.now ++ (codes "cherisim: steps " ++ decimal c.args.steps ++ codes ", pcc " ++ more)) place)
    c.append.ensures.bytes
