use Rattle.std.proofs.Common.{◌++◌, ap, ◌∙◌}
use Rattle.std.specs.Prelude.{string_bytes, codes}
use Rattle.std.proofs.lemmas.Result.{on_ok_weaker}
use Rattle.symbols.specs.Labels.{labelled}
use Rattle.explain.proofs.StageTexts.{other-place}
use Rattle.explain.proofs.stages.append_place.Goals as goal

pub returns-in-Multiple : goal.returns-in-Multiple
returns-in-Multiple g c = rw (c.in-Multiple.is, c.if-invokes.true) c.append_at.ensures

pub returns-in-Multiple-2 : goal.returns-in-Multiple-2
returns-in-Multiple-2 g c = rw (c.in-Multiple-2.is, c.if-invokes.false) c.append_at-in-Multiple-2.ensures

pub returns-in-Instruction : goal.returns-in-Instruction
returns-in-Instruction g c =
    rw c.in-Instruction.is
    (on_ok_weaker c.append_at-in-Instruction.result
    (λ e. e ∙ ap (λ n. string_bytes c.args.text.now ++ (codes "decoding at " ++ labelled c.args.symbols.now n)) c.here.ensures)
    c.append_at-in-Instruction.ensures)

pub returns-in_default : goal.returns-in_default
returns-in_default g c =
    on_ok_weaker c.append_at-in_default.result
    (λ e. e ∙ ap (λ n. string_bytes c.args.text.now ++ (codes "system register at " ++ labelled c.args.symbols.now n))
    c.here-in_default.ensures
    ∙ ap (λ more. string_bytes c.args.text.now ++ more)
    (other-place c.args.symbols.now c.args.invokes c.args.last c.args.hart.now (λ x y z. c.in_default.not-Multiple x y z)
    (λ x y. c.in_default.not-Ram x y) (λ x y z. c.in_default.not-RamOrDevice x y z) (λ x. c.in_default.not-Instruction x)))
    c.append_at-in_default.ensures
