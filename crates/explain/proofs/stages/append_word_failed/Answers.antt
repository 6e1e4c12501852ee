use Rattle.std.proofs.Common.{◌++◌, false, ap, ◌∙◌}
use Rattle.std.proofs.lemmas.Result.{on_ok_weaker}
use Rattle.std.specs.Prelude.{string_bytes}
use Rattle.cap_checks.specs.declared.question.Question.TheVariants.{Instruction}
use Rattle.cap_checks.specs.Question.{asks}
use Rattle.explain.specs.WhyText.{condition_line, false_line}
use Rattle.explain.proofs.FailedLine.{failed-insn, failed-none}
use Rattle.explain.proofs.stages.append_word_failed.Goals as goal

pub returns-in_ok-asked-in-Some : goal.returns-in_ok-asked-in-Some
returns-in_ok-asked-in-Some g c =
    let line =
    ap (false_line c.args.symbols.now c.args.hart.now) (c.deref.ensures.value ∙ c.in_ok-asked-in-Some.ensures)
    ∙ failed-insn c.args.symbols.now c.args.word c.args.hart.now c.args.insn c.in-Some.insn c.in-Some.is in
    on_ok_weaker c.append_false.result (λ e. e ∙ ap (λ more. string_bytes c.args.text.now ++ more) line) c.append_false.ensures

pub returns-in-None : goal.returns-in-None
returns-in-None g c =
    let line =
    ap (λ n. condition_line c.args.symbols.now c.args.hart.now (asks (Instruction n) false)) c.from.ensures
    ∙ failed-none c.args.symbols.now c.args.word c.args.hart.now c.args.insn c.in-None.is in
    on_ok_weaker c.append_line.result (λ e. e ∙ ap (λ more. string_bytes c.args.text.now ++ more) line) c.append_line.ensures
