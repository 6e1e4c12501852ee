use Rattle.std.proofs.Common.{◌++◌, ap, ◌∙◌, append-nil, sym}
use Rattle.std.specs.Prelude.{string_bytes}
use Rattle.std.proofs.lemmas.Result.{on_ok_weaker}
use Rattle.explain.specs.Asked.{decoding}
use Rattle.explain.specs.WhyText.{stage_text}
use Rattle.explain.proofs.StageTexts.{shown-insn, shown-word}
use Rattle.explain.proofs.stages.append_word.Goals as goal

pub returns-in_ok-asked-in-Some : goal.returns-in_ok-asked-in-Some
returns-in_ok-asked-in-Some g c =
    on_ok_weaker c.append_stage-in-Some.result
    (shown-insn c.args.symbols.now c.args.word c.args.hart.now (string_bytes c.args.text.now) _ _ c.args.found
    c.is_some-holds.result c.is_some-holds.ensures
    (c.in_ok-append_stage.ensures
    ∙ ap (λ w. string_bytes c.args.text.now ++ stage_text c.args.symbols.now c.args.hart.now (decoding c.is_some-holds.result w))
    c.from-number.ensures)
    c.in-Some.insn c.deref.result.now c.in-Some.is (c.deref.ensures.value ∙ c.in_ok-asked-in-Some.ensures))
    c.append_stage-in-Some.ensures

pub returns-in-None : goal.returns-in-None
returns-in-None g c =
    shown-word c.args.symbols.now c.args.word c.args.hart.now (string_bytes c.args.text.now) _ _ c.args.found
    c.is_some-holds.result c.is_some-holds.ensures
    (c.in_ok-append_stage.ensures
    ∙ ap (λ w. string_bytes c.args.text.now ++ stage_text c.args.symbols.now c.args.hart.now (decoding c.is_some-holds.result w))
    c.from-number.ensures)
    c.in-None.is (sym (append-nil (string_bytes c.append_stage.new.text)))
