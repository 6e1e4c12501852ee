use Rattle.std.proofs.Common.{rules, sym, ◌∙◌, refl}
use Rattle.std.specs.Prelude.{string_bytes}
use Rattle.std.proofs.lemmas.Result.{on_ok_weaker}
use Rattle.steps.specs.FetchedLaws.{fetches_word, fetch_faults, is_interrupted}
use Rattle.explain.proofs.StageTexts.{fetch-alone, none-shown, stages-shown}
use Rattle.explain.proofs.stages.append_stages.Goals as goal

pub append_word-requires : goal.append_word-requires
append_word-requires g c =
    let found = fetches_word _ _ c.in-Word.word c.in-Word.insn (sym c.requires ∙ c.in-Word.is) in
    (search rules, found.registers)

pub returns-in_ok-append_fetch-in-Word : goal.returns-in_ok-append_fetch-in-Word
returns-in_ok-append_fetch-in-Word g c =
    let found = fetches_word _ _ c.in-Word.word c.in-Word.insn (sym c.requires ∙ c.in-Word.is) in
    on_ok_weaker c.append_word.result
    (stages-shown c.args.symbols.now c.args.hart.now (string_bytes c.args.text.now) _ _ c.in-Word.word c.in-Word.insn found
    c.in_ok-append_fetch-in-Word.ensures)
    c.append_word.ensures

pub returns-in-Fault : goal.returns-in-Fault
returns-in-Fault g c =
    let faults = fetch_faults _ _ (sym c.requires ∙ c.in-Fault.is) in
    on_ok_weaker c.append_fetch.result (fetch-alone c.args.symbols.now c.args.hart.now (string_bytes c.args.text.now) _ faults)
    c.append_fetch.ensures

pub returns-in-Interrupt : goal.returns-in-Interrupt
returns-in-Interrupt g c =
    none-shown c.args.symbols.now c.args.hart.now (string_bytes c.args.text.now) _ (is_interrupted _ _ (sym c.requires ∙ c.in-Interrupt.is))
    refl
