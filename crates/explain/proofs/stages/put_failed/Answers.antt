use Rattle.std.proofs.Common.{rules, ◌++◌, ap, sym, ◌∙◌, append-nil}
use Rattle.std.proofs.lemmas.Result.{on_ok_weaker}
use Rattle.std.specs.Prelude.{string_bytes}
use Rattle.steps.specs.FetchedLaws.{fetches_word, fetch_faults, is_interrupted}
use Rattle.explain.specs.WhyText.{false_line}
use Rattle.explain.proofs.FailedLine.{failed-fetch, failed-none-at, failed-word}
use Rattle.explain.proofs.stages.put_failed.Goals as goal

pub append_word_failed-requires : goal.append_word_failed-requires
append_word_failed-requires g c =
    let found = fetches_word _ _ c.in-Word.word c.in-Word.insn (sym c.requires ∙ c.in-Word.is) in
    (search rules, found.registers)

pub returns-in-Word : goal.returns-in-Word
returns-in-Word g c =
    let found = fetches_word _ _ c.in-Word.word c.in-Word.insn (sym c.requires ∙ c.in-Word.is) in
    let line = failed-word c.args.symbols.now c.args.hart.now c.in-Word.word c.in-Word.insn found in
    on_ok_weaker c.append_word_failed.result (λ e. e ∙ ap (λ more. string_bytes c.args.text.now ++ more) line) c.append_word_failed.ensures

pub returns-in_ok-asked-in-Fault : goal.returns-in_ok-asked-in-Fault
returns-in_ok-asked-in-Fault g c =
    let faults = fetch_faults _ _ (sym c.requires ∙ c.in-Fault.is) in
    let line =
    ap (false_line c.args.symbols.now c.args.hart.now) (c.deref.ensures.value ∙ c.in_ok-asked-in-Fault.ensures)
    ∙ failed-fetch c.args.symbols.now c.args.hart.now faults in
    on_ok_weaker c.append_false.result (λ e. e ∙ ap (λ more. string_bytes c.args.text.now ++ more) line) c.append_false.ensures

pub returns-in-Interrupt : goal.returns-in-Interrupt
returns-in-Interrupt g c =
    sym (append-nil (string_bytes c.args.text.now))
    ∙ ap (λ more. string_bytes c.args.text.now ++ more)
    (failed-none-at c.args.symbols.now c.args.hart.now (is_interrupted _ _ (sym c.requires ∙ c.in-Interrupt.is)))
