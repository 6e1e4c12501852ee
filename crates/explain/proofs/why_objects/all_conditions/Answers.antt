use Rattle.std.proofs.Common.{rules, ◌++◌, ap, sym, ◌∙◌}
use Rattle.steps.specs.FetchedLaws.{fetches_word, is_interrupted}
use Rattle.steps.specs.Step.{fetch_asked}
use Rattle.explain.proofs.AskedConditions.{conditions-none, conditions-word}
use Rattle.explain.proofs.why_objects.all_conditions.Goals as goal

pub word_conditions-requires : goal.word_conditions-requires
word_conditions-requires g c =
    let found = fetches_word _ _ c.in-Word.word c.in-Word.insn (sym c.requires ∙ c.in-Word.is) in
    (search rules, found.registers)

pub returns-in_ok-extend_from_slice-in-Word : goal.returns-in_ok-extend_from_slice-in-Word
returns-in_ok-extend_from_slice-in-Word g c =
    let found = fetches_word _ _ c.in-Word.word c.in-Word.insn (sym c.requires ∙ c.in-Word.is) in
    c.in_ok-extend_from_slice-in-Word.ensures.items
    ∙ ap (λ first. first ++ c.deref.result.now) c.in_ok-all-in-Word.ensures
    ∙ ap (λ rest. fetch_asked c.args.hart.now ++ rest) (c.deref.ensures.value ∙ c.in_ok-asked-in-Word.ensures)
    ∙ conditions-word c.args.hart.now c.in-Word.word c.in-Word.insn found

pub returns-in-Interrupt : goal.returns-in-Interrupt
returns-in-Interrupt g c =
    c.new.ensures.items ∙ conditions-none c.args.hart.now (is_interrupted _ _ (sym c.requires ∙ c.in-Interrupt.is))
