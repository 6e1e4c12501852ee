use Rattle.std.proofs.Common.{◌++◌, ap, ◌∙◌, subst}
use Rattle.std.specs.Prelude.{string_bytes}
use Rattle.sim_run.specs.Ending.{trap_words}
use Rattle.sim_run.specs.Watched.{IsOpen}
use Rattle.sim_run.proofs.LeftTraps.{is-taken, open-first, open-more}
use Rattle.sim_run.proofs.notes.opened.Goals as goal

pub returns-in-Some-clause-told : goal.returns-in-Some-clause-told
returns-in-Some-clause-told g c = λ found told.
    let symbols = c.args.symbols.now in
    let words = string_bytes c.args.words.now in
    open-more symbols c.args.number c.args.machine.now c.in-Some.one found words
    (subst (λ o. IsOpen symbols o words found) c.in-Some.is told)

pub returns-in_ok-append_trap_words-in-None-clause-told : goal.returns-in_ok-append_trap_words-in-None-clause-told
returns-in_ok-append_trap_words-in-None-clause-told g c = λ found told.
    let symbols = c.args.symbols.now in
    let s = c.args.machine.now in
    let old = string_bytes c.args.words.now in
    open-first symbols c.args.number s c.level_left.result c.args.fault c.pc.result found old (string_bytes c.append_trap_words.new.text)
    (subst (λ o. IsOpen symbols o old found) c.in-None.is told) c.level_left.ensures
    (c.in_ok-append_trap_words-in-None.ensures ∙ ap (λ text. text ++ trap_words symbols c.args.number s) c.clear.ensures.bytes)
    (is-taken s c.requires.running c.args.fault c.pc.result c.requires.traps c.pc.ensures)
