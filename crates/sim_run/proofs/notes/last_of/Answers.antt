use Rattle.std.proofs.Common.{◌+◌, ◌++◌, ap, ◌∙◌, subst}
use Rattle.std.specs.Prelude.{string_bytes}
use Rattle.sim_run.specs.Ending.{trap_words}
use Rattle.sim_run.specs.Unhandled.{unfetched_in}
use Rattle.sim_run.specs.Watched.{IsLast}
use Rattle.sim_run.proofs.LeftTraps.{is-taken, last-first, last-more}
use Rattle.sim_run.proofs.notes.last_of.Goals as goal

pub returns-in-Some-clause-told : goal.returns-in-Some-clause-told
returns-in-Some-clause-told g c = λ found told.
    let symbols = c.args.symbols.now in
    let one = c.in-Some.one in
    let words = string_bytes c.args.words.now in
    last-more symbols c.args.number c.args.machine.now one found words (one.unfetched + c.unfetched_in.result)
    (subst (λ o. IsLast symbols o words found) c.in-Some.is told)
    (ap (λ n. one.unfetched + n) c.unfetched_in.ensures.value ∙ ap (λ f. one.unfetched + unfetched_in f) c.requires.fetched)

pub returns-in_ok-append_trap_words-in-None-clause-told : goal.returns-in_ok-append_trap_words-in-None-clause-told
returns-in_ok-append_trap_words-in-None-clause-told g c = λ found told.
    let symbols = c.args.symbols.now in
    let s = c.args.machine.now in
    let old = string_bytes c.args.words.now in
    last-first symbols c.args.number s c.args.fault c.pc.result found old (string_bytes c.append_trap_words.new.text)
    (subst (λ o. IsLast symbols o old found) c.in-None.is told)
    (c.in_ok-append_trap_words-in-None.ensures ∙ ap (λ text. text ++ trap_words symbols c.args.number s) c.clear.ensures.bytes)
    (is-taken s c.requires.running c.args.fault c.pc.result c.requires.traps c.pc.ensures)
