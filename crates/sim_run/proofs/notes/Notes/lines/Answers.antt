use Rattle.std.proofs.Common.{ap, sym, ◌∙◌, ◌++◌, subst}
use Rattle.std.specs.Prelude.{[], codes, string_bytes, if◌then◌else◌, ◌==◌}
use Rattle.sim_run.specs.Ending.{since_line}
use Rattle.sim_run.specs.Watched.{IsLast, IsOpen}
use Rattle.sim_run.proofs.LeftTraps.{both-lines}
use Rattle.sim_run.proofs.notes.Notes.lines.Goals as goal

pub returns-in_ok-append_since-in-Some-Some : goal.returns-in_ok-append_since-in-Some-Some
returns-in_ok-append_since-in-Some-Some c = λ symbols left s told.
    let notes = c.args.self.now in
    let first = c.in-Some-Some.first in
    let last = c.in-Some-Some.last in
    let words = string_bytes notes.first_words in
    let later = string_bytes notes.last_words in
    let one = subst (λ o. IsOpen symbols o words left.first) c.in-Some-Some.is-0 told.0 in
    let two = subst (λ o. IsLast symbols o later left.last) c.in-Some-Some.is-1 told.1 in
    let begun = c.in_ok-append_first-in-Some-Some.ensures
    ∙ ap (λ text. text ++ (codes "; first trap: " ++ c.deref.result.now)) c.new-text.ensures.bytes
    ∙ ap (λ told. codes "; first trap: " ++ told) c.deref.ensures in
    let both = c.in_ok-append_later-in-Some-Some.ensures
    ∙ ap (λ text. text ++ (if first.number == last.number then [] else codes "  last trap: " ++ c.deref-in-Some-Some.result.now)) begun
    ∙ ap (λ told. codes "; first trap: " ++ words ++ (if first.number == last.number then [] else codes "  last trap: " ++ told))
    c.deref-in-Some-Some.ensures in
    both-lines symbols first last words later left.first left.last s one two
    ∙ sym (c.in_ok-append_since-in-Some-Some.ensures ∙ ap (λ text. text ++ since_line last.unfetched) both)
