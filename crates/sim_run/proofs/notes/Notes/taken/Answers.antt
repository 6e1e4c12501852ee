use Rattle.std.proofs.Common.{subst}
use Rattle.std.specs.Prelude.{string_bytes}
use Rattle.sim_run.specs.Watched.{IsLast, IsOpen}
use Rattle.sim_run.proofs.LeftTraps.{both-fields}
use Rattle.sim_run.proofs.notes.Notes.taken.Goals as goal

pub returns-in-Some-Some : goal.returns-in-Some-Some
returns-in-Some-Some c = λ told_by left told symbols s.
    let notes = c.args.self.now in
    let words = string_bytes notes.first_words in
    let later = string_bytes notes.last_words in
    both-fields symbols told_by c.in-Some-Some.first c.in-Some-Some.last words later left.first left.last s
    (subst (λ o. IsOpen told_by o words left.first) c.in-Some-Some.is-0 told.0)
    (subst (λ o. IsLast told_by o later left.last) c.in-Some-Some.is-1 told.1)
