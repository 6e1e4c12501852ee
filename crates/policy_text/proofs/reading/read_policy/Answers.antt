use Rattle.std.proofs.Common.{◌≡◌, ◌∷◌, true}
use Rattle.symbols.specs.Symbols.{lines_of}
use Rattle.policy_text.specs.Policy.{line_of, uncommented}
use Rattle.policy_text.specs.Seen.{has_words, seen_names}
use Rattle.policy_text.proofs.Faulty.{faulty_line}
use Rattle.policy_text.proofs.Spoken.{comes, here}
use Rattle.policy_text.proofs.reading.read_policy.Goals as goal

pub returns-in-Err-clause-err : goal.returns-in-Err-clause-err
returns-in-Err-clause-err c =
    let line = line_of c.args.symbols.now (seen_names c.loop-rest.definitions.items) (uncommented c.split_line.result.0.now) in
    let fails = rw (c.deref.ensures.value, c.uncommented.ensures) at c.in-Err.ensures.said in
    let reading = rw c.split_line.ensures.split at c.loop-rest.invariant.policy in
    rw c.at.ensures (faulty_line c.in-Err.fault c.loop-rest.number line _ _ fails reading)

pub returns-in-Err-clause-room : goal.returns-in-Err-clause-room
returns-in-Err-clause-room c =
    let line = c.split_line.result.0.now in
    let lines = lines_of c.split_line.result.1.now in
    let silent = rw c.uncommented.ensures at c.in-Err.ensures.silent in
    let spoken : has_words (line ∷ lines) ≡ true = here line lines (λ none. let told = silent none in cc) in
    rw c.at.ensures (comes c.in-Err.fault c.loop-rest.number (lines_of c.args.text.now)
    (c.loop-rest.invariant.spoken (rw c.split_line.ensures.split spoken)))
