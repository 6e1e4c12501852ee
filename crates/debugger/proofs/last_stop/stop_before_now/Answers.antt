use Rattle.std.proofs.Common.{◌∙◌, ap, sym}
use Rattle.std.proofs.lemmas.List.{length-map}
use Rattle.std.specs.Prelude.{◌==◌, option_copied}
use Rattle.debugger.specs.Marked.{seen, seen_mark}
use Rattle.word_cap.specs.WordCap.{word_value}
use Rattle.debugger.proofs.LastStops.{no_stop_before_now}
use Rattle.debugger.proofs.last_stop.stop_before_now.Goals as goal

pub returns-then-is_empty-clause-place : goal.returns-then-is_empty-clause-place
returns-then-is_empty-clause-place g c =
    let marks = c.args.marks.now in
    no_stop_before_now (seen word_value marks) (option_copied c.args.replay) c.args.past.now
    (ap (λ n. n == 0) (length-map marks (seen_mark word_value)) ∙ sym c.if-is_empty.ensures)
