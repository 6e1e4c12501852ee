use Rattle.std.proofs.Common.{subst, sym}
use Rattle.std.specs.Prelude.{false}
use Rattle.std.specs.Io.KnownBytes.{Appends}
use Rattle.bounds_text.specs.WordText.{ShowsWord, word_of_halves}
use Rattle.commands.proofs.Shown.{such_a_text}
use Rattle.commands.proofs.bounding.show_word_text.Goals as goal

pub returns-clause-ok : goal.returns-clause-ok
returns-clause-ok g c =
    such_a_text c.show.result (λ out text. Appends (g.O.Write.contents c.args.output) (g.O.Write.contents out) text) false _ _
    (subst (ShowsWord (word_of_halves c.args.high c.args.low c.args.memory)) (sym c.as_str.ensures.value) c.word_text-words.ensures)
    c.show.ensures.ok
