use Rattle.std.proofs.Common.{subst, sym}
use Rattle.std.specs.Prelude.{true}
use Rattle.std.specs.Io.KnownBytes.{Appends}
use Rattle.bounds_objects.specs.Word.{IsObjectOfWord}
use Rattle.bounds_text.specs.WordText.{word_of_halves}
use Rattle.commands.proofs.Shown.{such_a_text}
use Rattle.commands.proofs.bounding.show_word_object.Goals as goal

pub returns-clause-ok : goal.returns-clause-ok
returns-clause-ok g c =
    such_a_text c.show.result (λ out text. Appends (g.O.Write.contents c.args.output) (g.O.Write.contents out) text) true _ _
    (subst (IsObjectOfWord (word_of_halves c.args.high c.args.low c.args.memory)) (sym c.deref.ensures) c.in_ok-line.ensures)
    c.show.ensures.ok
