use Rattle.std.proofs.Common.{◌≡◌, Some, None, ap, sym, ◌∙◌}
use Rattle.std.specs.Prelude.{option_map}
use Rattle.std.specs.Option.{option_copied}
use Rattle.symbols.specs.Places.{left_at}
use Rattle.symbols.proofs.SourceLemmas.{line_there, no_line}
use Rattle.symbols.proofs.sources.Sources.line_at.Goals as goal

pub returns-in-Some : goal.returns-in-Some
returns-in-Some c =
    let lines = c.self.inside.lines.items in
    let address = c.args.address in
    let at : left_at lines address ≡ Some c.in-Some.left.now =
    sym (c.self.inside.placed address) ∙ sym c.get.ensures.value ∙ ap option_copied c.in-Some.is in
    let found = rw c.deref.ensures.value at c.from_end.ensures in
    rw (sym c.self.view_is) (ap (option_map (λ line. line.name)) found ∙ sym (line_there lines address c.in-Some.left.now at))

pub returns-in-None : goal.returns-in-None
returns-in-None c =
    let lines = c.self.inside.lines.items in
    let address = c.args.address in
    let at : left_at lines address ≡ None =
    sym (c.self.inside.placed address) ∙ sym c.get.ensures.value ∙ ap option_copied c.in-None.is in
    rw (sym c.self.view_is) (sym (no_line lines address at))
