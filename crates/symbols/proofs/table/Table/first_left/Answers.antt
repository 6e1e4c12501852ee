use Rattle.std.proofs.Common.{◌≡◌, ap, sym, ◌∙◌}
use Rattle.symbols.specs.Places.{left_at, names_left}
use Rattle.symbols.proofs.LaterLemmas.{first_names}
use Rattle.symbols.proofs.table.Table.first_left.Goals as goal

pub returns : goal.returns
returns c =
    let symbols = c.self.inside.entries.items in
    let address = c.args.address in
    let at : c.copied.result ≡ left_at symbols address = c.copied.ensures ∙ c.get.ensures.value ∙ c.self.inside.placed address in
    rw (sym c.self.view_is) (ap (names_left symbols) at ∙ first_names symbols address)
