use Rattle.std.proofs.Common.{◌∙◌, ap, not}
use Rattle.assembler.proofs.LabelLemmas.{defined}
use Rattle.assembler.proofs.labels.Labels.define.Goals as goal

pub returns-in_ok-insert : goal.returns-in_ok-insert
returns-in_ok-insert c =
    defined c.args.name.now c.in_ok-name.name c.args.place c.self.inside.entries.entries c.insert.new.self.entries c.args.self.now
    c.value.result c.in_ok-name.ensures.items c.self.view_is c.value.ensures (c.is_none.ensures ∙ ap not c.if-is_none.true)
    c.in_ok-insert.ensures.entries
