use Rattle.std.proofs.Common.{sym, ◌∙◌}
use Rattle.word_cap.proofs.Lengths.{length_mantissa-internal, length_mantissa-clear}
use Rattle.word_cap.proofs.mantissas.mantissas_of.Goals as goal

pub returns-then-ie-clause-length : goal.returns-then-ie-clause-length
returns-then-ie-clause-length c =
    length_mantissa-internal c.args.word c.from-t.result c.from-b.result (sym c.ie.ensures ∙ c.if-ie.true)
    (c.from-t.ensures ∙ c.t_field.ensures) (c.from-b.ensures ∙ c.b_field.ensures)

pub returns-else-ie-clause-length : goal.returns-else-ie-clause-length
returns-else-ie-clause-length c =
    length_mantissa-clear c.args.word c.from-t.result c.from-b.result (sym c.ie.ensures ∙ c.if-ie.false)
    (c.from-t.ensures ∙ c.t_field.ensures) (c.from-b.ensures ∙ c.b_field.ensures)
