use Rattle.std.proofs.Common.{◌-◌, ◌/◌, ◌^◌, ap, ◌∙◌}
use Rattle.std.specs.Prelude.{bit_and}
use Rattle.std.proofs.lemmas.Nat.{one_shl, and_mask}
use Rattle.isa_table.proofs.fields.field.Goals as goal

pub returns-clause-value : goal.returns-clause-value
returns-clause-value c =
    let high = c.args.word / 2 ^ c.args.low in
    ap (λ m. bit_and high (m - 1)) (one_shl c.args.count 32 c.requires.count_in) ∙ and_mask high c.args.count
