use Rattle.std.proofs.Common.{◌++◌, ap, ◌∙◌}
use Rattle.std.proofs.lemmas.Result.{on_ok_weaker}
use Rattle.std.specs.Prelude.{codes}
use Rattle.explain.specs.WhyObjects.{asks_field, bytes_fields, question_fields}
use Rattle.explain.proofs.asked.put_question.Goals as goal

pub returns-in-Multiple-clause-tokens : goal.returns-in-Multiple-clause-tokens
unfolding question_fields
returns-in-Multiple-clause-tokens g c = rw c.in-Multiple.is c.put_asked_bytes.ensures.tokens

pub returns-in-RamOrDevice-clause-tokens : goal.returns-in-RamOrDevice-clause-tokens
unfolding question_fields
returns-in-RamOrDevice-clause-tokens g c =
    rw c.in-RamOrDevice.is
    (on_ok_weaker c.put_asked_bytes-in-RamOrDevice.result
    (λ e. e
    ∙ ap (λ size. c.args.object.now.tokens
    ++ (asks_field (codes "ram_or_device") ++ bytes_fields c.args.symbols.now c.in-RamOrDevice.address size))
    c.bytes.ensures)
    c.put_asked_bytes-in-RamOrDevice.ensures.tokens)

pub returns-in-SystemRegister-clause-tokens : goal.returns-in-SystemRegister-clause-tokens
unfolding question_fields
returns-in-SystemRegister-clause-tokens g c = rw c.in-SystemRegister.is c.put-in-SystemRegister.ensures.tokens
