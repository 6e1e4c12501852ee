use Rattle.std.proofs.Common.{◌++◌, ap, ◌∙◌}
use Rattle.std.proofs.lemmas.Result.{on_ok_weaker}
use Rattle.std.specs.Prelude.{codes}
use Rattle.objects.specs.Items.{address_field, object_field, text_field}
use Rattle.explain.specs.StepFields.{trap_field}
use Rattle.explain.proofs.step_fields.put_trap.Goals as goal

pub returns-in-Trap-clause-tokens : goal.returns-in-Trap-clause-tokens
unfolding trap_field
returns-in-Trap-clause-tokens g c =
    let fault = c.in-Trap.fault in
    rw c.in-Trap.is
    (on_ok_weaker c.put.result
    (λ e. e
    ∙ ap (λ words. c.args.object.now.tokens
    ++ object_field (codes "trap")
    (address_field (codes "mcause") fault.mcause ++ address_field (codes "mtval") fault.mtval ++ text_field (codes "words") words))
    (c.as_str.ensures.value ∙ c.trap_text-words.ensures.text))
    c.put.ensures.tokens)
