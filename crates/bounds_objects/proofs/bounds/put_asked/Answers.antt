use Rattle.std.proofs.Common.{◌++◌, ap, ◌∙◌}
use Rattle.std.proofs.lemmas.Result.{on_ok_weaker}
use Rattle.std.specs.Prelude.{codes}
use Rattle.objects.specs.Items.{address_field, object_field, wide_field}
use Rattle.bounds_objects.specs.Bounds.{asked_field}
use Rattle.bounds_objects.proofs.bounds.put_asked.Goals as goal

pub returns-clause-tokens : goal.returns-clause-tokens
unfolding asked_field
returns-clause-tokens c =
    let asked = c.args.request in
    on_ok_weaker c.put.result
    (λ e. e
    ∙ ap (λ top. c.args.object.now.tokens
    ++ object_field (codes "request")
    (address_field (codes "base") asked.base ++ wide_field (codes "top") top ++ address_field (codes "length") asked.length))
    c.end.ensures)
    c.put.ensures.tokens
