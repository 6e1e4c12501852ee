use Rattle.std.proofs.Common.{◌++◌, ap, ◌∙◌, ℕ}
use Rattle.std.proofs.lemmas.Result.{on_ok_weaker}
use Rattle.std.specs.Prelude.{Bool, List, codes}
use Rattle.json.specs.Token.{Token}
use Rattle.cap_bounds.specs.CapValue.{is_tagged, value_address, value_base}
use Rattle.objects.specs.Items.{address_field, truth_field, wide_field}
use Rattle.bounds_objects.specs.Value.{bound_fields}
use Rattle.bounds_objects.proofs.value.put_bounds.Goals as goal

pub returns-clause-tokens : goal.returns-clause-tokens
unfolding bound_fields
returns-clause-tokens g c =
    let v = g.C.CapRep.value c.args.cap in
    let said : Bool → ℕ → ℕ → ℕ → List Token = λ tag address base top. c.args.object.now.tokens
    ++ (truth_field (codes "tag") tag ++ address_field (codes "address") address ++ address_field (codes "base") base
    ++ wide_field (codes "top") top) in
    on_ok_weaker c.put.result
    (λ e. e ∙ ap (λ t. said t c.address.result c.base.result c.top.result) c.tag.ensures
    ∙ ap (λ a. said (is_tagged v) a c.base.result c.top.result) c.address.ensures
    ∙ ap (λ b. said (is_tagged v) (value_address v) b c.top.result) c.base.ensures
    ∙ ap (λ t. said (is_tagged v) (value_address v) (value_base v) t) c.top.ensures.value)
    c.put.ensures.tokens
