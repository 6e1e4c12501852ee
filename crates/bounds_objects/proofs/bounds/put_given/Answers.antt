use Rattle.std.proofs.Common.{◌++◌, ap, ◌∙◌, ℕ, Bool}
use Rattle.std.proofs.lemmas.Result.{on_ok_weaker}
use Rattle.std.specs.Prelude.{List, codes}
use Rattle.json.specs.Token.{Token}
use Rattle.cap_bounds.specs.CapValue.{is_tagged, value_base}
use Rattle.bounds_text.specs.BoundsText.{set}
use Rattle.cap_bounds.specs.Rounding.{is_exact}
use Rattle.std.specs.Prelude.{◌+◌}
use Rattle.objects.specs.Items.{address_field, truth_field, wide_field}
use Rattle.bounds_objects.specs.Bounds.{given_fields}
use Rattle.bounds_objects.proofs.bounds.put_given.Goals as goal

pub returns-clause-tokens : goal.returns-clause-tokens
unfolding given_fields
returns-clause-tokens c =
    let asked = c.args.request in
    let v = set asked.base asked.length in
    let said : Bool → Bool → ℕ → ℕ → List Token = λ tag exact base top. c.args.object.now.tokens
    ++ (truth_field (codes "tag") tag ++ truth_field (codes "exact") exact ++ address_field (codes "base") base
    ++ wide_field (codes "top") top) in
    on_ok_weaker c.put.result
    (λ e. e ∙ ap (λ tag. said tag c.is_exact.result asked.window.base asked.top) asked.tagged
    ∙ ap (λ exact. said (is_tagged v) exact asked.window.base asked.top) c.is_exact.ensures
    ∙ ap (λ base. said (is_tagged v) (is_exact asked.base (asked.base + asked.length)) base asked.top) asked.begins
    ∙ ap (λ top. said (is_tagged v) (is_exact asked.base (asked.base + asked.length)) (value_base v) top) asked.high)
    c.put.ensures.tokens
