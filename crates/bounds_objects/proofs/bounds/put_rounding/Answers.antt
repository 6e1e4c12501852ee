use Rattle.std.proofs.Common.{◌++◌, ap, ◌∙◌, ℕ}
use Rattle.std.proofs.lemmas.Result.{on_ok_weaker}
use Rattle.std.specs.Prelude.{List, codes, ◌+◌, ◌-◌}
use Rattle.json.specs.Token.{Token}
use Rattle.cap_bounds.specs.Rounding.{rounded_base, rounded_top, rounding_granule}
use Rattle.cap_insns.specs.CapabilityRows.{representable_length}
use Rattle.objects.specs.Items.{address_field}
use Rattle.bounds_objects.specs.Bounds.{rounding_fields}
use Rattle.bounds_objects.proofs.bounds.put_rounding.Goals as goal

pub returns-clause-tokens : goal.returns-clause-tokens
unfolding rounding_fields
returns-clause-tokens c =
    let asked = c.args.request in
    let top = asked.base + asked.length in
    let below = asked.base - rounded_base asked.base top in
    let above = rounded_top asked.base top - top in
    let granule = rounding_granule asked.base top in
    let said : ℕ → ℕ → ℕ → ℕ → ℕ → List Token = λ below above granule crrl cram. c.args.object.now.tokens
    ++ (address_field (codes "below") below ++ address_field (codes "above") above ++ address_field (codes "granule") granule
    ++ address_field (codes "crrl") crrl ++ address_field (codes "cram") cram) in
    let crrl = c.representable_length.result in
    let cram = c.alignment_mask.result in
    on_ok_weaker c.put.result
    (λ e. e ∙ ap (λ low. said (asked.base - low) c.added_above.result c.granule.result crrl cram) asked.low
    ∙ ap (λ above. said below above c.granule.result crrl cram) c.added_above.ensures
    ∙ ap (λ granule. said below above granule crrl cram) c.granule.ensures
    ∙ ap (λ crrl. said below above granule crrl cram) c.representable_length.ensures
    ∙ ap (λ cram. said below above granule (representable_length asked.length) cram) c.alignment_mask.ensures)
    c.put.ensures.tokens
