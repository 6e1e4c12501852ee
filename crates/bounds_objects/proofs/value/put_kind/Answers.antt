use Rattle.std.proofs.Common.{◌++◌, ap, ◌∙◌, ℕ}
use Rattle.std.proofs.lemmas.Result.{on_ok_weaker}
use Rattle.std.specs.Prelude.{Bool, List, codes}
use Rattle.json.specs.Token.{Token}
use Rattle.cap_bounds.specs.CapValue.{value_flag, value_otype, value_perms}
use Rattle.cap_rights.specs.Perms.{hardware_view}
use Rattle.bounds_text.specs.Letters.{permission_letters}
use Rattle.objects.specs.Items.{number_field, text_field, truth_field}
use Rattle.bounds_objects.specs.Value.{kind_fields}
use Rattle.bounds_text.specs.WordText.{sealing_of}
use Rattle.bounds_objects.specs.Word.{sealing_word}
use Rattle.bounds_objects.proofs.value.put_kind.Goals as goal

pub returns-clause-tokens : goal.returns-clause-tokens
unfolding kind_fields
returns-clause-tokens g c =
    let v = g.C.CapRep.value c.args.cap in
    let perms = c.perms-perms.ensures in
    let otype = c.otype-otype.ensures in
    let said : ℕ → List ℕ → Bool → ℕ → List ℕ → List Token = λ perms letters flag otype sealing. c.args.object.now.tokens
    ++ (number_field (codes "perms") perms ++ text_field (codes "letters") letters ++ truth_field (codes "flag") flag
    ++ number_field (codes "otype") otype ++ text_field (codes "sealing") sealing) in
    let letters = c.as_str.ensures.value ∙ c.permission_letters-letters.ensures.text ∙ ap permission_letters perms in
    let sealing = c.sealing_word.ensures ∙ ap sealing_word (c.sealing_of.ensures ∙ ap sealing_of otype) in
    let view = c.from.ensures ∙ c.hardware.ensures ∙ ap hardware_view perms in
    on_ok_weaker c.put.result
    (λ e. e ∙ ap (λ p. said p c.as_str.result.now c.flag.result c.from-2.result c.sealing_word.result.now) view
    ∙ ap (λ t. said (hardware_view (value_perms v)) t c.flag.result c.from-2.result c.sealing_word.result.now) letters
    ∙ ap (λ f. said (hardware_view (value_perms v)) (permission_letters (value_perms v)) f c.from-2.result c.sealing_word.result.now)
    c.flag.ensures
    ∙ ap (λ o. said (hardware_view (value_perms v)) (permission_letters (value_perms v)) (value_flag v) o c.sealing_word.result.now)
    (c.from-2.ensures ∙ otype)
    ∙ ap (λ t. said (hardware_view (value_perms v)) (permission_letters (value_perms v)) (value_flag v) (value_otype v) t) sealing)
    c.put.ensures.tokens
