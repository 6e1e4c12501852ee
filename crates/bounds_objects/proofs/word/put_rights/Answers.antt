use Rattle.std.proofs.Common.{◌++◌, ap, ◌∙◌, ℕ}
use Rattle.std.proofs.lemmas.Result.{on_ok_weaker}
use Rattle.std.specs.Prelude.{List, codes}
use Rattle.json.specs.Token.{Token}
use Rattle.cap_format.specs.Word.{otype_of, perms_of}
use Rattle.cap_bounds.specs.Window.{base_of_word, top_of_word}
use Rattle.cap_rights.specs.Perms.{hardware_view}
use Rattle.bounds_text.specs.Letters.{permission_letters}
use Rattle.bounds_text.specs.WordText.{bytes_between, sealing_of}
use Rattle.objects.specs.Items.{number_field, text_field, wide_field}
use Rattle.bounds_objects.specs.Word.{right_fields, sealing_word}
use Rattle.bounds_objects.proofs.word.put_rights.Goals as goal

pub returns-clause-tokens : goal.returns-clause-tokens
unfolding right_fields
returns-clause-tokens c =
    let word = c.args.word in
    let length = bytes_between (base_of_word word) (top_of_word word) in
    let perms = c.perms-perms.ensures in
    let otype = c.otype-otype.ensures in
    let said : ℕ → ℕ → List ℕ → ℕ → List ℕ → List Token = λ length perms letters otype sealing. c.args.object.now.tokens
    ++ (wide_field (codes "length") length ++ number_field (codes "perms") perms ++ text_field (codes "letters") letters
    ++ number_field (codes "otype") otype ++ text_field (codes "sealing") sealing) in
    let letters = c.as_str.ensures.value ∙ c.permission_letters-letters.ensures.text ∙ ap permission_letters perms in
    let sealing = c.sealing_word.ensures ∙ ap sealing_word (c.sealing_of.ensures ∙ ap sealing_of otype) in
    let view = c.from.ensures ∙ c.hardware.ensures ∙ ap hardware_view perms in
    on_ok_weaker c.put.result
    (λ e. e ∙ ap (λ l. said l c.from.result c.as_str.result.now c.from-2.result c.sealing_word.result.now) c.requires
    ∙ ap (λ p. said length p c.as_str.result.now c.from-2.result c.sealing_word.result.now) view
    ∙ ap (λ t. said length (hardware_view (perms_of word)) t c.from-2.result c.sealing_word.result.now) letters
    ∙ ap (λ o. said length (hardware_view (perms_of word)) (permission_letters (perms_of word)) o c.sealing_word.result.now)
    (c.from-2.ensures ∙ otype)
    ∙ ap (λ t. said length (hardware_view (perms_of word)) (permission_letters (perms_of word)) (otype_of word) t) sealing)
    c.put.ensures.tokens
