use Rattle.std.proofs.Common.{◌++◌, ap, ◌∙◌, ℕ}
use Rattle.std.proofs.lemmas.Result.{on_ok_weaker}
use Rattle.std.specs.Prelude.{List, codes}
use Rattle.json.specs.Token.{Token}
use Rattle.cap_format.specs.Word.{address_of}
use Rattle.cap_bounds.specs.Window.{base_of_word}
use Rattle.objects.specs.Items.{address_field, truth_field, wide_field}
use Rattle.bounds_objects.specs.Word.{place_fields}
use Rattle.bounds_objects.proofs.word.put_bounds.Goals as goal

pub returns-clause-tokens : goal.returns-clause-tokens
unfolding place_fields
returns-clause-tokens c =
    let word = c.args.word in
    let said : ℕ → ℕ → ℕ → List Token = λ address base top. c.args.object.now.tokens
    ++ (truth_field (codes "well_formed") c.args.well_formed ++ address_field (codes "address") address
    ++ address_field (codes "base") base ++ wide_field (codes "top") top) in
    on_ok_weaker c.put.result
    (λ e. e ∙ ap (λ address. said address c.args.base c.args.top) c.address.ensures
    ∙ ap (λ base. said (address_of word) base c.args.top) c.requires.base
    ∙ ap (λ top. said (address_of word) (base_of_word word) top) c.requires.top)
    c.put.ensures.tokens
