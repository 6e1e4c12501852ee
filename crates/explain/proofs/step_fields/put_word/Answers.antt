use Rattle.std.proofs.Common.{◌++◌, ap, ◌∙◌, ℕ}
use Rattle.std.proofs.lemmas.Result.{on_ok_weaker}
use Rattle.std.specs.Prelude.{List, codes}
use Rattle.json.specs.Token.{Token}
use Rattle.texts.specs.Hex.{hex_of}
use Rattle.objects.specs.Items.{text_field}
use Rattle.explain.specs.StepFields.{word_fields}
use Rattle.explain.proofs.step_fields.put_word.Goals as goal

pub returns-in-Some-clause-tokens : goal.returns-in-Some-clause-tokens
unfolding word_fields
returns-in-Some-clause-tokens c =
    let said : List ℕ → List ℕ → List Token = λ digits shown. c.args.object.now.tokens
    ++ (text_field (codes "word") digits ++ text_field (codes "instruction") shown) in
    rw c.in-Some.is
    (on_ok_weaker c.put.result
    (λ e. e ∙ ap (λ digits. said digits c.as_str-in-Some.result.now) (c.as_str.ensures.value ∙ c.word_digits-digits.ensures)
    ∙ ap (λ shown. said (codes "0x" ++ hex_of 8 c.in-Some.word) shown) (c.as_str-in-Some.ensures.value ∙ c.disassemble-shown.ensures))
    c.put.ensures.tokens)

pub returns-in-None-clause-tokens : goal.returns-in-None-clause-tokens
unfolding word_fields
returns-in-None-clause-tokens c = rw c.in-None.is c.put-in-None.ensures.tokens
