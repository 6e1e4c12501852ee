use Rattle.std.proofs.Common.{◌++◌, ap, ◌∙◌, ℕ}
use Rattle.std.proofs.lemmas.Result.{on_ok_weaker}
use Rattle.std.specs.Prelude.{List, bit_xor, codes, ◌/◌, ◌^◌}
use Rattle.json.specs.Token.{Token}
use Rattle.objects.specs.ItemLaws.{said_two}
use Rattle.bounds_objects.specs.Bounds.{pair_field}
use Rattle.bounds_objects.specs.Word.{half_fields}
use Rattle.bounds_objects.proofs.word.put_halves.Goals as goal

pub returns-clause-tokens : goal.returns-clause-tokens
unfolding half_fields
returns-clause-tokens c =
    let said : ℕ → ℕ → List Token = λ word null. c.args.object.now.tokens
    ++ (pair_field (codes "logical") (codes "high") (word / 2 ^ 64) (codes "low") word
    ++ pair_field (codes "memory") (codes "high") (bit_xor word null / 2 ^ 64) (codes "low") (bit_xor word null)) in
    on_ok_weaker c.put_pair-2.result
    (λ e. said_two _ _ _ _ _ c.in_ok-put_pair.ensures.tokens e
    ∙ ap (λ word. said word c.logical.result) c.logical-logical.ensures.value
    ∙ ap (λ null. said c.args.word null) c.logical.ensures.value)
    c.put_pair-2.ensures.tokens
