use Rattle.std.proofs.Common.{◌≡◌, ◌++◌, ◌∙◌, ap₂, subst}
use Rattle.std.specs.Prelude.{OnOk, codes, string_bytes}
use Rattle.origin_texts.specs.Calls.{target_part}
use Rattle.origin_texts.proofs.calls.append_target.Goals as goal

pub returns : goal.returns
unfolding target_part
returns c =
    subst (λ t. OnOk c.append.result (string_bytes c.append.new.text ≡ string_bytes c.args.text.now ++ t))
    (ap₂ (λ to back. to ++ codes ", to return to " ++ back ++ codes "\n") (c.as_str.ensures.value ∙ c.labelled-to.ensures.text)
    (c.as_str-2.ensures.value ∙ c.labelled-back.ensures.text)) c.append.ensures.bytes
