use Rattle.std.proofs.Common.{◌≡◌, ◌++◌, ◌∙◌, ap₂, subst}
use Rattle.std.specs.Prelude.{OnOk, codes, string_bytes}
use Rattle.origin_texts.specs.Copied.{granules_line}
use Rattle.origin_texts.proofs.copied.append_granules.Goals as goal

pub returns : goal.returns
unfolding granules_line
returns c =
    subst (λ t. OnOk c.append.result (string_bytes c.append.new.text ≡ string_bytes c.args.text.now ++ t))
    (ap₂ (λ granule from. granule ++ codes " was copied as data from " ++ from ++ codes ", a tagged capability then:\n")
    (c.as_str.ensures.value ∙ c.place_text-name.ensures.text) (c.as_str-2.ensures.value ∙ c.labelled-from.ensures.text))
    c.append.ensures.bytes
