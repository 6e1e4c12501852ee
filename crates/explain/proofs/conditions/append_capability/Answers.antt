use Rattle.std.proofs.Common.{◌++◌, ap, sym, ◌∙◌, append_assoc}
use Rattle.std.proofs.lemmas.Result.{on_ok_weaker}
use Rattle.std.specs.Prelude.{string_bytes, codes}
use Rattle.explain.specs.WhyText.{register_text, capability_in, fields_text}
use Rattle.explain.proofs.StageTexts.{text_on}
use Rattle.explain.proofs.conditions.append_capability.Goals as goal

pub returns : goal.returns
returns g c =
    let name = codes "  " ++ register_text c.args.register ++ codes " " in
    let named = ap (λ n. string_bytes c.args.text.now ++ (codes "  " ++ n ++ codes " ")) c.register_name.ensures in
    let held = fields_text (capability_in c.args.hart.now c.args.register) in
    let shown = ap (λ v. string_bytes c.append.new.text ++ (fields_text v ++ codes "\n")) c.capability_in.ensures in
    on_ok_weaker c.append_fields.result
    (λ e. text_on (string_bytes c.args.text.now) (string_bytes c.append.new.text) (string_bytes c.append_fields.new.text) name
    (held ++ codes "\n") (c.in_ok-append.ensures.bytes ∙ named) (e ∙ shown)
    ∙ ap (λ more. string_bytes c.args.text.now ++ more) (sym (append_assoc name held (codes "\n"))))
    c.append_fields.ensures
