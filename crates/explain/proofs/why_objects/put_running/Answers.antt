use Rattle.std.proofs.Common.{◌≡◌, List, ℕ, ◌++◌, ap, ◌∙◌}
use Rattle.std.proofs.lemmas.Result.{on_ok_weaker}
use Rattle.std.specs.Prelude.{string_bytes}
use Rattle.objects.specs.Items.{object_line}
use Rattle.steps.specs.State.{State}
use Rattle.steps.specs.Step.{step_effect}
use Rattle.symbols.specs.Symbols.{Symbol}
use Rattle.explain.specs.StepFields.{effect_fields, instruction_fields}
use Rattle.explain.specs.WhyObjects.{running_objects, stages_objects, word_at_pcc}
use Rattle.explain.proofs.StageTexts.{text_on}
use Rattle.explain.proofs.why_objects.put_running.Goals as goal

-- three texts, one after another
written : (symbols : List Symbol) (s : State) (old one two new : List ℕ)
    → one ≡ old ++ object_line (instruction_fields symbols (word_at_pcc s) s) → two ≡ one ++ stages_objects symbols s
    → new ≡ two ++ object_line (effect_fields symbols (step_effect s)) → new ≡ old ++ running_objects symbols s
written symbols s old one two new e f g =
    let first = object_line (instruction_fields symbols (word_at_pcc s) s) in
    let last = object_line (effect_fields symbols (step_effect s)) in
    text_on old two new (first ++ stages_objects symbols s) last (text_on old one two first (stages_objects symbols s) e f) g

pub returns : goal.returns
returns g c =
    let symbols = c.args.symbols.now in
    let old = string_bytes c.args.text.now in
    let two = string_bytes c.put_stages.new.text in
    on_ok_weaker c.append_effect.result
    (λ e. written symbols c.args.hart.now old (string_bytes c.push_str.new.self) two (string_bytes c.append_effect.new.text)
    (c.in_ok-push_str.ensures.bytes ∙ ap (λ line. old ++ line) (c.as_str.ensures.value ∙ c.in_ok-instruction.ensures))
    c.in_ok-put_stages.ensures
    (e ∙ ap (λ effect. two ++ object_line (effect_fields symbols effect)) c.next-planned.ensures.effect.0))
    c.append_effect.ensures
