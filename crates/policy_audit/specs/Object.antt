-- A finding and an entry as objects, one a line: the values of their texts.
use Rattle.std.specs.Prelude.{ℕ, List, ◌++◌, Option, Some, None, slice_get, codes}
use Rattle.json.specs.Token.{Token}
use Rattle.symbols.specs.Symbols.{Symbol}
use Rattle.objects.specs.Items.{null_field, number_field, object_line, text_field}
use Rattle.objects.specs.Places.{place_field}
use Rattle.reached.specs.Order.{Found}
use Rattle.breach_texts.specs.declared.breach.RuleLine.{RuleLine}
use Rattle.breach_texts.specs.Object.{breach_fields, broken_fields}
use Rattle.policy_audit.specs.declared.finding.Finding.{Finding}

-- before which step: its number, and PCC's address
unfoldable pub step_fields : List Symbol → ℕ → ℕ → List Token
step_fields symbols step pc = number_field (codes "step") step ++ place_field (codes "pcc") symbols pc

-- what breaks a rule, whose line may not be known
abbrev pub breach_fields_by : List Symbol → List Found → Finding → Option RuleLine → List Token
breach_fields_by symbols members finding None = null_field (codes "rule") ++ broken_fields symbols members finding.ban finding.member
breach_fields_by symbols members finding (Some line) =
    breach_fields symbols members line.number line.text.now finding.ban finding.member

unfoldable pub finding_object : List Symbol → List Found → List RuleLine → ℕ → ℕ → Finding → List ℕ
finding_object symbols members lines step pc finding =
    object_line (step_fields symbols step pc ++ breach_fields_by symbols members finding (slice_get lines finding.rule))

-- a rule that is listed
abbrev pub rule_object : List ℕ → List ℕ
rule_object rule = object_line (text_field (codes "rule") rule)
