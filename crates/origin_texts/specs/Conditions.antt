-- Why a value has no tag: the conditions of its tag as lines, up to the first that is false.
use Rattle.std.specs.Prelude.{ℕ, if◌then◌else◌, List, [], ◌∷◌, ◌++◌, codes, decimal}
use Rattle.cap_rights.specs.declared.permission.Permission.{Permission}
use Rattle.cap_rights.specs.declared.permission.Permission.TheVariants as permission
use Rattle.explain.specs.WhyText.{bounds_text, mark}
use Rattle.steps.specs.State.{State}
use Rattle.origins.specs.Places.{held}
use Rattle.origins.specs.declared.tag_question.TagCondition.{TagCondition}
use Rattle.origins.specs.declared.tag_question.TagQuestion.{TagQuestion}
use Rattle.origins.specs.declared.tag_question.TagQuestion.TheVariants as asks
use Rattle.symbols.specs.Labels.{labelled}
use Rattle.symbols.specs.Symbols.{Symbol}
use Rattle.origin_texts.specs.Link.{place_text}

-- a permission's name
abbrev pub permission_text : Permission → List ℕ
permission_text permission.Global = codes "global"
permission_text permission.Execute = codes "execute"
permission_text permission.Load = codes "load"
permission_text permission.Store = codes "store"
permission_text permission.LoadCapability = codes "load capability"
permission_text permission.StoreCapability = codes "store capability"
permission_text permission.StoreLocalCapability = codes "store local capability"
permission_text permission.Seal = codes "seal"
permission_text permission.CInvoke = codes "CInvoke"
permission_text permission.Unseal = codes "unseal"
permission_text permission.AccessSystemRegisters = codes "access system registers"
permission_text permission.SetCid = codes "set CID"

unfoldable pub question_text : List Symbol → State → TagQuestion → List ℕ
question_text symbols s (asks.Tag place) = codes "tag of " ++ place_text symbols place
question_text symbols s (asks.Seal place) = codes "seal of " ++ place_text symbols place
question_text symbols s (asks.Window place address) =
    codes "window of " ++ place_text symbols place ++ codes ": " ++ labelled symbols address
question_text symbols s (asks.Bounds place address size) =
    codes "length of " ++ place_text symbols place ++ bounds_text symbols address size (held place s)
question_text symbols s (asks.Exact address length) =
    codes "exact bounds: " ++ labelled symbols address ++ codes " + " ++ decimal length
question_text symbols s (asks.Permit place permission) =
    codes "permit " ++ permission_text permission ++ codes " of " ++ place_text symbols place
question_text symbols s (asks.Type place) = codes "type of " ++ place_text symbols place
question_text symbols s asks.Capability = codes "a capability is written"
question_text symbols s asks.Kept = codes "the instruction keeps the tag"

unfoldable pub condition_line : List Symbol → State → TagCondition → List ℕ
condition_line symbols s c = mark c.holds ++ question_text symbols s c.question ++ codes "\n"

-- in order, up to the first that is false and with it
abbrev pub condition_lines : List Symbol → State → List TagCondition → List ℕ
condition_lines symbols s [] = []
condition_lines symbols s (c ∷ cs) = condition_line symbols s c ++ (if c.holds then condition_lines symbols s cs else [])
