-- That there are the places that conditions name.
use Rattle.std.specs.Prelude.{List, [], ◌∷◌}
use Rattle.steps.specs.State.{State}
use Rattle.origins.specs.Places.{IsThere}
use Rattle.origins.specs.declared.tag_question.TagCondition.{TagCondition}
use Rattle.origins.specs.declared.tag_question.TagQuestion.{TagQuestion}
use Rattle.origins.specs.declared.tag_question.TagQuestion.TheVariants as asks

abbrev pub IsAskedThere : TagQuestion → State → Type 0
IsAskedThere (asks.Tag place) s = IsThere place s
IsAskedThere (asks.Seal place) s = IsThere place s
IsAskedThere (asks.Window place address) s = IsThere place s
IsAskedThere (asks.Bounds place address size) s = IsThere place s
IsAskedThere (asks.Permit place permission) s = IsThere place s
IsAskedThere (asks.Type place) s = IsThere place s
IsAskedThere other s = Unit {0}

abbrev pub AreAskedThere : List TagCondition → State → Type 0
AreAskedThere [] s = Unit {0}
AreAskedThere (c ∷ cs) s = IsAskedThere c.question s × AreAskedThere cs s
