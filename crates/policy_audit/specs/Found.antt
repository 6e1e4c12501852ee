-- What is found before a step: the parts of the rules that apply and that something reachable breaks, and that were not found before.
use Rattle.std.specs.Prelude.{ℕ, ◌+◌, Bool, ◌&&◌, ◌==◌, if◌then◌else◌, List, [], ◌∷◌, ◌++◌, Option, Some, None}
use Rattle.std.specs.List.{flat_map, list_all, list_any}
use Rattle.cap_bounds.specs.CapValue.{CapValue}
use Rattle.steps.specs.State.{State}
use Rattle.policy.specs.declared.rule.Ban.{Ban}
use Rattle.policy.specs.declared.rule.Ban.TheVariants.{Store, Load, Execute, Keep, Enter, Transmit, Halt, Timer, System, Seal, Types}
use Rattle.policy.specs.Terms.{Terms}
use Rattle.policy.specs.Rule.{place_of}
use Rattle.policy.specs.Tests.{applies, breaks}
use Rattle.policy.specs.Watch.{fetched_at, values_in}
use Rattle.policy_audit.specs.declared.finding.Finding.{Finding}

-- ---- what is found

-- the parts of a rule, in their order
abbrev pub parts : List Ban
parts = Store ∷ Load ∷ Execute ∷ Keep ∷ Enter ∷ Transmit ∷ Halt ∷ Timer ∷ System ∷ Seal ∷ Types ∷ []

-- whether a part of the rule at a place was found
abbrev pub is_found : List Finding → ℕ → Ban → Bool
is_found seen rule ban = list_any (λ finding. finding.rule == rule && place_of finding.ban == place_of ban) seen

-- the number of the first value that passes, counted from a number on
abbrev pub first_from : (CapValue → Bool) → ℕ → List CapValue → Option ℕ
first_from passes number [] = None
first_from passes number (v ∷ vs) = if passes v then Some number else first_from passes (number + 1) vs

abbrev pub finding_of : ℕ → Ban → Option ℕ → List Finding
finding_of rule ban None = []
finding_of rule ban (Some member) = record { rule = rule; ban = ban; member = member } ∷ []

-- of a part of the rule at a place, if it was not found before: the first of the values that breaks it
unfoldable pub found_part : List Finding → List CapValue → ℕ → Terms → Ban → List Finding
found_part seen vs place rule ban =
    if is_found seen place ban then [] else finding_of place ban (first_from (breaks rule ban) 0 vs)

-- of each part, if the rule applies to what is fetched at an address
unfoldable pub found_of : List Finding → List CapValue → Option ℕ → ℕ → Terms → List Finding
found_of seen vs at place rule = if applies rule at then flat_map (found_part seen vs place rule) parts else []

-- of rules, which stand from a place on
abbrev pub found_from : List Finding → List CapValue → Option ℕ → ℕ → List Terms → List Finding
found_from seen vs at place [] = []
found_from seen vs at place (rule ∷ rules) = found_of seen vs at place rule ++ found_from seen vs at (place + 1) rules

-- before a state's next step
abbrev pub found_at : List Terms → List Finding → State → List Finding
found_at rules seen s = found_from seen (values_in s) (fetched_at s) 0 rules

-- ---- what is looked at where nothing may be found

abbrev pub are_found : List Finding → ℕ → List Ban → Bool
are_found seen place bans = list_all (λ ban. is_found seen place ban) bans
