-- The parts of a rule in their order, as a search meets them.
use Rattle.std.proofs.Common.{ℕ, ◌<◌, List, [], ◌∷◌}
use Rattle.cap_bounds.specs.CapValue.{CapValue}
use Rattle.policy.specs.Terms.{Terms}
use Rattle.policy.specs.declared.rule.Ban.{Ban}
use Rattle.policy.specs.declared.rule.Ban.TheVariants.{Store, Load, Execute, Keep, Enter, Transmit, Halt, Timer, System, Seal, Types}
use Rattle.policy.specs.Rule.{Breaks, place_of}

abbrev pub bans : List Ban
bans = Store ∷ Load ∷ Execute ∷ Keep ∷ Enter ∷ Transmit ∷ Halt ∷ Timer ∷ System ∷ Seal ∷ Types ∷ []

-- none of the parts before a place is broken
abbrev pub HoldBelow : Terms → CapValue → ℕ → Type 0
HoldBelow rule c i = (ban : Ban) → place_of ban < i → Breaks rule ban c → ⊥
