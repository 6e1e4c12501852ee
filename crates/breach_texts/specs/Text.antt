-- What breaks a rule of a policy, as a text.
use Rattle.std.specs.Prelude.{ℕ, List, [], ◌++◌, codes, decimal}
use Rattle.steps.specs.State.{State}
use Rattle.symbols.specs.Symbols.{Symbol}
use Rattle.policy.specs.declared.rule.Ban.{Ban}
use Rattle.policy.specs.declared.rule.Ban.TheVariants.{Store, Load, Execute, Keep, Enter, Transmit, Halt, Timer, System, Seal, Types}
use Rattle.policy.specs.declared.refused.Refused.{Refused}
use Rattle.explain.specs.StandingText.{standing_text}
use Rattle.reach.specs.Reach.{members_in}
use Rattle.reached.specs.Order.{Found, chain_of}
use Rattle.reach_texts.specs.Text.{held_text}

-- the part of a rule, as policies name it
abbrev pub ban_word : Ban → List ℕ
ban_word Store = codes "store"
ban_word Load = codes "load"
ban_word Execute = codes "execute"
ban_word Keep = codes "keep"
ban_word Enter = codes "enter"
ban_word Transmit = codes "transmit"
ban_word Halt = codes "halt"
ban_word Timer = codes "timer"
ban_word System = codes "system"
ban_word Seal = codes "seal"
ban_word Types = codes "types"

-- the number of a rule's line and the part that is broken, and the rule
unfoldable pub rule_lines : ℕ → List ℕ → Ban → List ℕ
rule_lines number rule ban =
    codes "policy: line " ++ decimal number ++ codes ": " ++ ban_word ban ++ codes "\n  rule  " ++ rule ++ codes "\n  held  "

-- and the capability that breaks it, with the places that lead to it
unfoldable pub breach_text : List Symbol → List Found → ℕ → List ℕ → Ban → ℕ → List ℕ
breach_text symbols members number rule ban member =
    rule_lines number rule ban ++ held_text symbols [] members (chain_of members member) member ++ codes "\n"

-- how many steps were done, and where PCC is; then what breaks the rule
unfoldable pub refused_lines : List Symbol → ℕ → List ℕ → Refused → ℕ → State → List ℕ
refused_lines symbols number rule refused steps s =
    standing_text symbols steps s ++ codes "\ncherisim: " ++ breach_text symbols (members_in s) number rule refused.ban refused.member
