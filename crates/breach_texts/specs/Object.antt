-- What breaks a rule of a policy, as an object: the values of its text.
use Rattle.std.specs.Prelude.{ℕ, List, [], ◌++◌, Option, Some, None, slice_get, codes}
use Rattle.json.specs.Token.{Token}
use Rattle.steps.specs.State.{State}
use Rattle.symbols.specs.Symbols.{Symbol}
use Rattle.explain.specs.StandingText.{standing_fields}
use Rattle.explain.specs.declared.standing.Standing.{Standing}
use Rattle.objects.specs.Items.{number_field, object_field, object_line, text_field}
use Rattle.policy.specs.declared.rule.Ban.{Ban}
use Rattle.policy.specs.declared.refused.Refused.{Refused}
use Rattle.reach.specs.Reach.{members_in}
use Rattle.reached.specs.Order.{Found, chain_of}
use Rattle.reach_texts.specs.Object.{member_fields}
use Rattle.reach_texts.specs.Text.{held_text}
use Rattle.breach_texts.specs.Text.{ban_word}

-- the number of a rule's line, and the rule
unfoldable pub rule_field : ℕ → List ℕ → List Token
rule_field number rule = object_field (codes "rule") (number_field (codes "line") number ++ text_field (codes "text") rule)

-- the member of a number, as the members of a reach are told
abbrev pub fields_in : List Symbol → ℕ → Option Found → List Token
fields_in symbols number None = []
fields_in symbols number (Some x) = member_fields symbols number x

unfoldable pub held_field : List Symbol → List Found → ℕ → List Token
held_field symbols members number = object_field (codes "held") (fields_in symbols number (slice_get members number))

-- the places that lead to it, and its capability, as the text has them
abbrev pub words_field : List Symbol → List Found → ℕ → List Token
words_field symbols members number = text_field (codes "words") (held_text symbols [] members (chain_of members number) number)

-- the part of a rule that is broken, and the member that breaks it
unfoldable pub broken_fields : List Symbol → List Found → Ban → ℕ → List Token
broken_fields symbols members ban member =
    text_field (codes "part") (ban_word ban) ++ held_field symbols members member ++ words_field symbols members member

unfoldable pub breach_fields : List Symbol → List Found → ℕ → List ℕ → Ban → ℕ → List Token
breach_fields symbols members number rule ban member = rule_field number rule ++ broken_fields symbols members ban member

-- a run that wasn't halted
abbrev pub stopped : ℕ → Standing
stopped steps = record { status = 1; halted = None; steps = steps }

-- the line that tells where a rule stopped a run
abbrev pub refused_object : List Symbol → ℕ → List ℕ → Refused → ℕ → State → List ℕ
refused_object symbols number rule refused steps s =
    object_line (standing_fields symbols (stopped steps) s ++ breach_fields symbols (members_in s) number rule refused.ban refused.member)
