-- What an audit holds, and what a look finds.
use Rattle.std.specs.Prelude.{List, [], Option, Some, None, Vec}
use Rattle.policy.specs.Terms.{Terms}
use Rattle.policy.specs.Known.{IsPaired, forced_by, said_by}
use Rattle.policy_audit.specs.declared.audit.Audit.{Audit}
use Rattle.policy_audit.specs.declared.finding.Finding.{Finding}
use Rattle.policy_audit.specs.Text.{Notes}

-- the rules that it audits as they are said, and the terms in force
abbrev pub said_to : Audit → List Terms
said_to audit = said_by audit.force

abbrev pub rules_of : Audit → List Terms
rules_of audit = forced_by audit.force

-- as many are in force as are said
abbrev pub IsWhole : Audit → Type 0
IsWhole audit = IsPaired audit.force

-- what it found so far
abbrev pub seen_by : Audit → List Finding
seen_by audit = audit.seen.items

-- both
abbrev pub notes_of : Audit → Notes
notes_of audit = record { seen = seen_by audit; now = rules_of audit }

-- what a look finds
abbrev pub found_in : {R A : Type 0} → Option (R × Vec Finding A) → List Finding
found_in None = []
found_in (Some look) = look.1.items
