-- What an audit tells, as a text or as objects: each part of a rule that is broken in a run, before which step that is first so, and what
-- breaks it.
use Rattle.std.specs.Prelude.{ℕ, Bool, if◌then◌else◌, List, [], ◌++◌, Option, Some, None, slice_get, codes, decimal}
use Rattle.std.specs.List.{flat_map}
use Rattle.symbols.specs.Labels.{labelled}
use Rattle.symbols.specs.Symbols.{Symbol}
use Rattle.steps.specs.declared.event.Event.{Event}
use Rattle.steps.specs.State.{State, pc_of}
use Rattle.reached.specs.Order.{Found}
use Rattle.reach.specs.Reach.{members_in}
use Rattle.steps.specs.declared.event.Event.TheVariants.{Step}
use Rattle.policy.specs.Terms.{Terms}
use Rattle.policy.specs.Lending.{in_force_after}
use Rattle.breach_texts.specs.declared.breach.RuleLine.{RuleLine}
use Rattle.breach_texts.specs.Text.{breach_text}
use Rattle.policy_audit.specs.declared.finding.Finding.{Finding}
use Rattle.policy_audit.specs.Found.{found_at}
use Rattle.policy_audit.specs.Object.{finding_object}
use Rattle.policy_audit.specs.Told.{remembered, told}

-- what breaks a rule, if its line is known
abbrev pub breach_by : List Symbol → List Found → Finding → Option RuleLine → List ℕ
breach_by symbols members finding None = []
breach_by symbols members finding (Some line) =
    breach_text symbols members line.number line.text.now finding.ban finding.member

-- before which step: its number, and PCC's address with its label
abbrev pub step_line : List Symbol → ℕ → ℕ → List ℕ
step_line symbols step pc = codes "step " ++ decimal step ++ codes ", pcc " ++ labelled symbols pc ++ codes "\n"

-- the lines of a finding
unfoldable pub finding_text : List Symbol → List Found → List RuleLine → ℕ → ℕ → Finding → List ℕ
finding_text symbols members lines step pc finding =
    step_line symbols step pc ++ breach_by symbols members finding (slice_get lines finding.rule)

-- a finding, as an object or as lines
unfoldable pub finding_told : Bool → List Symbol → List Found → List RuleLine → ℕ → ℕ → Finding → List ℕ
finding_told json symbols members lines step pc finding =
    if json then finding_object symbols members lines step pc finding else finding_text symbols members lines step pc finding

-- what is noted of the steps so far: what was found, and the terms in force
pub record Notes : Type 0 where
  pub seen : List Finding
  pub now : List Terms

-- before the first, of rules as they are said
abbrev pub first_notes : List Terms → Notes
first_notes said = record { seen = []; now = said }

-- what is told before a step
abbrev pub says_found : Bool → List Symbol → List RuleLine → Notes → ℕ → State → List ℕ
says_found json symbols lines notes step s =
    flat_map (finding_told json symbols (members_in s) lines step (pc_of s)) (found_at notes.now notes.seen s)

-- and what is noted after it
abbrev pub adds_found : List Terms → Notes → State → Notes
adds_found said notes s =
    record { seen = notes.seen ++ found_at notes.now notes.seen s; now = in_force_after said notes.now Step s }

-- what a run's audit tells, and all that it finds
abbrev pub audit_text : Bool → List Symbol → List RuleLine → List Terms → List Event → State → List ℕ
audit_text json symbols lines said events s = told (says_found json symbols lines) (adds_found said) 0 events (first_notes said) s

abbrev pub audit_notes : List Terms → List Event → State → Notes
audit_notes said events s = remembered (adds_found said) events (first_notes said) s

abbrev pub audit_findings : List Terms → List Event → State → List Finding
audit_findings said events s = (audit_notes said events s).seen
