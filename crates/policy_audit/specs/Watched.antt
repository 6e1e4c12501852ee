-- What the watches of a run remember of the events that they were told of. No definition of a run needs this.
use Rattle.std.specs.Prelude.{◌≡◌, ℕ, ◌+◌, List, ◌++◌, string_bytes}
use Rattle.steps.specs.declared.event.Event.{Event}
use Rattle.steps.specs.State.{State}
use Rattle.schedules.specs.Schedule.{steps_in}
use Rattle.policy_audit.specs.declared.entries.Lister.{Lister}
use Rattle.policy_audit.specs.declared.run.Auditor.{Auditor}
use Rattle.policy_audit.specs.Entries.{adds_entry, says_entry}
use Rattle.policy_audit.specs.Look.{notes_of, said_to}
use Rattle.policy_audit.specs.Recalled.{recalled}
use Rattle.policy_audit.specs.Text.{adds_found, says_found}
use Rattle.policy_audit.specs.Told.{remembered, told}

-- from a memory and a text to others events that come after so many steps were remembered and told
abbrev pub WasTold : {M : Type 0} → (M → ℕ → State → List ℕ) → (M → State → M) → ℕ → List Event → State → M → M → List ℕ → List ℕ → Type 0
WasTold says adds n events s m m' text text' = (m' ≡ remembered adds events m s) × (text' ≡ text ++ told says adds n events m s)

-- what breaks the rules
abbrev pub Audited : List Event → State → Auditor → Auditor → Type 0
Audited events s a b =
    WasTold (says_found a.report.json a.report.symbols.now a.report.lines.now) (adds_found (said_to a.audit.now)) a.steps events s
    (notes_of a.audit.now) (notes_of b.audit.now) (string_bytes a.text.now) (string_bytes b.text.now)
    × (b.steps ≡ a.steps + steps_in events) × (said_to b.audit.now ≡ said_to a.audit.now) × (b.report ≡ a.report)
    × (b.text.ghost_name ≡ a.text.ghost_name) × (b.audit.ghost_name ≡ a.audit.ghost_name)

-- what was entered; the number of a step isn't told
abbrev pub Listed : List Event → State → Lister → Lister → Type 0
Listed events s a b =
    ((n : ℕ) → WasTold (says_entry a.json) adds_entry n events s (recalled a.entries.now) (recalled b.entries.now)
    (string_bytes a.text.now) (string_bytes b.text.now))
    × (b.json ≡ a.json) × (b.text.ghost_name ≡ a.text.ghost_name) × (b.entries.ghost_name ≡ a.entries.ghost_name)
