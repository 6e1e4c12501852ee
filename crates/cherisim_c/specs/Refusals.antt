-- Why a question with labels or by a policy is refused.
use Rattle.std.specs.Prelude.{◌≡◌, ℕ, List, Err, Some, ⊤}
use Rattle.policy_text.specs.declared.fault.PolicyCode.{PolicyCode}
use Rattle.policy_text.specs.declared.fault.PolicyCode.TheVariants.{P1, P2, P3, P4, P5, P6, P7, P8}
use Rattle.policy_text.specs.Policy.{policy_of}
use Rattle.schedules.specs.declared.schedule.Schedule.{Schedule}
use Rattle.schedules.specs.Schedule.{IsRunnable}
use Rattle.symbols.specs.Symbols.{faulty_line, symbols_of}
use Rattle.cherisim_c.specs.declared.refusal.Refusal.{Refusal}
use Rattle.cherisim_c.specs.declared.refusal.Refusal.TheVariants as refusal
use Rattle.cherisim_c.specs.declared.types.Timetable.{Timetable}
use Rattle.cherisim_c.specs.Status.{no_memory, out_of_range}

-- 48 and the number of the fault of a policy's text
abbrev pub policy_status : PolicyCode → ℕ
policy_status P1 = 49
policy_status P2 = 50
policy_status P3 = 51
policy_status P4 = 52
policy_status P5 = 53
policy_status P6 = 54
policy_status P7 = 55
policy_status P8 = 56

abbrev pub refusal_status : Refusal → ℕ
refusal_status refusal.Schedule = out_of_range
refusal_status (refusal.Labels line) = 57
refusal_status (refusal.Text line code) = policy_status code
refusal_status refusal.Memory = no_memory

-- the faulty line, or 0
abbrev pub refusal_line : Refusal → ℕ
refusal_line refusal.Schedule = 0
refusal_line (refusal.Labels line) = line
refusal_line (refusal.Text line code) = line
refusal_line refusal.Memory = 0

abbrev pub schedule_of : Timetable → Schedule
schedule_of t = record { steps = t.steps; gap = t.gap; tick = t.tick }

-- it is that of the table of labels, or of the memory
abbrev pub IsLabelsRefusal : List ℕ → Refusal → Type 0
IsLabelsRefusal labels (refusal.Labels line) = faulty_line labels ≡ Some line
IsLabelsRefusal labels refusal.Memory = ⊤
IsLabelsRefusal labels other = ⊥

-- or that of the policy
abbrev pub IsTextsRefusal : List ℕ → List ℕ → Refusal → Type 0
IsTextsRefusal labels text refusal.Schedule = ⊥
IsTextsRefusal labels text (refusal.Labels line) = faulty_line labels ≡ Some line
IsTextsRefusal labels text (refusal.Text line code) = policy_of (symbols_of labels) text ≡ Err (line, code)
IsTextsRefusal labels text refusal.Memory = ⊤

-- or that of the timetable
abbrev pub IsRefusalOf : List ℕ → List ℕ → Timetable → Refusal → Type 0
IsRefusalOf labels text t refusal.Schedule = IsRunnable (schedule_of t) → ⊥
IsRefusalOf labels text t other = IsTextsRefusal labels text other

-- the status and the line are those of such a refusal
pub record IsRefusal (Holds : Refusal → Type 0) (line status : ℕ) : Type 0 where
  pub refusal : Refusal
  pub number : status ≡ refusal_status refusal
  pub at_line : line ≡ refusal_line refusal
  pub is_so : Holds refusal
