-- What a policy says of the runs of a machine on a schedule, as C gets it.
use Rattle.std.specs.Prelude.{◌≡◌, ℕ, Bool, true, false, if◌then◌else◌, List, [], Option, None, Some, Ok, slice_get}
use Rattle.breach_texts.specs.declared.breach.RuleLine.{RuleLine}
use Rattle.every_run.specs.declared.verdict.Verdict.{Verdict}
use Rattle.every_run.specs.Opens.{EveryRunKeepsTo, IsHolds, holds}
use Rattle.every_run_texts.specs.Text.{verdict_text}
use Rattle.machine.specs.Run.{run_after}
use Rattle.policy.specs.Lending.{in_force}
use Rattle.policy.specs.declared.rule.Ban.{Ban}
use Rattle.policy.specs.declared.rule.Ban.TheVariants as ban
use Rattle.policy.specs.Terms.{Terms, terms_of}
use Rattle.policy.specs.Watch.{IsRefused}
use Rattle.policy_audit.specs.Lines.{AreLinesOf}
use Rattle.policy_audit.specs.Text.{audit_text}
use Rattle.policy_runs.specs.declared.breach.Breach.{Breach as RunBreach}
use Rattle.policy_runs.specs.Keeping.{StepsKeepToEach}
use Rattle.policy_text.specs.declared.reading.Policy.{Policy}
use Rattle.policy_text.specs.Policy.{any_code_of, policy_of}
use Rattle.policy_text.specs.Seen.{seen}
use Rattle.schedules.specs.declared.schedule.Schedule.{Schedule}
use Rattle.schedules.specs.Schedule.{IsPlaceOf, IsRunnable, events_before, is_halted, scheduled}
use Rattle.steps.specs.State.{State}
use Rattle.symbols.specs.Symbols.{Symbol, faulty_line, symbols_of}
use Rattle.cherisim_c.specs.declared.policed.Texts.{Texts}
use Rattle.cherisim_c.specs.declared.types.Breach.{Breach}
use Rattle.cherisim_c.specs.declared.types.Timetable.{Timetable}
use Rattle.cherisim_c.specs.Refusals.{schedule_of}
use Rattle.cherisim_c.specs.Running.{code_or_zero}

-- ---- what is read

-- the texts are a table of labels and a policy
pub record IsPolicyOf (labels text : List ℕ) (policy : Policy) : Type 0 where
  pub labelled : faulty_line labels ≡ None
  pub read : policy_of (symbols_of labels) text ≡ Ok (seen policy)
  pub any : policy.any.items ≡ any_code_of (symbols_of labels) text

-- with the labels
pub record AreTexts (labels text : List ℕ) (read : Texts) : Type 0 where
  pub policy : IsPolicyOf labels text read.policy
  pub symbols : read.symbols ≡ symbols_of labels

-- ---- where a policy stops a run

-- Before the step of a number, which is not done: each step before it keeps to each rule that applies, by the terms in force, and then a
-- reachable capability breaks one.
pub record IsStop (rules : List Terms) (schedule : Schedule) (input : List ℕ) (s : State) (x : RunBreach) : Type 0 where
  pub place : IsPlaceOf schedule x.number
  pub kept : StepsKeepToEach rules (events_before (Some x.number) schedule input s) s
  pub refused : IsRefused (in_force rules (events_before (Some x.number) schedule input s) s) x.refused
      (run_after (events_before (Some x.number) schedule input s) s)

-- Or nowhere: each step of the run keeps to each rule that applies.
abbrev pub Stops : List Terms → Schedule → List ℕ → State → Option RunBreach → Type 0
Stops rules schedule input s None = is_halted s ≡ false → StepsKeepToEach rules (scheduled schedule input s) s
Stops rules schedule input s (Some x) = IsStop rules schedule input s x

-- the numbers of the parts of a rule for C, which stay as they are
abbrev pub part_number : Ban → ℕ
part_number ban.Store = 0
part_number ban.Load = 1
part_number ban.Execute = 2
part_number ban.Transmit = 3
part_number ban.Halt = 4
part_number ban.Timer = 5
part_number ban.System = 6
part_number ban.Seal = 7
part_number ban.Types = 8
part_number ban.Keep = 9
part_number ban.Enter = 10

-- what C gets of it, where these are the lines of the rules
abbrev pub c_breach : List ℕ → Option RunBreach → Breach
c_breach lines None = record { step = 0; line = 0; member = 0; part = 0; found = false }
c_breach lines (Some x) =
    record {
      step = x.number;
      line = code_or_zero (slice_get lines x.refused.rule);
      member = x.refused.member;
      part = part_number x.refused.ban;
      found = true;
    }

-- where a policy stops a run, or that it stops it nowhere, as C gets it
abbrev pub ShowsStop : Policy → Schedule → List ℕ → State → Breach → Type 0
ShowsStop policy schedule input s breach =
    (stop : Option RunBreach) × Stops (terms_of policy.rules.items) schedule input s stop × (breach ≡ c_breach policy.lines.items stop)

-- A breach says where the policy of a text stops a run, or that it stops it nowhere.
pub record IsBreachOf (labels text : List ℕ) (schedule : Schedule) (input : List ℕ) (s : State) (breach : Breach) : Type 0 where
  pub policy : Policy
  pub is_read : IsPolicyOf labels text policy
  pub shown : ShowsStop policy schedule input s breach

-- ---- an audit

-- what an audit of a run tells, with these lines of its rules; a halted machine does no step
abbrev pub audit_of : List RuleLine → List Symbol → List Terms → Schedule → List ℕ → State → List ℕ
audit_of lines symbols rules schedule input s =
    if is_halted s then [] else audit_text false symbols lines rules (scheduled schedule input s) s

-- the same, where the rules are those of a text
abbrev pub TellsOf : List ℕ → Texts → Schedule → List ℕ → State → List ℕ → Type 0
TellsOf text read schedule input s told =
    (lines : List RuleLine) × AreLinesOf text read.policy.lines.items lines
    × (told ≡ audit_of lines read.symbols (terms_of read.policy.rules.items) schedule input s)

-- A text is what an audit of a run by the policy of a text tells, on a timetable by which a machine can run.
pub record IsAuditOf (labels text : List ℕ) (t : Timetable) (input : List ℕ) (s : State) (told : List ℕ) : Type 0 where
  pub read : Texts
  pub texts : AreTexts labels text read
  pub runnable : IsRunnable (schedule_of t)
  pub tells : TellsOf text read (schedule_of t) input s told

-- ---- a proof

-- A text is what a proof tells of the runs from a state, by the policy and the labels that were read; and where it is said to be shown,
-- each of them keeps to the rules.
pub record IsProof (read : Texts) (s : State) (shown : Bool) (told : List ℕ) : Type 0 where
  pub verdict : Verdict
  pub promise : IsHolds verdict → EveryRunKeepsTo (terms_of read.policy.rules.items) read.policy.any.items s
  pub answer : shown ≡ holds verdict
  pub text : told ≡ verdict_text read.symbols read.policy.any.items read.policy.lines.items verdict

abbrev pub IsProofOf : List ℕ → List ℕ → State → Bool → List ℕ → Type 0
IsProofOf labels text s shown told = (read : Texts) × AreTexts labels text read × IsProof read s shown told
