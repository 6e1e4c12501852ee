-- What a step does that is no trap: an instruction is fetched and decoded, all that it asks for holds, and the effect is what it does.
use Rattle.std.proofs.Common.{◌≡◌, ℕ, Option, Some, None, Result, Ok, Err, refl, ap₂}
use Rattle.std.specs.Prelude.{IfSome}
use Rattle.base.specs.declared.fault.Fault.{Fault}
use Rattle.cap_bounds.specs.CapValue.{CapValue}
use Rattle.cap_checks.specs.declared.question.Question.TheVariants.{Instruction}
use Rattle.cap_checks.specs.Question.{fault_of, first_false}
use Rattle.devices.specs.Devices.{interrupts_of}
use Rattle.special_regs.specs.Interrupts.{pending, cause_of}
use Rattle.special_regs.specs.declared.interrupts.Interrupt.{Interrupt}
use Rattle.isa_rows.specs.declared.operands.Insn.{Insn}
use Rattle.isa_rows.specs.Decoded.{insn_of}
use Rattle.isa_rows.specs.Kind.{kind_of}
use Rattle.isa_rows.specs.OperandLaws.{AreInRange, AreInRange-insn_of}
use Rattle.steps.specs.declared.effect.Effect.{Effect}
use Rattle.steps.specs.declared.effect.Effect.TheVariants.{Trap}
use Rattle.steps.specs.Looks.{unless_fault}
use Rattle.steps.specs.State.{State}
use Rattle.steps.specs.Step.{asked, does, kind_effect, fetch, decoded_effect, fetched_by, fetched_effect, decided, insn_fetched}
use Rattle.steps.specs.Step.{step_effect, step_fetched}

pub record IsDone (insn : Insn) (e : Effect CapValue) (s : State) : Type 0 where
  pub word : ℕ
  pub is_decoded : insn_fetched (step_fetched s) ≡ Some insn
  pub in_range : AreInRange insn
  pub holds : first_false (asked (kind_of insn.row) word insn s) ≡ None
  pub does : e ≡ does (kind_of insn.row) insn s

pub data IsStep (s : State) : Effect CapValue → Type 0 where
  trapped : (f : Fault) → IsStep s (Trap f)
  done : {e : Effect CapValue} (insn : Insn) → IsDone insn e s → IsStep s e

module _ (s : State) where
  unless-step : (f : Option Fault) (word : ℕ) (insn : Insn) → first_false (asked (kind_of insn.row) word insn s) ≡ f
      → insn_fetched (step_fetched s) ≡ Some insn → AreInRange insn → IsStep s (unless_fault f (does (kind_of insn.row) insn s))
  unless-step None word insn none found range =
      done insn (record { word = word; is_decoded = found; in_range = range; holds = none; does = refl })
  unless-step (Some f) word insn some found range = trapped f

  decoded-step : (o : Option Insn) (word : ℕ) → insn_fetched (step_fetched s) ≡ o → IfSome o AreInRange → IsStep s (decoded_effect o word s)
  unfolding kind_effect
  decoded-step None word found range = trapped (fault_of (Instruction word))
  decoded-step (Some insn) word found range =
      unless-step (first_false (asked (kind_of insn.row) word insn s)) word insn refl found range

  fetched-step : (r : Result ℕ Fault) → fetch s ≡ r → pending s.csrs (interrupts_of s.devices) ≡ None → IsStep s (fetched_effect r s)
  fetched-step (Ok word) same none =
      decoded-step (insn_of word) word (ap₂ (λ p r. insn_fetched (fetched_by p r)) none same) (AreInRange-insn_of word)
  fetched-step (Err f) same none = trapped f

  decided-step : (o : Option Interrupt) → pending s.csrs (interrupts_of s.devices) ≡ o → IsStep s (decided o s)
  decided-step None none = fetched-step (fetch s) refl none
  decided-step (Some interrupt) some = trapped (cause_of interrupt)

  pub step-effect : IsStep s (step_effect s)
  unfolding step_effect
  step-effect = decided-step (pending s.csrs (interrupts_of s.devices)) refl
