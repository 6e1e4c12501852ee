-- The condition that fails: those of the stages before it all hold.
use Rattle.std.proofs.Common.{◌≡◌, ℕ, true, false, List, [], ◌∷◌, ◌++◌, Option, Some, None, Ok, refl, ap, sym}
use Rattle.std.proofs.Common.{append-nil}
use Rattle.std.specs.Prelude.{is_some, if◌then◌else◌}
use Rattle.base.specs.declared.fault.Fault.{Fault}
use Rattle.cap_checks.specs.declared.question.Condition.{Condition}
use Rattle.cap_checks.specs.declared.question.Question.TheVariants.{Instruction}
use Rattle.cap_checks.specs.Question.{asks, fault_of, first_false}
use Rattle.devices.specs.Devices.{interrupts_of}
use Rattle.special_regs.specs.Interrupts.{pending}
use Rattle.special_regs.specs.declared.interrupts.Interrupt.{Interrupt}
use Rattle.isa_rows.specs.declared.operands.Insn.{Insn}
use Rattle.isa_rows.specs.Kind.{kind_of}
use Rattle.isa_rows.specs.Decoded.{insn_of}
use Rattle.steps.specs.State.{State}
use Rattle.symbols.specs.Symbols.{Symbol}
use Rattle.steps.specs.FetchedLaws.{FetchesWord, FetchFaults}
use Rattle.steps.specs.Step.{asked, fetch_asked, fetch, word_unless}
use Rattle.explain.specs.Asked.{all_conditions, stages_of, stages_unless, word_stages}
use Rattle.explain.specs.WhyText.{condition_line, failed_line, false_line}

-- conditions that hold are passed over
all-hold : (symbols : List Symbol) (s : State) (cs rest : List Condition) → first_false cs ≡ None
    → false_line symbols s (cs ++ rest) ≡ false_line symbols s rest
all-hold symbols s [] rest none = refl
all-hold symbols s (c ∷ cs) rest none =
    elim c.holds as (λ b. (if b then first_false cs else Some (fault_of c.question)) ≡ None
    → (if b then false_line symbols s (cs ++ rest) else condition_line symbols s c) ≡ false_line symbols s rest)
    [ true ↦ λ e. all-hold symbols s cs rest e | false ↦ λ e. cc ] none

fetched : (f : Option Fault) (s : State) (word : ℕ) → word_unless f s ≡ Ok word → f ≡ None
fetched None s word e = refl
fetched (Some fault) s word e = cc

-- a word that is an instruction
pub failed-insn : (symbols : List Symbol) (word : ℕ) (s : State) (o : Option Insn) (insn : Insn) → o ≡ Some insn
    → false_line symbols s (asked (kind_of insn.row) word insn s) ≡ false_line symbols s (all_conditions (word_stages o word s))
failed-insn symbols word s o insn some = rw some (ap (false_line symbols s) (sym (append-nil (asked (kind_of insn.row) word insn s))))

-- and a word of no row
pub failed-none : (symbols : List Symbol) (word : ℕ) (s : State) (o : Option Insn) → o ≡ None
    → condition_line symbols s (asks (Instruction word) false) ≡ false_line symbols s (all_conditions (word_stages o word s))
failed-none symbols word s o none = rw none refl

module _ (symbols : List Symbol) (s : State) where
  pub failed-word : (word : ℕ) (insn : Option Insn) → FetchesWord (pending s.csrs (interrupts_of s.devices)) (fetch s) word insn
      → false_line symbols s (all_conditions (word_stages insn word s)) ≡ failed_line symbols s
  unfolding failed_line stages_of
  failed-word word insn found =
      rw (found.uninterrupted, found.fetched, found.decoded)
      (sym (all-hold symbols s (fetch_asked s) (all_conditions (word_stages (insn_of word) word s))
      (fetched (first_false (fetch_asked s)) s word found.fetched)))

  pub failed-fetch : FetchFaults (pending s.csrs (interrupts_of s.devices)) (fetch s)
      → false_line symbols s (fetch_asked s) ≡ failed_line symbols s
  unfolding failed_line stages_of
  failed-fetch faults =
      rw (faults.uninterrupted, faults.fetched) (ap (false_line symbols s) (sym (append-nil (fetch_asked s))))

  pub failed-none-at : is_some (pending s.csrs (interrupts_of s.devices)) ≡ true → [] ≡ failed_line symbols s
  unfolding failed_line stages_of
  failed-none-at interrupted = none-at (pending s.csrs (interrupts_of s.devices)) interrupted
    where
      none-at : (p : Option Interrupt) → is_some p ≡ true → [] ≡ false_line symbols s (all_conditions (stages_unless p s))
      none-at (Some i) is = refl
      none-at None is = cc
