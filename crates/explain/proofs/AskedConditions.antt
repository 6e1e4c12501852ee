-- The conditions of all stages, by what is fetched.
use Rattle.std.proofs.Common.{◌≡◌, ℕ, true, [], ◌++◌, Option, Some, None, refl, sym, append-nil}
use Rattle.std.specs.Prelude.{is_some}
use Rattle.devices.specs.Devices.{interrupts_of}
use Rattle.special_regs.specs.Interrupts.{pending}
use Rattle.special_regs.specs.declared.interrupts.Interrupt.{Interrupt}
use Rattle.isa_rows.specs.declared.operands.Insn.{Insn}
use Rattle.steps.specs.State.{State}
use Rattle.steps.specs.FetchedLaws.{FetchesWord, FetchFaults}
use Rattle.steps.specs.Step.{fetch_asked, fetch}
use Rattle.explain.specs.Asked.{all_conditions, stages_of, stages_unless, word_stages}

module _ (s : State) where
  pub conditions-word : (word : ℕ) (insn : Option Insn) → FetchesWord (pending s.csrs (interrupts_of s.devices)) (fetch s) word insn
      → fetch_asked s ++ all_conditions (word_stages insn word s) ≡ all_conditions (stages_of s)
  unfolding stages_of
  conditions-word word insn found = rw (found.uninterrupted, found.fetched, found.decoded) refl

  pub conditions-fetch : FetchFaults (pending s.csrs (interrupts_of s.devices)) (fetch s) → fetch_asked s ≡ all_conditions (stages_of s)
  unfolding stages_of
  conditions-fetch faults = rw (faults.uninterrupted, faults.fetched) (sym (append-nil (fetch_asked s)))

  pub conditions-none : is_some (pending s.csrs (interrupts_of s.devices)) ≡ true → [] ≡ all_conditions (stages_of s)
  unfolding stages_of
  conditions-none interrupted = none-at (pending s.csrs (interrupts_of s.devices)) interrupted
    where
      none-at : (p : Option Interrupt) → is_some p ≡ true → [] ≡ all_conditions (stages_unless p s)
      none-at (Some i) is = refl
      none-at None is = cc
