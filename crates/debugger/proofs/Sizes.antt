-- RAM keeps its size at every event, of any state.
use Rattle.std.proofs.Common.{◌≡◌, ℕ, Bool, true, false, List, [], ◌∷◌, Option, None, Some, refl, subst, sym, ◌∙◌}
use Rattle.std.proofs.lemmas.Bool.{cond_both}
use Rattle.std.specs.Prelude.{◌==◌, if◌then◌else◌}
use Rattle.alu.specs.Integer.{branch_result}
use Rattle.base.specs.Size.{bytes_of}
use Rattle.base.specs.declared.size.Size.{Size}
use Rattle.cap_bounds.specs.CapValue.{CapValue}
use Rattle.cap_checks.specs.Access.{stored_of}
use Rattle.cap_checks.specs.Question.{first_false}
use Rattle.cap_checks.specs.declared.access.Access.TheVariants as access
use Rattle.steps.specs.AskedLaws.{access_asked-none}
use Rattle.steps.specs.ComputeRows.{auipc_effect, capability_effect, integer_effect, mul_div_effect, written_by}
use Rattle.steps.specs.Effect.{applied}
use Rattle.steps.specs.Event.{after}
use Rattle.steps.specs.Looks.{in_capability_mode, number_in}
use Rattle.steps.specs.MemoryRows.{load_capability_done, load_done, mapped_for, place_of, store_capability_done, store_done}
use Rattle.steps.specs.State.{State}
use Rattle.steps.specs.Step.{asked, does, step_effect, stepped, stepped_unless}
use Rattle.steps.specs.SystemRows.{csr_done, csr_held, csr_writes, special_done, special_held}
use Rattle.steps.specs.declared.effect.Effect.{Effect}
use Rattle.steps.specs.declared.effect.Effect.TheVariants.{Trap, Nothing, Write, Unseal, Store, StoreCapability, DeviceLoad, DeviceStore}
use Rattle.steps.specs.declared.effect.Effect.TheVariants.{Jump, Link, Enter, Special, Csr, Return}
use Rattle.steps.specs.declared.event.Event.{Event}
use Rattle.steps.specs.declared.event.Event.TheVariants as event
use Rattle.steps.specs.Accesses.{size_of}
use Rattle.isa_rows.specs.Kind.{kind_of}
use Rattle.isa_rows.specs.declared.kinds.Kind.{Kind}
use Rattle.isa_rows.specs.declared.kinds.Kind.TheVariants as kind
use Rattle.isa_rows.specs.declared.operands.Insn.{Insn}
use Rattle.isa_rows.specs.declared.rows.Row.{Row}
use Rattle.isa_rows.specs.declared.rows.Row.TheVariants.{CUnseal}
use Rattle.machine.specs.Run.{run_after}
use Rattle.origins.proofs.Stays.{stored-in_ram}
use Rattle.origins.proofs.Steps.{IsStep, trapped, done, step-effect}
use Rattle.past.specs.Giving.{HasSameSize}
use Rattle.registers.specs.Registers.{register}
use Rattle.tagged_memory.specs.Memory.{is_in_ram}
use Rattle.tagged_memory.specs.MemoryLaws.{length-data_written, length-capability_written}

-- a store lies in RAM
abbrev IsRoomy : Effect CapValue → State → Type 0
IsRoomy (Store w) s = is_in_ram s.memory w.address (bytes_of w.size) ≡ true
IsRoomy (StoreCapability w) s = is_in_ram s.memory w.address 16 ≡ true
IsRoomy other s = Unit {0}

module _ (s : State) where
  applied-size : (e : Effect CapValue) → IsRoomy e s → HasSameSize s (applied e s)
  unfolding applied
  applied-size (Store w) roomy = length-data_written s.memory w.address _
      (stored-in_ram s.memory w.address (bytes_of w.size) w.number roomy)
  applied-size (StoreCapability w) roomy = length-capability_written s.memory w.address _ _ roomy
  applied-size (Trap f) roomy = refl
  applied-size Nothing roomy = refl
  applied-size (Write w) roomy = refl
  applied-size (Unseal w) roomy = refl
  applied-size (DeviceLoad l) roomy = refl
  applied-size (DeviceStore w) roomy = refl
  applied-size (Jump target) roomy = refl
  applied-size (Link l) roomy = refl
  applied-size (Enter e) roomy = refl
  applied-size (Special w) roomy = refl
  applied-size (Csr w) roomy = refl
  applied-size (Return sealed) roomy = refl

  row-roomy : (r : Row) (rd : ℕ) (v : CapValue) → IsRoomy (written_by r rd v) s
  row-roomy CUnseal rd v = tt
  row-roomy _ rd v = tt

  either : (b : Bool) (x y : Effect CapValue) → IsRoomy x s → IsRoomy y s → IsRoomy (if b then x else y) s
  either true x y one other = one
  either false x y one other = other

  store-roomy : (address : ℕ) (size : Size) (number : ℕ) → IsRoomy (store_done address size number s) s
  unfolding store_done
  store-roomy address size number =
      cond_both (is_in_ram s.memory address (bytes_of size)) _ _ (λ e. IsRoomy e s) (λ inside. inside) (λ _. tt)

  load-roomy : (insn : Insn) (address : ℕ) (size : Size) → IsRoomy (load_done insn address size s) s
  unfolding load_done
  load-roomy insn address size = either (is_in_ram s.memory address (bytes_of size)) _ _ tt tt

  csr-roomy : (old : ℕ) (insn : Insn) → IsRoomy (csr_done old insn s) s
  unfolding csr_done
  csr-roomy old insn = either (csr_writes insn.row insn.rs1) _ _ tt tt

  special-roomy : (old : CapValue) (insn : Insn) → IsRoomy (special_done old insn s) s
  unfolding special_done
  special-roomy old insn = either (insn.rs1 == 0) _ _ tt tt

  done-roomy : (k : Kind) (word : ℕ) (insn : Insn) → first_false (asked k word insn s) ≡ None → IsRoomy (does k insn s) s
  unfolding asked does integer_effect mul_div_effect capability_effect auipc_effect load_capability_done store_capability_done
  done-roomy kind.Integer word insn none = tt
  done-roomy kind.MulDiv word insn none = tt
  done-roomy kind.Capability word insn none = row-roomy insn.row insn.rd _
  done-roomy kind.Auipc word insn none = tt
  done-roomy kind.Branch word insn none =
      either (branch_result insn.row (number_in s insn.rs1) (number_in s insn.rs2)) _ _ tt tt
  done-roomy kind.Jal word insn none = tt
  done-roomy kind.Jalr word insn none = either (in_capability_mode s) _ _ tt tt
  done-roomy kind.JalrCap word insn none = tt
  done-roomy kind.Invoke word insn none = tt
  done-roomy kind.Load word insn none = load-roomy insn (place_of insn s) (size_of insn.row)
  done-roomy kind.Store word insn none = store-roomy (place_of insn s) (size_of insn.row) (number_in s insn.rs2)
  done-roomy kind.LoadCapability word insn none = tt
  done-roomy kind.StoreCapability word insn none =
      (access_asked-none (access.StoreCapability (stored_of (register s.registers insn.rs2)))
      (mapped_for (access.StoreCapability (stored_of (register s.registers insn.rs2))) (place_of insn s) s) insn s none).1
  done-roomy kind.Csr word insn none = csr-roomy (csr_held insn s) insn
  done-roomy kind.SpecialRw word insn none = special-roomy (special_held insn s) insn
  done-roomy kind.Mret word insn none = tt
  done-roomy kind.Fence word insn none = tt
  done-roomy kind.Ecall word insn none = tt
  done-roomy kind.Ebreak word insn none = tt

  step-roomy : (e : Effect CapValue) → IsStep s e → IsRoomy e s
  step-roomy _ (trapped f) = tt
  step-roomy e (done insn it) = subst (λ x. IsRoomy x s) (sym it.does) (done-roomy (kind_of insn.row) it.word insn it.holds)

  unless-size : (halted : Option ℕ) → HasSameSize s (stepped_unless halted s)
  unless-size None = applied-size (step_effect s) (step-roomy (step_effect s) (step-effect s))
  unless-size (Some number) = refl

  after-size : (e : Event) → HasSameSize s (after e s)
  unfolding stepped
  after-size event.Step = unless-size s.devices.halted
  after-size event.Tick = refl
  after-size (event.Byte b) = refl

pub run-size : (es : List Event) (s : State) → HasSameSize s (run_after es s)
run-size [] s = refl
run-size (e ∷ es) s = run-size es (after e s) ∙ after-size s e
