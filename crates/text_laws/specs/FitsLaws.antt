-- What holds of every step's effect besides that it is sound: the register that it writes exists, and so do the system registers.
use Rattle.std.proofs.Common.{◌≡◌, ℕ, ◌<◌, Bool, true, false, not, ◌&&◌, cond, eqb, Option, Some, None, Result, Ok, Err, refl, lit<}
use Rattle.std.specs.Prelude.{IfSome}
use Rattle.std.proofs.lemmas.Bool.{cond_both}
use Rattle.base.specs.FirstFault.{first_fault}
use Rattle.base.specs.FirstFaultLaws.{first_fault-none}
use Rattle.base.specs.Registers.{is_csr, is_scr, pcc_register, special_register}
use Rattle.base.specs.Size.{bytes_of}
use Rattle.base.specs.declared.fault.Fault.{Fault}
use Rattle.base.specs.declared.size.Size.{Size}
use Rattle.cap_bounds.specs.CapValue.{CapValue}
use Rattle.cap_checks.specs.Question.{first_false}
use Rattle.devices.specs.Devices.{interrupts_of}
use Rattle.tagged_memory.specs.Memory.{is_in_ram}
use Rattle.special_regs.specs.Interrupts.{pending}
use Rattle.special_regs.specs.Refusals.{is_read_only, csr_checks, scr_checks}
use Rattle.special_regs.specs.Traps.{is_sentry}
use Rattle.special_regs.specs.declared.interrupts.Interrupt.{Interrupt}
use Rattle.isa_rows.specs.declared.kinds.Kind.{Kind}
use Rattle.isa_rows.specs.declared.kinds.Kind.TheVariants as kind
use Rattle.isa_rows.specs.declared.operands.Insn.{Insn}
use Rattle.isa_rows.specs.declared.rows.Row.{Row}
use Rattle.isa_rows.specs.declared.rows.Row.TheVariants.{CUnseal}
use Rattle.isa_rows.specs.Kind.{kind_of}
use Rattle.isa_rows.specs.Decoded.{insn_of}
use Rattle.isa_rows.specs.OperandLaws.{AreInRange, AreInRange-insn_of}
use Rattle.steps.specs.declared.effect.CsrWrite.{CsrWrite}
use Rattle.steps.specs.declared.effect.Effect.{Effect}
use Rattle.steps.specs.declared.effect.Effect.TheVariants.{Nothing, Write, Unseal, Store, DeviceLoad, DeviceStore}
use Rattle.steps.specs.declared.effect.Effect.TheVariants.{Jump, Link, Enter, Special, Csr, Return}
use Rattle.steps.specs.declared.effect.SpecialWrite.{SpecialWrite}
use Rattle.steps.specs.declared.effect.Write.{Write as Written}
use Rattle.steps.specs.AskedLaws.{register-none}
use Rattle.steps.specs.ComputeRows.{integer_effect, mul_div_effect, written_by, capability_effect, auipc_effect}
use Rattle.steps.specs.JumpRows.{branch_done, enter_done, jalr_done, jalr_target, link_done}
use Rattle.steps.specs.Looks.{in_capability_mode, unless_fault}
use Rattle.steps.specs.MemoryRows.{load_done, store_done, load_capability_done, store_capability_done}
use Rattle.steps.specs.State.{State}
use Rattle.steps.specs.Step.{asked, does, kind_effect, decoded_effect, fetched_effect, fetch, decided, step_effect}
use Rattle.steps.specs.SystemRows.{csr_number, csr_writes, csr_done, csr_held, special_done, special_held}

abbrev pub Fits : Effect CapValue → State → Type 0
Fits (Write w) s = w.rd < 32
Fits (Unseal w) s = w.rd < 32
Fits (DeviceLoad l) s = l.rd < 32
Fits (Link l) s = l.rd < 32
Fits (Enter e) s = e.rd < 32
Fits (Special w) s = (w.rd < 32) × ((is_scr w.number && not (eqb w.number 0)) ≡ true)
Fits (Csr w) s = (w.rd < 32) × ((is_csr w.number && not (is_read_only w.number)) ≡ true)
Fits (Return sealed) s = sealed ≡ is_sentry s.scrs.mepcc
Fits _ s = Unit {0}

unless-fits : (f : Option Fault) (e : Effect CapValue) (s : State) → (f ≡ None → Fits e s) → Fits (unless_fault f e) s
unless-fits None e s fits = fits refl
unless-fits (Some fault) e s fits = tt

written-fits : (row : Row) (rd : ℕ) (v : CapValue) (s : State) → rd < 32 → Fits (written_by row rd v) s
written-fits CUnseal rd v s small = small
written-fits _ rd v s small = small

taken-fits : (taken : Bool) (target : ℕ) (s : State) → Fits (cond taken (Jump target) Nothing) s
taken-fits true target s = tt
taken-fits false target s = tt

csr-written : (writes : Bool) (w : CsrWrite CapValue) (v : Written CapValue) (s : State) → w.rd < 32 → v.rd < 32
    → (is_csr w.number && not (writes && is_read_only w.number)) ≡ true → Fits (cond writes (Csr w) (Write v)) s
csr-written true w v s small other exists = (small, exists)
csr-written false w v s small other exists = other

special-written : (reads : Bool) (w : SpecialWrite CapValue) (v : Written CapValue) (s : State) → w.rd < 32 → v.rd < 32
    → (is_scr w.number && not (not reads && eqb w.number 0)) ≡ true → Fits (cond reads (Write v) (Special w)) s
special-written true w v s small other exists = other
special-written false w v s small other exists = (small, exists)

module _ (s : State) (insn : Insn) (range : AreInRange insn) (word : ℕ) where
  jalr-fits : Fits (jalr_done insn s) s
  jalr-fits =
      cond_both (in_capability_mode s) (enter_done insn s) (link_done insn.rd (jalr_target insn s) s) (λ e. Fits e s) (λ _. range.rd)
      (λ _. range.rd)

  branch-fits : Fits (branch_done insn s) s
  branch-fits = taken-fits _ _ s

  load-fits : (address : ℕ) (size : Size) → Fits (load_done insn address size s) s
  unfolding load_done
  load-fits address size =
      cond_both (is_in_ram s.memory address (bytes_of size)) (Write _) (DeviceLoad _) (λ e. Fits e s) (λ _. range.rd) (λ _. range.rd)

  store-fits : (address : ℕ) (size : Size) (number : ℕ) → Fits (store_done address size number s) s
  unfolding store_done
  store-fits address size number =
      cond_both (is_in_ram s.memory address (bytes_of size)) (Store _) (DeviceStore _) (λ e. Fits e s) (λ _. tt) (λ _. tt)

  csr-fits : (old : ℕ) → first_fault (csr_checks s.scrs (csr_number insn) (csr_writes insn.row insn.rs1)) ≡ None
      → Fits (csr_done old insn s) s
  unfolding csr_done
  csr-fits old none =
      csr-written (csr_writes insn.row insn.rs1) _ _ s range.rd range.rd
      (first_fault-none (csr_checks s.scrs (csr_number insn) (csr_writes insn.row insn.rs1)) none).0

  special-fits : (old : CapValue) → first_fault (scr_checks s.scrs insn.rs2 (not (eqb insn.rs1 0))) ≡ None
      → Fits (special_done old insn s) s
  unfolding special_done
  special-fits old none =
      special-written (eqb insn.rs1 0) _ _ s range.rd range.rd
      (first_fault-none (scr_checks s.scrs insn.rs2 (not (eqb insn.rs1 0))) none).0

  where-fit : (k : Kind) → (first_false (asked k word insn s) ≡ None → Fits (does k insn s) s) → Fits (kind_effect k word insn s) s
  unfolding kind_effect
  where-fit k fits = unless-fits (first_false (asked k word insn s)) (does k insn s) s fits

  kind-fits : (k : Kind) → Fits (kind_effect k word insn s) s
  unfolding asked does kind_effect integer_effect mul_div_effect capability_effect auipc_effect load_capability_done store_capability_done
  kind-fits kind.Integer = range.rd
  kind-fits kind.MulDiv = range.rd
  kind-fits kind.Capability = written-fits insn.row insn.rd _ s range.rd
  kind-fits kind.Auipc = range.rd
  kind-fits kind.Branch = where-fit kind.Branch (λ _. branch-fits)
  kind-fits kind.Jal =
      where-fit kind.Jal (λ _. range.rd)
  kind-fits kind.Jalr = where-fit kind.Jalr (λ _. jalr-fits)
  kind-fits kind.JalrCap =
      where-fit kind.JalrCap (λ _. range.rd)
  kind-fits kind.Invoke =
      where-fit kind.Invoke (λ _. lit< tt)
  kind-fits kind.Load =
      where-fit kind.Load (λ _. load-fits _ _)
  kind-fits kind.Store =
      where-fit kind.Store (λ _. store-fits _ _ _)
  kind-fits kind.LoadCapability =
      where-fit kind.LoadCapability (λ _. range.rd)
  kind-fits kind.StoreCapability =
      where-fit kind.StoreCapability (λ _. tt)
  kind-fits kind.Csr =
      where-fit kind.Csr (λ none. csr-fits (csr_held insn s) (register-none pcc_register word
      (csr_checks s.scrs (csr_number insn) (csr_writes insn.row insn.rs1)) (csr_done (csr_held insn s) insn s) none))
  kind-fits kind.SpecialRw =
      where-fit kind.SpecialRw (λ none. special-fits (special_held insn s) (register-none (special_register insn.rs2) word
      (scr_checks s.scrs insn.rs2 (not (eqb insn.rs1 0))) (special_done (special_held insn s) insn s) none))
  kind-fits kind.Mret =
      where-fit kind.Mret (λ _. refl)
  kind-fits kind.Fence = tt
  kind-fits kind.Ecall = tt
  kind-fits kind.Ebreak = tt

decoded-fits : (s : State) (found : Option Insn) (word : ℕ) → IfSome found AreInRange → Fits (decoded_effect found word s) s
decoded-fits s (Some insn) word range = kind-fits s insn range word (kind_of insn.row)
decoded-fits s None word range = tt

fetched-fits : (s : State) (r : Result ℕ Fault) → Fits (fetched_effect r s) s
fetched-fits s (Ok word) = decoded-fits s (insn_of word) word (AreInRange-insn_of word)
fetched-fits s (Err fault) = tt

decided-fits : (s : State) (p : Option Interrupt) → Fits (decided p s) s
decided-fits s (Some interrupt) = tt
decided-fits s None = fetched-fits s (fetch s)

pub step-fits : (s : State) → Fits (step_effect s) s
unfolding step_effect
step-fits s = decided-fits s (pending s.csrs (interrupts_of s.devices))
