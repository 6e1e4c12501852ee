-- Where a jump through a seal leads: to the address of the sealed capability in a register. One line a kind of row.
use Rattle.std.proofs.Common.{◌≡◌, ℕ, Bool, true, false, cond, List, Option, None, Some, Result, Ok, Err, refl, ap, inl, inr}
use Rattle.std.specs.Prelude.{not}
use Rattle.std.proofs.lemmas.Bool.{and_parts, eqb-true, not-true, or_cases, both_ways}
use Rattle.base.specs.FirstFaultLaws.{EachHolds, first_fault-none}
use Rattle.base.specs.declared.fault.Fault.{Fault}
use Rattle.base.specs.declared.size.Size.{Size}
use Rattle.cap_bounds.specs.CapValue.{CapValue, is_sealed, value_address}
use Rattle.cap_rights.specs.Opened.{opened}
use Rattle.cap_checks.specs.declared.question.Condition.{Condition}
use Rattle.cap_checks.specs.FirstFault.{jump_checks, is_entered_sealed, invoke_fault, invoke_target, jump_target}
use Rattle.cap_checks.specs.Question.{judged, first_false}
use Rattle.devices.specs.Devices.{interrupts_of}
use Rattle.special_regs.specs.Interrupts.{pending}
use Rattle.special_regs.specs.declared.interrupts.Interrupt.{Interrupt}
use Rattle.isa_rows.specs.declared.kinds.Kind.{Kind}
use Rattle.isa_rows.specs.declared.kinds.Kind.TheVariants as kind
use Rattle.isa_rows.specs.declared.operands.Insn.{Insn}
use Rattle.isa_rows.specs.declared.rows.Row.{Row}
use Rattle.isa_rows.specs.declared.rows.Row.TheVariants.{CUnseal}
use Rattle.isa_rows.specs.Decoded.{insn_of}
use Rattle.isa_rows.specs.Kind.{kind_of}
use Rattle.registers.specs.Registers.{register}
use Rattle.steps.specs.Accesses.{size_of}
use Rattle.steps.specs.ComputeRows.{integer_effect, mul_div_effect, written_by, capability_effect, auipc_effect}
use Rattle.steps.specs.declared.effect.Effect.{Effect}
use Rattle.steps.specs.declared.effect.Effect.TheVariants as effect
use Rattle.steps.specs.declared.effect.CsrWrite.{CsrWrite}
use Rattle.steps.specs.declared.effect.DeviceLoad.{DeviceLoad}
use Rattle.steps.specs.declared.effect.Enter.{Enter}
use Rattle.steps.specs.declared.effect.SpecialWrite.{SpecialWrite}
use Rattle.steps.specs.declared.effect.Store.{Store}
use Rattle.steps.specs.JumpRows.{branch_done, link_asked, link_done, jal_target, enter_asked, enter_done}
use Rattle.steps.specs.JumpRows.{jalr_target, jalr_asked, jalr_done, invoke_asked, invoke_done}
use Rattle.steps.specs.Looks.{number_in, in_capability_mode, unless_fault, where_all}
use Rattle.steps.specs.MemoryRows.{place_of, authority_of, load_done, store_done, load_capability_done, store_capability_done}
use Rattle.steps.specs.State.{State}
use Rattle.steps.specs.Step.{asked, does, kind_effect, fetch, decoded_effect, fetched_effect, decided, step_effect}
use Rattle.doors.specs.PairLaws.{pair-invocable}
use Rattle.steps.specs.SystemRows.{csr_held, csr_done, special_held, special_done, return_done}

-- a jump through the seal of the capability in a register, to its address
pub record IsThrough (s : State) (e : Enter CapValue) : Type 0 where
  pub number : ℕ
  pub sealed : is_sealed (register s.registers number) ≡ true
  pub code : e.code ≡ opened (register s.registers number)
  pub target : e.target ≡ invoke_target (register s.registers number)

-- an effect that enters through a seal is one
unfoldable pub LeadsOn : Effect CapValue → State → Type 0
LeadsOn (effect.Enter e) s = e.sealed ≡ true → IsThrough s e
LeadsOn _ s = Unit {0}

-- ---- effects that enter nothing, and conditions before an effect

module _ (s : State) where
  trap-leads : (f : Fault) → LeadsOn (effect.Trap f) s
  unfolding LeadsOn
  trap-leads f = tt

  nothing-leads : LeadsOn effect.Nothing s
  unfolding LeadsOn
  nothing-leads = tt

  write-leads : (rd : ℕ) (v : CapValue) → LeadsOn (effect.Write (record { rd = rd; value = v })) s
  unfolding LeadsOn
  write-leads rd v = tt

  written_by-leads : (row : Row) (rd : ℕ) (v : CapValue) → LeadsOn (written_by row rd v) s
  unfolding LeadsOn
  written_by-leads CUnseal rd v = tt
  written_by-leads _ rd v = tt

  cond-leads : (b : Bool) (x y : Effect CapValue) → LeadsOn x s → LeadsOn y s → LeadsOn (cond b x y) s
  cond-leads true x y one other = one
  cond-leads false x y one other = other

  unless_fault-leads : (f : Option Fault) (e : Effect CapValue) → (f ≡ None → LeadsOn e s) → LeadsOn (unless_fault f e) s
  unless_fault-leads None e through = through refl
  unless_fault-leads (Some f) e through = trap-leads f

  where_all-leads : (conditions : List Condition) (e : Effect CapValue) → LeadsOn e s → LeadsOn (where_all conditions e) s
  where_all-leads conditions e through = unless_fault-leads (first_false conditions) e (λ _. through)

module _ (s : State) (insn : Insn) where
  -- ---- jumps

  -- at no offset
  entered : (v : CapValue) (n : ℕ) → first_false (jump_checks v n insn.imm) ≡ None → is_sealed v ≡ true → insn.imm ≡ 0
  entered v n none closed =
      let all : EachHolds (judged (jump_checks v n insn.imm)) = first_fault-none (judged (jump_checks v n insn.imm)) none in
      elim (or_cases (not (is_sealed v)) (is_entered_sealed v insn.imm) all.1.0) [
        | inl unsealed ↦ absurd (both_ways (is_sealed v) (not-true _ unsealed) closed)
        | inr entry ↦ eqb-true insn.imm 0 (and_parts _ _ entry).1
      ]

  enter_done-leads : first_false (enter_asked insn s) ≡ None → LeadsOn (enter_done insn s) s
  unfolding LeadsOn
  enter_done-leads none = λ closed. record {
    number = insn.rs1;
    sealed = closed;
    code = refl;
    target = ap (jump_target (value_address (register s.registers insn.rs1)))
        (entered (register s.registers insn.rs1) insn.rs1 none closed);
  }

  enter-leads : LeadsOn (where_all (enter_asked insn s) (enter_done insn s)) s
  enter-leads = unless_fault-leads s (first_false (enter_asked insn s)) (enter_done insn s) enter_done-leads

  link_done-leads : (rd target : ℕ) → LeadsOn (link_done rd target s) s
  unfolding LeadsOn
  link_done-leads rd target = tt

  link-leads : (rd target : ℕ) → LeadsOn (where_all (link_asked target s) (link_done rd target s)) s
  link-leads rd target = where_all-leads s (link_asked target s) (link_done rd target s) (link_done-leads rd target)

  jalr-leads : LeadsOn (where_all (jalr_asked insn s) (jalr_done insn s)) s
  jalr-leads =
      elim (in_capability_mode s) as
      (λ b. LeadsOn (where_all (cond b (enter_asked insn s) (link_asked (jalr_target insn s) s))
      (cond b (enter_done insn s) (link_done insn.rd (jalr_target insn s) s))) s)
      [ true ↦ enter-leads | false ↦ link-leads insn.rd (jalr_target insn s) ]

  invoke_done-leads : first_false (invoke_asked insn s) ≡ None → LeadsOn (invoke_done insn s) s
  unfolding LeadsOn invoke_fault
  invoke_done-leads none = λ _. record {
    number = insn.rs1;
    sealed = (pair-invocable (register s.registers insn.rs1) (register s.registers insn.rs2)
        (record { code_register = insn.rs1; data_register = insn.rs2; accepted = none })).first.sealed;
    code = refl;
    target = refl;
  }

  invoke-leads : LeadsOn (where_all (invoke_asked insn s) (invoke_done insn s)) s
  invoke-leads = unless_fault-leads s (first_false (invoke_asked insn s)) (invoke_done insn s) invoke_done-leads

  -- ---- other rows

  jump-leads : (target : ℕ) → LeadsOn (effect.Jump target) s
  unfolding LeadsOn
  jump-leads target = tt

  integer-leads : LeadsOn (integer_effect insn s) s
  unfolding integer_effect
  integer-leads = write-leads s _ _

  mul_div-leads : LeadsOn (mul_div_effect insn s) s
  unfolding mul_div_effect
  mul_div-leads = write-leads s _ _

  capability-leads : LeadsOn (capability_effect insn s) s
  unfolding capability_effect
  capability-leads = written_by-leads s insn.row insn.rd _

  auipc-leads : LeadsOn (auipc_effect insn s) s
  unfolding auipc_effect
  auipc-leads = write-leads s _ _

  branch-leads : LeadsOn (branch_done insn s) s
  branch-leads = cond-leads s _ _ _ (jump-leads _) (nothing-leads s)

  device_load-leads : (l : DeviceLoad CapValue) → LeadsOn (effect.DeviceLoad l) s
  unfolding LeadsOn
  device_load-leads l = tt

  load-leads : (address : ℕ) (size : Size) → LeadsOn (load_done insn address size s) s
  unfolding load_done
  load-leads address size = cond-leads s _ _ _ (write-leads s _ _) (device_load-leads _)

  stored-leads : (w : Store) → LeadsOn (effect.Store w) s × LeadsOn (effect.DeviceStore w) s
  unfolding LeadsOn
  stored-leads w = (tt, tt)

  store-leads : (address : ℕ) (size : Size) (number : ℕ) → LeadsOn (store_done address size number s) s
  unfolding store_done
  store-leads address size number = cond-leads s _ _ _ (stored-leads _).0 (stored-leads _).1

  load_capability-leads : (authority : CapValue) (address : ℕ) → LeadsOn (load_capability_done authority insn.rd address s) s
  unfolding load_capability_done
  load_capability-leads authority address = write-leads s _ _

  store_capability-leads : (address : ℕ) (v : CapValue) → LeadsOn (store_capability_done address v) s
  unfolding store_capability_done LeadsOn
  store_capability-leads address v = tt

  csr_write-leads : (w : CsrWrite CapValue) → LeadsOn (effect.Csr w) s
  unfolding LeadsOn
  csr_write-leads w = tt

  csr-leads : (old : ℕ) → LeadsOn (csr_done old insn s) s
  unfolding csr_done
  csr-leads old = cond-leads s _ _ _ (csr_write-leads _) (write-leads s _ _)

  special_write-leads : (w : SpecialWrite CapValue) → LeadsOn (effect.Special w) s
  unfolding LeadsOn
  special_write-leads w = tt

  special-leads : (old : CapValue) → LeadsOn (special_done old insn s) s
  unfolding special_done
  special-leads old = cond-leads s _ _ _ (write-leads s _ _) (special_write-leads _)

  return-leads : LeadsOn (return_done s) s
  unfolding LeadsOn
  return-leads = tt

  -- ---- all rows, by kind

  kind_effect-leads : (k : Kind) (word : ℕ) → LeadsOn (kind_effect k word insn s) s
  unfolding kind_effect asked does
  kind_effect-leads kind.Integer word = integer-leads
  kind_effect-leads kind.MulDiv word = mul_div-leads
  kind_effect-leads kind.Capability word = capability-leads
  kind_effect-leads kind.Auipc word = auipc-leads
  kind_effect-leads kind.Branch word = where_all-leads s (asked kind.Branch word insn s) _ branch-leads
  kind_effect-leads kind.Jal word = link-leads insn.rd (jal_target insn s)
  kind_effect-leads kind.Jalr word = jalr-leads
  kind_effect-leads kind.JalrCap word = enter-leads
  kind_effect-leads kind.Invoke word = invoke-leads
  kind_effect-leads kind.Load word =
      where_all-leads s (asked kind.Load word insn s) _ (load-leads (place_of insn s) (size_of insn.row))
  kind_effect-leads kind.Store word =
      where_all-leads s (asked kind.Store word insn s) _ (store-leads (place_of insn s) (size_of insn.row) (number_in s insn.rs2))
  kind_effect-leads kind.LoadCapability word =
      where_all-leads s (asked kind.LoadCapability word insn s) _ (load_capability-leads (authority_of insn s) (place_of insn s))
  kind_effect-leads kind.StoreCapability word =
      where_all-leads s (asked kind.StoreCapability word insn s) _
      (store_capability-leads (place_of insn s) (register s.registers insn.rs2))
  kind_effect-leads kind.Csr word = where_all-leads s (asked kind.Csr word insn s) _ (csr-leads (csr_held insn s))
  kind_effect-leads kind.SpecialRw word = where_all-leads s (asked kind.SpecialRw word insn s) _ (special-leads (special_held insn s))
  kind_effect-leads kind.Mret word = where_all-leads s (asked kind.Mret word insn s) _ return-leads
  kind_effect-leads kind.Fence word = nothing-leads s
  kind_effect-leads kind.Ecall word = trap-leads s _
  kind_effect-leads kind.Ebreak word = trap-leads s _

-- ---- the step

decoded_effect-leads : (o : Option Insn) (word : ℕ) (s : State) → LeadsOn (decoded_effect o word s) s
decoded_effect-leads (Some insn) word s = kind_effect-leads s insn (kind_of insn.row) word
decoded_effect-leads None word s = trap-leads s _

fetched_effect-leads : (r : Result ℕ Fault) (s : State) → LeadsOn (fetched_effect r s) s
fetched_effect-leads (Ok word) s = decoded_effect-leads (insn_of word) word s
fetched_effect-leads (Err f) s = trap-leads s f

decided-leads : (o : Option Interrupt) (s : State) → LeadsOn (decided o s) s
decided-leads (Some interrupt) s = trap-leads s _
decided-leads None s = fetched_effect-leads (fetch s) s

pub step_effect-leads : (s : State) → LeadsOn (step_effect s) s
unfolding step_effect
step_effect-leads s = decided-leads (pending s.csrs (interrupts_of s.devices)) s
