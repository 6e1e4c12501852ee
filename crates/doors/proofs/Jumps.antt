-- What a sealed jump goes through: the sentry in a register, a pair that CInvoke accepts, or the sentry in MEPCC. One line a kind of row.
use Rattle.std.proofs.Common.{◌≡◌, ℕ, Bool, true, false, cond, List, Option, None, Some, Result, Ok, Err, refl, inl, inr, ◌⊎◌}
use Rattle.std.specs.Prelude.{not}
use Rattle.std.proofs.lemmas.Bool.{and_parts, eqb-true, not-true, or_cases, both_ways}
use Rattle.base.specs.FirstFaultLaws.{EachHolds, first_fault-none}
use Rattle.base.specs.ObjectType.{sentry_type}
use Rattle.base.specs.declared.fault.Fault.{Fault}
use Rattle.base.specs.declared.size.Size.{Size}
use Rattle.cap_bounds.specs.CapValue.{CapValue, is_sealed, value_otype}
use Rattle.cap_rights.specs.Opened.{opened}
use Rattle.cap_checks.specs.declared.question.Condition.{Condition}
use Rattle.cap_checks.specs.FirstFault.{jump_checks, is_entered_sealed, invoke_fault}
use Rattle.cap_checks.specs.Question.{judged, first_false}
use Rattle.devices.specs.Devices.{interrupts_of}
use Rattle.special_regs.specs.Interrupts.{pending}
use Rattle.special_regs.specs.declared.interrupts.Interrupt.{Interrupt}
use Rattle.isa_rows.specs.declared.kinds.Kind.{Kind}
use Rattle.isa_rows.specs.declared.kinds.Kind.TheVariants as kind
use Rattle.isa_rows.specs.declared.operands.Insn.{Insn}
use Rattle.isa_rows.specs.declared.rows.Row.{Row}
use Rattle.isa_rows.specs.declared.rows.Row.TheVariants.{CUnseal}
use Rattle.isa_rows.specs.Decoded.{insn_of}
use Rattle.isa_rows.specs.Kind.{kind_of}
use Rattle.registers.specs.Registers.{register}
use Rattle.steps.specs.Accesses.{size_of}
use Rattle.steps.specs.ComputeRows.{integer_effect, mul_div_effect, written_by, capability_effect, auipc_effect}
use Rattle.steps.specs.declared.effect.Effect.{Effect}
use Rattle.steps.specs.declared.effect.Effect.TheVariants as effect
use Rattle.steps.specs.declared.effect.CsrWrite.{CsrWrite}
use Rattle.steps.specs.declared.effect.DeviceLoad.{DeviceLoad}
use Rattle.steps.specs.declared.effect.Enter.{Enter}
use Rattle.steps.specs.declared.effect.SpecialWrite.{SpecialWrite}
use Rattle.steps.specs.declared.effect.Store.{Store}
use Rattle.steps.specs.JumpRows.{sentry_link, branch_done, link_asked, link_done, jal_target, enter_asked, enter_done}
use Rattle.steps.specs.JumpRows.{jalr_target, jalr_asked, jalr_done, invoke_asked, invoke_done}
use Rattle.steps.specs.Looks.{number_in, in_capability_mode, unless_fault, where_all}
use Rattle.steps.specs.MemoryRows.{place_of, authority_of, load_done, store_done, load_capability_done, store_capability_done}
use Rattle.steps.specs.State.{State}
use Rattle.steps.specs.Step.{asked, does, kind_effect, fetch, decoded_effect, fetched_effect, decided, step_effect}
use Rattle.steps.specs.SystemRows.{csr_held, csr_done, special_held, special_done, return_done}
use Rattle.doors.specs.Closed.{IsPair}

-- a jump to the capability in a register, which is a sentry
pub record IsEntry (s : State) (e : Enter CapValue) : Type 0 where
  pub number : ℕ
  pub sentry : value_otype (register s.registers number) ≡ sentry_type
  pub code : e.code ≡ opened (register s.registers number)
  pub link : e.link ≡ sentry_link s

-- an invocation of the pair in two registers
pub record IsInvocation (s : State) (e : Enter CapValue) : Type 0 where
  pub code_number : ℕ
  pub data_number : ℕ
  pub pair : IsPair (register s.registers code_number) (register s.registers data_number)
  pub code : e.code ≡ opened (register s.registers code_number)
  pub link : e.link ≡ opened (register s.registers data_number)

-- an effect that enters through a seal is one of the two
unfoldable pub JumpsThrough : Effect CapValue → State → Type 0
JumpsThrough (effect.Enter e) s = e.sealed ≡ true → IsEntry s e ⊎ IsInvocation s e
JumpsThrough _ s = Unit {0}

-- ---- effects that enter nothing, and conditions before an effect

module _ (s : State) where
  trap-through : (f : Fault) → JumpsThrough (effect.Trap f) s
  unfolding JumpsThrough
  trap-through f = tt

  nothing-through : JumpsThrough effect.Nothing s
  unfolding JumpsThrough
  nothing-through = tt

  write-through : (rd : ℕ) (v : CapValue) → JumpsThrough (effect.Write (record { rd = rd; value = v })) s
  unfolding JumpsThrough
  write-through rd v = tt

  written_by-through : (row : Row) (rd : ℕ) (v : CapValue) → JumpsThrough (written_by row rd v) s
  unfolding JumpsThrough
  written_by-through CUnseal rd v = tt
  written_by-through _ rd v = tt

  cond-through : (b : Bool) (x y : Effect CapValue) → JumpsThrough x s → JumpsThrough y s → JumpsThrough (cond b x y) s
  cond-through true x y one other = one
  cond-through false x y one other = other

  unless_fault-through : (f : Option Fault) (e : Effect CapValue) → (f ≡ None → JumpsThrough e s) → JumpsThrough (unless_fault f e) s
  unless_fault-through None e through = through refl
  unless_fault-through (Some f) e through = trap-through f

  where_all-through : (conditions : List Condition) (e : Effect CapValue) → JumpsThrough e s → JumpsThrough (where_all conditions e) s
  where_all-through conditions e through = unless_fault-through (first_false conditions) e (λ _. through)

module _ (s : State) (insn : Insn) where
  -- ---- jumps

  entered : (v : CapValue) (n : ℕ) → first_false (jump_checks v n insn.imm) ≡ None → is_sealed v ≡ true → value_otype v ≡ sentry_type
  entered v n none closed =
      let all : EachHolds (judged (jump_checks v n insn.imm)) = first_fault-none (judged (jump_checks v n insn.imm)) none in
      elim (or_cases (not (is_sealed v)) (is_entered_sealed v insn.imm) all.1.0) [
        | inl unsealed ↦ absurd (both_ways (is_sealed v) (not-true _ unsealed) closed)
        | inr entry ↦ eqb-true (value_otype v) sentry_type (and_parts _ _ entry).0
      ]

  enter_done-through : first_false (enter_asked insn s) ≡ None → JumpsThrough (enter_done insn s) s
  unfolding JumpsThrough
  enter_done-through none = λ closed. inl (record {
    number = insn.rs1;
    sentry = entered (register s.registers insn.rs1) insn.rs1 none closed;
    code = refl;
    link = refl;
  })

  enter-through : JumpsThrough (where_all (enter_asked insn s) (enter_done insn s)) s
  enter-through = unless_fault-through s (first_false (enter_asked insn s)) (enter_done insn s) enter_done-through

  link_done-through : (rd target : ℕ) → JumpsThrough (link_done rd target s) s
  unfolding JumpsThrough
  link_done-through rd target = tt

  link-through : (rd target : ℕ) → JumpsThrough (where_all (link_asked target s) (link_done rd target s)) s
  link-through rd target = where_all-through s (link_asked target s) (link_done rd target s) (link_done-through rd target)

  jalr-through : JumpsThrough (where_all (jalr_asked insn s) (jalr_done insn s)) s
  jalr-through =
      elim (in_capability_mode s) as
      (λ b. JumpsThrough (where_all (cond b (enter_asked insn s) (link_asked (jalr_target insn s) s))
      (cond b (enter_done insn s) (link_done insn.rd (jalr_target insn s) s))) s)
      [ true ↦ enter-through | false ↦ link-through insn.rd (jalr_target insn s) ]

  invoke_done-through : first_false (invoke_asked insn s) ≡ None → JumpsThrough (invoke_done insn s) s
  unfolding JumpsThrough invoke_fault
  invoke_done-through none = λ _. inr (record {
    code_number = insn.rs1;
    data_number = insn.rs2;
    pair = record { code_register = insn.rs1; data_register = insn.rs2; accepted = none };
    code = refl;
    link = refl;
  })

  invoke-through : JumpsThrough (where_all (invoke_asked insn s) (invoke_done insn s)) s
  invoke-through = unless_fault-through s (first_false (invoke_asked insn s)) (invoke_done insn s) invoke_done-through

  -- ---- other rows

  jump-through : (target : ℕ) → JumpsThrough (effect.Jump target) s
  unfolding JumpsThrough
  jump-through target = tt

  integer-through : JumpsThrough (integer_effect insn s) s
  unfolding integer_effect
  integer-through = write-through s _ _

  mul_div-through : JumpsThrough (mul_div_effect insn s) s
  unfolding mul_div_effect
  mul_div-through = write-through s _ _

  capability-through : JumpsThrough (capability_effect insn s) s
  unfolding capability_effect
  capability-through = written_by-through s insn.row insn.rd _

  auipc-through : JumpsThrough (auipc_effect insn s) s
  unfolding auipc_effect
  auipc-through = write-through s _ _

  branch-through : JumpsThrough (branch_done insn s) s
  branch-through = cond-through s _ _ _ (jump-through _) (nothing-through s)

  device_load-through : (l : DeviceLoad CapValue) → JumpsThrough (effect.DeviceLoad l) s
  unfolding JumpsThrough
  device_load-through l = tt

  load-through : (address : ℕ) (size : Size) → JumpsThrough (load_done insn address size s) s
  unfolding load_done
  load-through address size = cond-through s _ _ _ (write-through s _ _) (device_load-through _)

  stored-through : (w : Store) → JumpsThrough (effect.Store w) s × JumpsThrough (effect.DeviceStore w) s
  unfolding JumpsThrough
  stored-through w = (tt, tt)

  store-through : (address : ℕ) (size : Size) (number : ℕ) → JumpsThrough (store_done address size number s) s
  unfolding store_done
  store-through address size number = cond-through s _ _ _ (stored-through _).0 (stored-through _).1

  load_capability-through : (authority : CapValue) (address : ℕ) → JumpsThrough (load_capability_done authority insn.rd address s) s
  unfolding load_capability_done
  load_capability-through authority address = write-through s _ _

  store_capability-through : (address : ℕ) (v : CapValue) → JumpsThrough (store_capability_done address v) s
  unfolding store_capability_done JumpsThrough
  store_capability-through address v = tt

  csr_write-through : (w : CsrWrite CapValue) → JumpsThrough (effect.Csr w) s
  unfolding JumpsThrough
  csr_write-through w = tt

  csr-through : (old : ℕ) → JumpsThrough (csr_done old insn s) s
  unfolding csr_done
  csr-through old = cond-through s _ _ _ (csr_write-through _) (write-through s _ _)

  special_write-through : (w : SpecialWrite CapValue) → JumpsThrough (effect.Special w) s
  unfolding JumpsThrough
  special_write-through w = tt

  special-through : (old : CapValue) → JumpsThrough (special_done old insn s) s
  unfolding special_done
  special-through old = cond-through s _ _ _ (write-through s _ _) (special_write-through _)

  return-through : JumpsThrough (return_done s) s
  unfolding JumpsThrough
  return-through = tt

  -- ---- all rows, by kind

  kind_effect-through : (k : Kind) (word : ℕ) → JumpsThrough (kind_effect k word insn s) s
  unfolding kind_effect asked does
  kind_effect-through kind.Integer word = integer-through
  kind_effect-through kind.MulDiv word = mul_div-through
  kind_effect-through kind.Capability word = capability-through
  kind_effect-through kind.Auipc word = auipc-through
  kind_effect-through kind.Branch word = where_all-through s (asked kind.Branch word insn s) _ branch-through
  kind_effect-through kind.Jal word = link-through insn.rd (jal_target insn s)
  kind_effect-through kind.Jalr word = jalr-through
  kind_effect-through kind.JalrCap word = enter-through
  kind_effect-through kind.Invoke word = invoke-through
  kind_effect-through kind.Load word =
      where_all-through s (asked kind.Load word insn s) _ (load-through (place_of insn s) (size_of insn.row))
  kind_effect-through kind.Store word =
      where_all-through s (asked kind.Store word insn s) _ (store-through (place_of insn s) (size_of insn.row) (number_in s insn.rs2))
  kind_effect-through kind.LoadCapability word =
      where_all-through s (asked kind.LoadCapability word insn s) _ (load_capability-through (authority_of insn s) (place_of insn s))
  kind_effect-through kind.StoreCapability word =
      where_all-through s (asked kind.StoreCapability word insn s) _
      (store_capability-through (place_of insn s) (register s.registers insn.rs2))
  kind_effect-through kind.Csr word = where_all-through s (asked kind.Csr word insn s) _ (csr-through (csr_held insn s))
  kind_effect-through kind.SpecialRw word = where_all-through s (asked kind.SpecialRw word insn s) _ (special-through (special_held insn s))
  kind_effect-through kind.Mret word = where_all-through s (asked kind.Mret word insn s) _ return-through
  kind_effect-through kind.Fence word = nothing-through s
  kind_effect-through kind.Ecall word = trap-through s _
  kind_effect-through kind.Ebreak word = trap-through s _

-- ---- the step

decoded_effect-through : (o : Option Insn) (word : ℕ) (s : State) → JumpsThrough (decoded_effect o word s) s
decoded_effect-through (Some insn) word s = kind_effect-through s insn (kind_of insn.row) word
decoded_effect-through None word s = trap-through s _

fetched_effect-through : (r : Result ℕ Fault) (s : State) → JumpsThrough (fetched_effect r s) s
fetched_effect-through (Ok word) s = decoded_effect-through (insn_of word) word s
fetched_effect-through (Err f) s = trap-through s f

decided-through : (o : Option Interrupt) (s : State) → JumpsThrough (decided o s) s
decided-through (Some interrupt) s = trap-through s _
decided-through None s = fetched_effect-through (fetch s) s

pub step_effect-through : (s : State) → JumpsThrough (step_effect s) s
unfolding step_effect
step_effect-through s = decided-through (pending s.csrs (interrupts_of s.devices)) s
