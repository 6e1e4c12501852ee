-- The effect of every instruction that is fetched is derived: one line a kind of row.
use Rattle.std.proofs.Common.{◌≡◌, ℕ, ◌+◌, ◌%◌, ◌^◌, ◌<◌, ◌≤◌, Bool, true, false, eqb, leb, not, ◌&&◌, ◌||◌, Option, None, Some, refl}
use Rattle.std.proofs.Common.{cond, subst, arith, lit≤, inl, inr}
use Rattle.std.specs.Prelude.{IfSome, List, [], ◌∷◌}
use Rattle.std.specs.Option.{unwrap_or}
use Rattle.std.proofs.lemmas.Bool.{and_parts, both_ways, cond_both, eqb-true, le-leb, leb-true, not-true, or_cases, true≢false}
use Rattle.base.specs.declared.fault.Fault.{Fault}
use Rattle.base.specs.declared.cause.Cause.TheVariants as cause
use Rattle.base.specs.declared.registers.scr.TheConstants.{PCC, MTCC, MTDC, MSCRATCHC, MEPCC}
use Rattle.base.specs.declared.size.Size.{Size}
use Rattle.base.specs.declared.size.Size.TheVariants.{Byte, Half, Word, Double}
use Rattle.base.specs.FirstFaultLaws.{EachHolds, first_fault-none}
use Rattle.base.specs.FirstFault.{first_fault}
use Rattle.base.specs.Registers.{is_csr, is_scr, pcc_register, special_register}
use Rattle.base.specs.Size.{bytes_of}
use Rattle.cap_bounds.specs.CapValue.{CapValue, is_tagged, is_sealed, value_base, value_top, value_of, integer}
use Rattle.cap_bounds.specs.SetAddress.{at_address}
use Rattle.cap_rights.specs.Opened.{opened}
use Rattle.cap_rights.specs.Permission.{permits}
use Rattle.cap_rights.specs.declared.permission.Permission.{Permission}
use Rattle.cap_rights.specs.declared.permission.Permission.TheVariants as permission
use Rattle.cap_rights.specs.Rights.{OpensGranule}
use Rattle.cap_rights.specs.DerivedLaws.{derived-at_address, derived-seal_entry, derived-opened}
use Rattle.cap_checks.specs.Access.{stored_of, width_of, needed}
use Rattle.cap_checks.specs.declared.access.Access.{Access}
use Rattle.cap_checks.specs.declared.access.Access.TheVariants as access
use Rattle.cap_checks.specs.declared.question.Condition.{Condition}
use Rattle.cap_checks.specs.Question.{judged, first_false}
use Rattle.cap_checks.specs.FaultLaws.{access_fault-holds}
use Rattle.cap_checks.specs.StoreLaws.{stored-capability, stored-local}
use Rattle.cap_checks.specs.FirstFault.{holds, access_fault, fetch_checks, fetch_fault, target_checks, jump_target}
use Rattle.tagged_memory.specs.Memory.{is_in_ram, has_tag, word_at}
use Rattle.special_regs.specs.Numbered.{value_at}
use Rattle.special_regs.specs.Refusals.{has_system_access, csr_checks, csr_fault, scr_checks, scr_fault, return_checks, return_fault}
use Rattle.special_regs.specs.Refusals.{is_read_only}
use Rattle.special_regs.specs.Scrs.{scr_value, scr_values}
use Rattle.special_regs.specs.declared.refusal.SpecialFault.{SpecialFault}
use Rattle.special_regs.specs.declared.refusal.SpecialFault.TheVariants.{S1, S2}
use Rattle.alu.specs.Integer.{branch_result}
use Rattle.cap_insns.specs.CapabilityRows.{row_value}
use Rattle.cap_insns.specs.MadeLaws.{made-row_value}
use Rattle.isa_rows.specs.declared.kinds.Kind.{Kind}
use Rattle.isa_rows.specs.declared.kinds.Kind.TheVariants as kind
use Rattle.isa_rows.specs.declared.operands.Insn.{Insn}
use Rattle.isa_rows.specs.declared.rows.Row.{Row}
use Rattle.isa_rows.specs.declared.rows.Row.TheVariants.{CUnseal}
use Rattle.steps.specs.declared.effect.Effect.{Effect}
use Rattle.steps.specs.declared.effect.Effect.TheVariants.{Nothing, Write, Jump, Store, DeviceStore, Special}
use Rattle.steps.specs.Accesses.{size_of, through_rs1}
use Rattle.steps.specs.ComputeRows.{integer_effect, mul_div_effect, written_by, capability_effect, auipc_effect}
use Rattle.steps.specs.IsState.{IsState}
use Rattle.steps.specs.AskedLaws.{access_asked-none, register-none}
use Rattle.steps.specs.JumpRows.{sentry_link, link_of, link_asked, link_done, jal_target, enter_asked, enter_done}
use Rattle.steps.specs.JumpRows.{jalr_target, invoke_asked, invoke_done}
use Rattle.steps.specs.Looks.{number_in, in_capability_mode, next_of, unless_fault, where_all}
use Rattle.steps.specs.MemoryRows.{place_of, authority_through, authority_of, authority_number_of, access_asked, memory_asked, load_done}
use Rattle.steps.specs.MemoryRows.{stored_number, stores_to, store_done, loaded_capability}
use Rattle.steps.specs.MemoryRows.{capability_at, load_capability_done}
use Rattle.steps.specs.MemoryRows.{store_capability_done}
use Rattle.registers.specs.Registers.{register}
use Rattle.steps.specs.State.{State, pc_of}
use Rattle.steps.specs.Step.{asked, does, kind_effect}
use Rattle.steps.specs.SystemRows.{asked_of_register, csr_number, csr_writes, csr_held, csr_done, special_held, special_done}
use Rattle.steps.specs.SystemRows.{return_done}
use Rattle.steps.specs.RowEffects.{branch_effect, link_effect, enter_effect, jalr_effect, invoke_effect, load_effect, store_effect}
use Rattle.steps.specs.RowEffects.{load_capability_effect, store_capability_effect, csr_effect, special_effect, return_effect}
use Rattle.authority.specs.Reachable.{IsSpecial, IsRoot, in_register, in_pcc, in_ddc, in_mtcc, in_mtdc, in_mscratchc, in_mepcc, IsReachable}
use Rattle.authority.specs.Reachable.{from_root}
use Rattle.authority.specs.Reachable.{from_granule}
use Rattle.authority.specs.Authority.{HasSystem}
use Rattle.authority.specs.Grounded.{IsGrounded, IsGroundedIfTagged}
use Rattle.authority.specs.GroundedLaws.{grounded-reachable, grounded-derived, grounded-made}
use Rattle.authority.specs.FrameLaws.{grounded-register, grounded-pcc, grounded-ddc, grounded-special}
use Rattle.authority.specs.Derives.{MayWrite, MayStoreTagged, UsesSystem, Derives}

-- ---- faults

unless_fault-derives : (f : Option Fault) (e : Effect CapValue) (s : State) → (f ≡ None → Derives e s) → Derives (unless_fault f e) s
unless_fault-derives None e s derives = derives refl
unless_fault-derives (Some f) e s derives = tt

-- the conditions of a system register
register-derives : (register word : ℕ) (checks : List (Bool × SpecialFault)) (e : Effect CapValue) (s : State)
    → (first_fault checks ≡ None → Derives e s) → Derives (where_all (asked_of_register register word checks) e) s
register-derives register word checks e s derives =
    unless_fault-derives (first_false (asked_of_register register word checks)) e s
    (λ none. derives (register-none register word checks e none))

-- ---- what passes its checks

-- the authority of an access
pub record IsAllowed (c : CapValue) (p : Permission) (address size : ℕ) : Type 0 where
  pub tagged : is_tagged c ≡ true
  pub unsealed : is_sealed c ≡ false
  pub permitted : permits c p ≡ true
  pub base : value_base c ≤ address
  pub top : address + size ≤ value_top c

pub allowed : (authority : CapValue) (number : ℕ) (a : Access) (address : ℕ) → access_fault authority number a address ≡ None
    → IsAllowed authority (needed a) address (width_of a)
unfolding holds
allowed authority number a address none =
    let holding = access_fault-holds authority number a address none in
    let bounds =
    and_parts (leb (value_base authority) address) (leb (address + width_of a) (value_top authority)) holding.1.0 in
    record {
      tagged = holding.0.0;
      unsealed = not-true _ holding.0.1.0;
      permitted = holding.0.1.1;
      base = leb-true _ _ bounds.0;
      top = leb-true _ _ bounds.1;
    }

-- PCC, where an instruction is fetched
pub record IsFetched (s : State) : Type 0 where
  pub tagged : is_tagged s.scrs.pcc ≡ true
  pub unsealed : is_sealed s.scrs.pcc ≡ false
  pub executes : permits s.scrs.pcc permission.Execute ≡ true
  pub base : value_base s.scrs.pcc ≤ pc_of s
  pub top : pc_of s + 4 ≤ value_top s.scrs.pcc

pub fetched-pcc : (s : State) → fetch_fault s.scrs.pcc ≡ None → IsFetched s
unfolding fetch_fault holds
fetched-pcc s none =
    let all : EachHolds (judged (fetch_checks s.scrs.pcc)) = first_fault-none (judged (fetch_checks s.scrs.pcc)) none in
    let bounds =
    and_parts (leb (value_base s.scrs.pcc) (pc_of s)) (leb (pc_of s + 4) (value_top s.scrs.pcc)) all.1.1.1.0 in
    record {
      tagged = all.0;
      unsealed = not-true _ all.1.0;
      executes = all.1.1.0;
      base = leb-true _ _ bounds.0;
      top = leb-true _ _ bounds.1;
    }

-- PCC opens the system where it may use system registers
pub system-pcc : (s : State) → IsFetched s → has_system_access s.scrs ≡ true → HasSystem s
system-pcc s fetched access = record {
  source = s.scrs.pcc;
  reachable = from_root fetched.tagged (in_pcc refl);
  opens = record { unsealed = fetched.unsealed; executes = fetched.executes; system = access };
}

pub system-used : (s : State) → UsesSystem s → HasSystem s
system-used s uses = system-pcc s (fetched-pcc s uses.passes) uses.access

-- the authority of a load or store is a root
module _ (s : State) (insn : Insn) where
  authority-root : (rs1 : Bool) → IsRoot s (authority_through rs1 insn s)
  authority-root true = in_register insn.rs1 refl
  authority-root false = in_ddc refl

  pub reachable-authority : is_tagged (authority_of insn s) ≡ true → IsReachable s (authority_of insn s)
  reachable-authority tagged = from_root tagged (authority-root (through_rs1 insn.row (in_capability_mode s)))

-- the access that the second of two conditions asks for
second-holds : (first : Bool × SpecialFault) (second : Bool) → first_fault (first ∷ (second, S2) ∷ []) ≡ None → second ≡ true
second-holds first second none = (first_fault-none (first ∷ (second, S2) ∷ []) none).1.0

pub csr-access : (s : State) (n : ℕ) (writes : Bool) → csr_fault s.scrs n writes ≡ None → has_system_access s.scrs ≡ true
unfolding csr_fault
csr-access s n writes none = second-holds (is_csr n && not (writes && is_read_only n), S1) (has_system_access s.scrs) none

pub scr-access : (s : State) (n : ℕ) (writes : Bool) → scr_fault s.scrs n writes ≡ None → MTCC ≤ n → has_system_access s.scrs ≡ true
unfolding scr_fault
scr-access s n writes none high =
    let access : Bool = has_system_access s.scrs in
    elim (or_cases (not (leb MTCC n)) access
    (second-holds (is_scr n && not (writes && eqb n PCC), S1) (not (leb MTCC n) || access) none)) [
      | inl low ↦ absurd (both_ways (leb MTCC n) (not-true _ low) (le-leb MTCC n high))
      | inr given ↦ given
    ]

pub return-access : (s : State) → return_fault s.scrs ≡ None → has_system_access s.scrs ≡ true
unfolding return_fault
return-access s none = (first_fault-none ((has_system_access s.scrs, S2) ∷ []) none).0

-- ---- values

pub grounded-integer : (s : State) (n : ℕ) → IsGroundedIfTagged s (integer n)
grounded-integer s n = λ tagged. cc

grounded-at_pcc : (s : State) (address : ℕ) → IsGroundedIfTagged s (at_address s.scrs.pcc address)
grounded-at_pcc s address =
    grounded-derived s (at_address s.scrs.pcc address) s.scrs.pcc (grounded-pcc s) (derived-at_address s.scrs.pcc address)

grounded-sentry_link : (s : State) → IsGroundedIfTagged s (sentry_link s)
grounded-sentry_link s =
    let next : CapValue = at_address s.scrs.pcc (next_of s) in
    grounded-derived s (sentry_link s) next (grounded-at_pcc s (next_of s)) (derived-seal_entry next)

grounded-link_of : (s : State) → IsGroundedIfTagged s (link_of s)
unfolding link_of
grounded-link_of s =
    cond_both (in_capability_mode s) (sentry_link s) (integer (next_of s)) (IsGroundedIfTagged s) (λ _. grounded-sentry_link s)
    (λ _. grounded-integer s (next_of s))

loaded-if : (s : State) (word : ℕ) (tag : Bool) → (tag ≡ true → IsGrounded s (value_of word true))
    → IsGroundedIfTagged s (value_of word tag)
loaded-if s word true grounded = λ _. grounded refl
loaded-if s word false grounded = λ tagged. cc

-- what is true of each value that stands beside a number in a list
abbrev OfNumbered : ℕ → (CapValue → Type 0) → List (ℕ × CapValue) → Type 0
OfNumbered n P [] = Unit {0}
OfNumbered n P (entry ∷ entries) = (entry.0 ≡ n → P entry.1) × OfNumbered n P entries

value_at-numbered : (n : ℕ) (P : CapValue → Type 0) (entries : List (ℕ × CapValue)) → OfNumbered n P entries
    → IfSome (value_at n entries) P
value_at-numbered n P [] each = tt
value_at-numbered n P (entry ∷ entries) each =
    cond_both (eqb entry.0 n) (Some entry.1) (value_at n entries) (λ o. IfSome o P) (λ same. each.0 (eqb-true entry.0 n same))
    (λ _. value_at-numbered n P entries each.1)

-- what a special register holds, where its access is allowed
module _ (s : State) (n : ℕ) (system : MTCC ≤ n → HasSystem s) where
  special : (number : ℕ) (v : CapValue) → MTCC ≤ number → IsSpecial s v → number ≡ n → IsGroundedIfTagged s v
  special number v above is same = grounded-special s v (system (subst (λ k. MTCC ≤ k) same above)) is

  grounded-scr_value : IfSome (scr_value s.scrs n) (IsGroundedIfTagged s)
  unfolding scr_value
  grounded-scr_value =
      value_at-numbered n (IsGroundedIfTagged s) (scr_values s.scrs) (
        λ _. grounded-pcc s,
        (
          λ _. grounded-ddc s,
          (
            special MTCC s.scrs.mtcc (lit≤ tt) (in_mtcc refl),
            (
              special MTDC s.scrs.mtdc (lit≤ tt) (in_mtdc refl),
              (
                special MSCRATCHC s.scrs.mscratchc (lit≤ tt) (in_mscratchc refl),
                (special MEPCC s.scrs.mepcc (lit≤ tt) (in_mepcc refl), tt),
              ),
            ),
          ),
        ),
      )

-- ---- rows

written_by-derives : (row : Row) (rd : ℕ) (v : CapValue) (s : State) → ((row ≡ CUnseal → ⊥) → IsGroundedIfTagged s v)
    → Derives (written_by row rd v) s
written_by-derives CUnseal rd v s earned = tt
written_by-derives _ rd v s earned = earned (λ same. cc)

module _ (s : State) (is : IsState s) (insn : Insn) where
  capability_effect-derives : Derives (capability_effect insn s) s
  unfolding capability_effect
  capability_effect-derives =
      let cs1 : CapValue = register s.registers insn.rs1 in
      let cs2 : CapValue = register s.registers insn.rs2 in
      let v : CapValue = row_value insn.row insn cs1 cs2 s.scrs.ddc in
      written_by-derives insn.row insn.rd v s
      (λ other. λ tagged. grounded-made s v cs1 cs2 (grounded-register s insn.rs1) (grounded-register s insn.rs2)
      (made-row_value insn.row insn cs1 cs2 s.scrs.ddc (is.values insn.rs1) other tagged))

  auipc_effect-derives : Derives (auipc_effect insn s) s
  unfolding auipc_effect
  auipc_effect-derives =
      let address : ℕ = (pc_of s + insn.imm) % 2 ^ 64 in
      cond_both (in_capability_mode s) (at_address s.scrs.pcc address) (integer address) (IsGroundedIfTagged s)
      (λ _. grounded-at_pcc s address) (λ _. grounded-integer s address)

  -- ---- jumps

  link_effect-derives : (rd target : ℕ) → Derives (link_effect rd target s) s
  unfolding link_effect
  link_effect-derives rd target =
      unless_fault-derives (first_false (link_asked target s)) (link_done rd target s) s (λ _. grounded-link_of s)

  branch_effect-derives : Derives (branch_effect insn s) s
  unfolding branch_effect
  branch_effect-derives =
      elim (branch_result insn.row (number_in s insn.rs1) (number_in s insn.rs2)) as
      (λ b. Derives (where_all (cond b (target_checks s.scrs.pcc (jump_target (pc_of s) insn.imm)) [])
      (cond b (Jump (jump_target (pc_of s) insn.imm)) Nothing)) s) [
        | true ↦ unless_fault-derives (first_false (target_checks s.scrs.pcc (jump_target (pc_of s) insn.imm)))
            (Jump (jump_target (pc_of s) insn.imm)) s (λ _. tt)
        | false ↦ tt
      ]

  enter_effect-derives : Derives (enter_effect insn s) s
  unfolding enter_effect
  enter_effect-derives =
      let v : CapValue = register s.registers insn.rs1 in
      unless_fault-derives (first_false (enter_asked insn s)) (enter_done insn s) s
      (λ _. λ unsealed. (
        grounded-sentry_link s,
        grounded-derived s (opened v) v (grounded-register s insn.rs1) (derived-opened v unsealed),
      ))

  jalr_effect-derives : Derives (jalr_effect insn s) s
  unfolding jalr_effect enter_effect link_effect
  jalr_effect-derives =
      elim (in_capability_mode s) as
      (λ b. Derives (where_all (cond b (enter_asked insn s) (link_asked (jalr_target insn s) s))
      (cond b (enter_done insn s) (link_done insn.rd (jalr_target insn s) s))) s)
      [ true ↦ enter_effect-derives | false ↦ link_effect-derives insn.rd (jalr_target insn s) ]

  invoke_effect-derives : Derives (invoke_effect insn s) s
  unfolding invoke_effect
  invoke_effect-derives =
      unless_fault-derives (first_false (invoke_asked insn s)) (invoke_done insn s) s (λ _. λ never. absurd (true≢false never))

  -- ---- memory

  may_write : (address size : ℕ) → IsAllowed (authority_of insn s) permission.Store address size → MayWrite s address size
  may_write address size allows = λ a low high.
      let base = allows.base in
      let top = allows.top in
      record {
        source = authority_of insn s;
        reachable = reachable-authority s insn allows.tagged;
        opens = record { unsealed = allows.unsealed; stores = allows.permitted; base = omega arith; top = omega arith };
      }

  load_done-derives : (address : ℕ) (size : Size) → Derives (load_done insn address size s) s
  unfolding load_done
  load_done-derives address size =
      cond_both (is_in_ram s.memory address (bytes_of size)) _ _ (λ e. Derives e s) (λ _. λ tagged. cc) (λ _. λ tagged. cc)

  load_effect-derives : Derives (load_effect insn s) s
  unfolding load_effect
  load_effect-derives =
      unless_fault-derives (first_false (memory_asked (access.Load (size_of insn.row)) insn s)) _ s
      (λ _. load_done-derives (place_of insn s) (size_of insn.row))

  some_byte : (address : ℕ) (size : Size) → address < address + bytes_of size
  some_byte address Byte = omega arith
  some_byte address Half = omega arith
  some_byte address Word = omega arith
  some_byte address Double = omega arith

  store_done-derives : (address : ℕ) (size : Size) (number : ℕ) → MayWrite s address (bytes_of size)
      → Derives (store_done address size number s) s
  unfolding store_done
  store_done-derives address size number may =
      cond_both (is_in_ram s.memory address (bytes_of size)) (Store (stored_number address size number))
      (DeviceStore (stored_number address size number)) (λ e. Derives e s) (λ _. may)
      (λ _. may address (omega arith) (some_byte address size))

  -- an access that its authority and the map allow
  access-allowed : (a : Access) (mapped : Condition) → first_false (access_asked a mapped insn s) ≡ None
      → IsAllowed (authority_of insn s) (needed a) (place_of insn s) (width_of a)
  access-allowed a mapped none =
      allowed (authority_of insn s) (authority_number_of insn s) a (place_of insn s) (access_asked-none a mapped insn s none).0

  store_effect-derives : Derives (store_effect insn s) s
  unfolding store_effect
  store_effect-derives =
      let size : Size = size_of insn.row in
      let place : ℕ = place_of insn s in
      unless_fault-derives (first_false (memory_asked (access.Store (size_of insn.row)) insn s)) _ s
      (λ none. store_done-derives place size (number_in s insn.rs2)
      (may_write place (bytes_of size) (access-allowed (access.Store size) (stores_to place size s) none)))

  grounded-loaded : (address : ℕ) → IsAllowed (authority_of insn s) permission.Load address 16
      → IsGroundedIfTagged s (loaded_capability (authority_of insn s) address s.memory)
  grounded-loaded address allows =
      let authority : CapValue = authority_of insn s in
      let tag : Bool = has_tag s.memory address in
      let kept : Bool = permits authority permission.LoadCapability in
      loaded-if s (word_at s.memory address) (tag && kept)
      (λ both.
      let parts = and_parts tag kept both in
      let opens : OpensGranule authority address = record {
        unsealed = allows.unsealed;
        loads = allows.permitted;
        capabilities = parts.1;
        base = allows.base;
        top = allows.top;
      } in
      grounded-reachable s (value_of (word_at s.memory address) true)
      (from_granule {c = authority} address (reachable-authority s insn allows.tagged) opens (record { tagged = parts.0; value = refl })))

  load_capability_effect-derives : Derives (load_capability_effect insn s) s
  unfolding load_capability_effect load_capability_done
  load_capability_effect-derives =
      unless_fault-derives (first_false (memory_asked access.LoadCapability insn s)) _ s
      (λ none. grounded-loaded (place_of insn s)
      (access-allowed access.LoadCapability (capability_at cause.LoadAccess (place_of insn s) s) none))

  store-tagged : access_fault (authority_of insn s) (authority_number_of insn s)
      (access.StoreCapability (stored_of (register s.registers insn.rs2))) (place_of insn s) ≡ None
      → is_tagged (register s.registers insn.rs2) ≡ true → MayStoreTagged s (place_of insn s) (register s.registers insn.rs2)
  store-tagged passes tagged =
      let v : CapValue = register s.registers insn.rs2 in
      let a : Access = access.StoreCapability (stored_of v) in
      let allows = allowed (authority_of insn s) (authority_number_of insn s) a (place_of insn s) passes in
      record {
        source = authority_of insn s;
        reachable = reachable-authority s insn allows.tagged;
        opens = record {
          unsealed = allows.unsealed;
          stores = allows.permitted;
          capabilities = stored-capability (authority_of insn s) v (authority_number_of insn s) (place_of insn s) passes tagged;
          base = allows.base;
          top = allows.top;
        };
        locals = stored-local (authority_of insn s) v (authority_number_of insn s) (place_of insn s) passes tagged;
      }

  store_capability_effect-derives : Derives (store_capability_effect insn s) s
  unfolding store_capability_effect store_capability_done
  store_capability_effect-derives =
      let a : Access = access.StoreCapability (stored_of (register s.registers insn.rs2)) in
      unless_fault-derives (first_false (memory_asked (access.StoreCapability (stored_of (register s.registers insn.rs2))) insn s)) _ s
      (λ none. (
        may_write (place_of insn s) 16 (access-allowed a (capability_at cause.StoreAccess (place_of insn s) s) none),
        grounded-register s insn.rs2,
        store-tagged (access_asked-none a (capability_at cause.StoreAccess (place_of insn s) s) insn s none).0,
      ))

  -- ---- system registers

  csr_done-derives : (old : ℕ) → UsesSystem s → Derives (csr_done old insn s) s
  unfolding csr_done
  csr_done-derives old uses =
      cond_both (csr_writes insn.row insn.rs1) _ (Write (record { rd = insn.rd; value = integer old })) (λ e. Derives e s)
      (λ _. (grounded-integer s old, uses)) (λ _. grounded-integer s old)

  csr_effect-derives : (word : ℕ) → fetch_fault s.scrs.pcc ≡ None → Derives (csr_effect word insn s) s
  unfolding csr_effect csr_fault
  csr_effect-derives word passes =
      let writes : Bool = csr_writes insn.row insn.rs1 in
      register-derives pcc_register word (csr_checks s.scrs (csr_number insn) writes) _ s
      (λ none. csr_done-derives (csr_held insn s)
      (record { passes = passes; access = csr-access s (csr_number insn) writes none }))

  special_done-derives : (old : CapValue) → (MTCC ≤ insn.rs2 → UsesSystem s) → IsGroundedIfTagged s old
      → Derives (special_done old insn s) s
  unfolding special_done
  special_done-derives old system earned =
      cond_both (eqb insn.rs1 0) (Write (record { rd = insn.rd; value = old }))
      (Special (record { rd = insn.rd; old = old; number = insn.rs2; value = register s.registers insn.rs1 }))
      (λ e. Derives e s)
      (λ _. earned) (λ _. (earned, grounded-register s insn.rs1, system))

  grounded-held : (o : Option CapValue) → IfSome o (IsGroundedIfTagged s) → IsGroundedIfTagged s (unwrap_or o (integer 0))
  grounded-held None each = grounded-integer s 0
  grounded-held (Some v) each = each

  special_effect-derives : (word : ℕ) → fetch_fault s.scrs.pcc ≡ None → Derives (special_effect word insn s) s
  unfolding special_effect scr_fault
  special_effect-derives word passes =
      let writes : Bool = not (eqb insn.rs1 0) in
      register-derives (special_register insn.rs2) word (scr_checks s.scrs insn.rs2 writes) _ s
      (λ none.
      let system : MTCC ≤ insn.rs2 → UsesSystem s =
      λ high. record { passes = passes; access = scr-access s insn.rs2 writes none high } in
      special_done-derives (special_held insn s) system
      (grounded-held (scr_value s.scrs insn.rs2) (grounded-scr_value s insn.rs2 (λ high. system-used s (system high)))))

  return_effect-derives : (word : ℕ) → fetch_fault s.scrs.pcc ≡ None → Derives (return_effect word s) s
  unfolding return_effect return_fault
  return_effect-derives word passes =
      register-derives pcc_register word (return_checks s.scrs) (return_done s) s
      (λ none. (record { passes = passes; access = return-access s none }, refl))

  -- ---- all rows, by kind

  integer_effect-derives : Derives (integer_effect insn s) s
  unfolding integer_effect
  integer_effect-derives = λ tagged. cc

  mul_div_effect-derives : Derives (mul_div_effect insn s) s
  unfolding mul_div_effect
  mul_div_effect-derives = λ tagged. cc

  pub kind_effect-derives : (k : Kind) (word : ℕ) → fetch_fault s.scrs.pcc ≡ None → Derives (kind_effect k word insn s) s
  unfolding kind_effect asked does branch_effect link_effect jalr_effect enter_effect invoke_effect load_effect store_effect
      load_capability_effect store_capability_effect csr_effect special_effect return_effect
  kind_effect-derives kind.Integer word passes = integer_effect-derives
  kind_effect-derives kind.MulDiv word passes = mul_div_effect-derives
  kind_effect-derives kind.Capability word passes = capability_effect-derives
  kind_effect-derives kind.Auipc word passes = auipc_effect-derives
  kind_effect-derives kind.Branch word passes = branch_effect-derives
  kind_effect-derives kind.Jal word passes = link_effect-derives insn.rd (jal_target insn s)
  kind_effect-derives kind.Jalr word passes = jalr_effect-derives
  kind_effect-derives kind.JalrCap word passes = enter_effect-derives
  kind_effect-derives kind.Invoke word passes = invoke_effect-derives
  kind_effect-derives kind.Load word passes = load_effect-derives
  kind_effect-derives kind.Store word passes = store_effect-derives
  kind_effect-derives kind.LoadCapability word passes = load_capability_effect-derives
  kind_effect-derives kind.StoreCapability word passes = store_capability_effect-derives
  kind_effect-derives kind.Csr word passes = csr_effect-derives word passes
  kind_effect-derives kind.SpecialRw word passes = special_effect-derives word passes
  kind_effect-derives kind.Mret word passes = return_effect-derives word passes
  kind_effect-derives kind.Fence word passes = tt
  kind_effect-derives kind.Ecall word passes = tt
  kind_effect-derives kind.Ebreak word passes = tt
