-- What an unsealing opens with: a key in a register that may unseal something of the type. One line a kind of row.
use Rattle.std.proofs.Common.{◌≡◌, ℕ, ◌≤◌, Bool, true, false, not, eqb, cond, List, Option, None, Some, Result, Ok, Err}
use Rattle.std.proofs.Common.{refl, subst, arith}
use Rattle.std.specs.Prelude.{◌≢◌}
use Rattle.std.proofs.lemmas.Bool.{and_parts, leb-true, lt-leb}
use Rattle.base.specs.declared.fault.Fault.{Fault}
use Rattle.base.specs.ObjectType.{is_reserved}
use Rattle.base.specs.declared.otype.TheConstants.{FIRST_RESERVED}
use Rattle.base.specs.declared.size.Size.{Size}
use Rattle.cap_bounds.specs.CapValue.{CapValue, is_tagged, is_sealed, value_otype, value_address}
use Rattle.cap_rights.specs.declared.permission.Permission.TheVariants as permission
use Rattle.cap_rights.specs.Derivations.{tagged_if, may_unseal, unseal, address_in_bounds}
use Rattle.cap_rights.specs.ObjectType.{greatest_sealing_type}
use Rattle.cap_rights.specs.Permission.{permits}
use Rattle.cap_insns.specs.CapabilityRows.{row_value}
use Rattle.cap_checks.specs.declared.question.Condition.{Condition}
use Rattle.cap_checks.specs.Question.{first_false}
use Rattle.devices.specs.Devices.{interrupts_of}
use Rattle.special_regs.specs.Interrupts.{pending}
use Rattle.special_regs.specs.declared.interrupts.Interrupt.{Interrupt}
use Rattle.isa_rows.specs.declared.kinds.Kind.{Kind}
use Rattle.isa_rows.specs.declared.kinds.Kind.TheVariants as kind
use Rattle.isa_rows.specs.declared.operands.Insn.{Insn}
use Rattle.isa_rows.specs.declared.rows.Row.{Row}
use Rattle.isa_rows.specs.declared.rows.Row.TheVariants.{CUnseal}
use Rattle.isa_rows.specs.Decoded.{insn_of}
use Rattle.isa_rows.specs.Kind.{kind_of}
use Rattle.registers.specs.Registers.{register}
use Rattle.steps.specs.Accesses.{size_of}
use Rattle.steps.specs.ComputeRows.{integer_effect, mul_div_effect, written_by, capability_effect, auipc_effect}
use Rattle.steps.specs.declared.effect.Effect.{Effect}
use Rattle.steps.specs.declared.effect.Effect.TheVariants as effect
use Rattle.steps.specs.declared.effect.Write.{Write}
use Rattle.steps.specs.declared.effect.CsrWrite.{CsrWrite}
use Rattle.steps.specs.declared.effect.DeviceLoad.{DeviceLoad}
use Rattle.steps.specs.declared.effect.SpecialWrite.{SpecialWrite}
use Rattle.steps.specs.declared.effect.Store.{Store}
use Rattle.steps.specs.declared.event.Event.{Event}
use Rattle.steps.specs.declared.event.Event.TheVariants.{Step, Tick, Byte}
use Rattle.steps.specs.Event.{outcome}
use Rattle.steps.specs.JumpRows.{branch_done, link_asked, link_done, jal_target, enter_asked, enter_done}
use Rattle.steps.specs.JumpRows.{jalr_target, invoke_asked, invoke_done}
use Rattle.steps.specs.Looks.{number_in, in_capability_mode, unless_fault, where_all}
use Rattle.steps.specs.MemoryRows.{place_of, authority_of, load_done, store_done, load_capability_done, store_capability_done}
use Rattle.steps.specs.Outcome.{Plain, Unseal, SealedJump, outcome_of, step_outcome, step_outcome_unless}
use Rattle.steps.specs.State.{State}
use Rattle.steps.specs.Step.{asked, does, kind_effect, fetch, decoded_effect, fetched_effect, decided, step_effect}
use Rattle.steps.specs.SystemRows.{csr_held, csr_done, special_held, special_done, return_done}
use Rattle.reach.specs.Opens.{OpensUnsealing}
use Rattle.reach.proofs.Unsealing.{unseal-opens}

-- the value is what a key in a register gives of the value in another
pub record IsUnsealed (s : State) (v : CapValue) : Type 0 where
  pub sealed : ℕ
  pub key : ℕ
  pub value : v ≡ unseal (register s.registers sealed) (register s.registers key)

unfoldable pub UnsealsBy : Effect CapValue → State → Type 0
UnsealsBy (effect.Unseal w) s = IsUnsealed s w.value
UnsealsBy _ s = Unit {0}

module _ (s : State) where
  trap-by : (f : Fault) → UnsealsBy (effect.Trap f) s
  unfolding UnsealsBy
  trap-by f = tt

  nothing-by : UnsealsBy effect.Nothing s
  unfolding UnsealsBy
  nothing-by = tt

  write-by : (w : Write CapValue) → UnsealsBy (effect.Write w) s
  unfolding UnsealsBy
  write-by w = tt

  stored-by : (w : Store) → UnsealsBy (effect.Store w) s × UnsealsBy (effect.DeviceStore w) s
  unfolding UnsealsBy
  stored-by w = (tt, tt)

  device_load-by : (l : DeviceLoad CapValue) → UnsealsBy (effect.DeviceLoad l) s
  unfolding UnsealsBy
  device_load-by l = tt

  jump-by : (target : ℕ) → UnsealsBy (effect.Jump target) s
  unfolding UnsealsBy
  jump-by target = tt

  csr_write-by : (w : CsrWrite CapValue) → UnsealsBy (effect.Csr w) s
  unfolding UnsealsBy
  csr_write-by w = tt

  special_write-by : (w : SpecialWrite CapValue) → UnsealsBy (effect.Special w) s
  unfolding UnsealsBy
  special_write-by w = tt

  cond-by : (b : Bool) (x y : Effect CapValue) → UnsealsBy x s → UnsealsBy y s → UnsealsBy (cond b x y) s
  cond-by true x y one other = one
  cond-by false x y one other = other

  unless-by : (f : Option Fault) (e : Effect CapValue) → UnsealsBy e s → UnsealsBy (unless_fault f e) s
  unless-by None e by = by
  unless-by (Some f) e by = trap-by f

  where-by : (conditions : List Condition) (e : Effect CapValue) → UnsealsBy e s → UnsealsBy (where_all conditions e) s
  where-by conditions e by = unless-by (first_false conditions) e by

  module _ (insn : Insn) where
    written-by : (row : Row)
        → UnsealsBy (written_by row insn.rd
        (row_value row insn (register s.registers insn.rs1) (register s.registers insn.rs2) s.scrs.ddc)) s
    unfolding UnsealsBy row_value
    written-by CUnseal = record { sealed = insn.rs1; key = insn.rs2; value = refl }
    written-by _ = tt

    capability-by : UnsealsBy (capability_effect insn s) s
    unfolding capability_effect
    capability-by = written-by insn.row

    jalr-by : (b : Bool) → UnsealsBy (where_all (cond b (enter_asked insn s) (link_asked (jalr_target insn s) s))
        (cond b (enter_done insn s) (link_done insn.rd (jalr_target insn s) s))) s
    unfolding UnsealsBy
    jalr-by true = where-by (enter_asked insn s) (enter_done insn s) tt
    jalr-by false = where-by (link_asked (jalr_target insn s) s) (link_done insn.rd (jalr_target insn s) s) tt

    branch-by : UnsealsBy (branch_done insn s) s
    branch-by = cond-by _ _ _ (jump-by _) nothing-by

    load-by : (address : ℕ) (size : Size) → UnsealsBy (load_done insn address size s) s
    unfolding load_done
    load-by address size = cond-by _ _ _ (write-by _) (device_load-by _)

    store-by : (address : ℕ) (size : Size) (number : ℕ) → UnsealsBy (store_done address size number s) s
    unfolding store_done
    store-by address size number = cond-by _ _ _ (stored-by _).0 (stored-by _).1

    csr-by : (old : ℕ) → UnsealsBy (csr_done old insn s) s
    unfolding csr_done
    csr-by old = cond-by _ _ _ (csr_write-by _) (write-by _)

    special-by : (old : CapValue) → UnsealsBy (special_done old insn s) s
    unfolding special_done
    special-by old = cond-by _ _ _ (write-by _) (special_write-by _)

    kind-by : (k : Kind) (word : ℕ) → UnsealsBy (kind_effect k word insn s) s
    unfolding kind_effect asked does UnsealsBy integer_effect mul_div_effect auipc_effect load_capability_done store_capability_done
    kind-by kind.Integer word = tt
    kind-by kind.MulDiv word = tt
    kind-by kind.Capability word = capability-by
    kind-by kind.Auipc word = tt
    kind-by kind.Branch word = where-by (asked kind.Branch word insn s) _ branch-by
    kind-by kind.Jal word = where-by (asked kind.Jal word insn s) (link_done insn.rd (jal_target insn s) s) tt
    kind-by kind.Jalr word = jalr-by (in_capability_mode s)
    kind-by kind.JalrCap word = where-by (enter_asked insn s) (enter_done insn s) tt
    kind-by kind.Invoke word = where-by (invoke_asked insn s) (invoke_done insn s) tt
    kind-by kind.Load word = where-by (asked kind.Load word insn s) _ (load-by (place_of insn s) (size_of insn.row))
    kind-by kind.Store word =
        where-by (asked kind.Store word insn s) _ (store-by (place_of insn s) (size_of insn.row) (number_in s insn.rs2))
    kind-by kind.LoadCapability word =
        where-by (asked kind.LoadCapability word insn s) (load_capability_done (authority_of insn s) insn.rd (place_of insn s) s) tt
    kind-by kind.StoreCapability word =
        where-by (asked kind.StoreCapability word insn s) (store_capability_done (place_of insn s) (register s.registers insn.rs2)) tt
    kind-by kind.Csr word = where-by (asked kind.Csr word insn s) _ (csr-by (csr_held insn s))
    kind-by kind.SpecialRw word = where-by (asked kind.SpecialRw word insn s) _ (special-by (special_held insn s))
    kind-by kind.Mret word = where-by (asked kind.Mret word insn s) (return_done s) tt
    kind-by kind.Fence word = tt
    kind-by kind.Ecall word = tt
    kind-by kind.Ebreak word = tt

decoded-by : (o : Option Insn) (word : ℕ) (s : State) → UnsealsBy (decoded_effect o word s) s
decoded-by (Some insn) word s = kind-by s insn (kind_of insn.row) word
decoded-by None word s = trap-by s _

fetched-by : (r : Result ℕ Fault) (s : State) → UnsealsBy (fetched_effect r s) s
fetched-by (Ok word) s = decoded-by (insn_of word) word s
fetched-by (Err f) s = trap-by s f

decided-by : (o : Option Interrupt) (s : State) → UnsealsBy (decided o s) s
decided-by (Some interrupt) s = trap-by s _
decided-by None s = fetched-by (fetch s) s

step-by : (s : State) → UnsealsBy (step_effect s) s
unfolding step_effect
step-by s = decided-by (pending s.csrs (interrupts_of s.devices)) s

-- ---- the key

tagged_if-may : (may : Bool) (v : CapValue) → is_tagged (tagged_if may v) ≡ true → may ≡ true
tagged_if-may true v tagged = refl
tagged_if-may false v tagged = cc

pub record IsKey (key : CapValue) (otype : ℕ) : Type 0 where
  pub tagged : is_tagged key ≡ true
  pub unreserved : is_reserved otype ≡ false
  pub opens : OpensUnsealing key otype

may-tagged : (v key : CapValue) → may_unseal v key ≡ true → (is_tagged key ≡ true) × (is_reserved (value_otype v) ≡ false)
unfolding may_unseal
may-tagged v key may =
    let address : ℕ = value_address key in
    let all = and_parts _ (eqb address (value_otype v)) may in
    let with_bounds = and_parts _ (address_in_bounds key address) all.0 in
    let with_permission = and_parts _ (permits key permission.Unseal) with_bounds.0 in
    let with_seal = and_parts _ (not (is_sealed key)) with_permission.0 in
    let with_type = and_parts _ _ with_seal.0 in
    let small : value_otype v ≤ greatest_sealing_type = leb-true (value_otype v) greatest_sealing_type with_type.1 in
    let reserved : FIRST_RESERVED ≡ 262140 = refl in (
      (and_parts (is_tagged v) (is_tagged key) with_type.0).1,
      lt-leb FIRST_RESERVED (value_otype v) (omega (arith, reserved)),
    )

unseal-key : (v key : CapValue) → is_tagged (unseal v key) ≡ true → IsKey key (value_otype v)
unfolding unseal
unseal-key v key tagged =
    let may = may-tagged v key (tagged_if-may (may_unseal v key) _ tagged) in
    record { tagged = may.0; unreserved = may.1; opens = unseal-opens v key tagged }

-- ---- where no register holds a key

module _ (s : State) (none : (n otype : ℕ) → IsKey (register s.registers n) otype → ⊥) where
  unsealed-never : (v : CapValue) → IsUnsealed s v → is_tagged v ≡ true → ⊥
  unsealed-never v by tagged =
      let held = register s.registers by.sealed in
      none by.key (value_otype held)
      (unseal-key held (register s.registers by.key) (subst (λ x. is_tagged x ≡ true) by.value tagged))

  tagged-unsealed : (v : CapValue) → IsUnsealed s v → (tagged : Bool) → is_tagged v ≡ tagged → cond tagged Unseal Plain ≡ Unseal → ⊥
  tagged-unsealed v by true same is = unsealed-never v by same
  tagged-unsealed v by false same is = cc

  jumps-no-unseal : (closed : Bool) → cond closed SealedJump Plain ≡ Unseal → ⊥
  jumps-no-unseal true is = cc
  jumps-no-unseal false is = cc

  effect-never : (x : Effect CapValue) → UnsealsBy x s → outcome_of x ≡ Unseal → ⊥
  unfolding UnsealsBy outcome_of
  effect-never (effect.Unseal w) by is = tagged-unsealed w.value by (is_tagged w.value) refl is
  effect-never (effect.Enter e) by is = jumps-no-unseal e.sealed is
  effect-never (effect.Return closed) by is = jumps-no-unseal closed is
  effect-never (effect.Trap f) by is = cc
  effect-never effect.Nothing by is = cc
  effect-never (effect.Write w) by is = cc
  effect-never (effect.Store w) by is = cc
  effect-never (effect.StoreCapability w) by is = cc
  effect-never (effect.DeviceLoad l) by is = cc
  effect-never (effect.DeviceStore w) by is = cc
  effect-never (effect.Jump target) by is = cc
  effect-never (effect.Link l) by is = cc
  effect-never (effect.Special w) by is = cc
  effect-never (effect.Csr w) by is = cc

  never-unless : (halted : Option ℕ) → step_outcome_unless halted s ≡ Unseal → ⊥
  never-unless None is = effect-never (step_effect s) (step-by s) is
  never-unless (Some number) is = cc

  pub never : (e : Event) → outcome e s ≢ Unseal
  unfolding step_outcome
  never Step is = never-unless s.devices.halted is
  never Tick is = cc
  never (Byte b) is = cc
