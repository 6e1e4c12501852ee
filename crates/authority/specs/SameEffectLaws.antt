-- The effect of a step is a function of its looks: one line a kind of row.
use Rattle.std.proofs.Common.{◌≡◌, ℕ, ◌+◌, ◌≤◌, Bool, true, false, eqb, leb, not, ◌&&◌, cond, length, refl, ap, subst, ◌∙◌}
use Rattle.std.proofs.Common.{Option, None, Some, Ok, Err, lit≤}
use Rattle.std.proofs.Common.{sym}
use Rattle.std.proofs.lemmas.Bool.{cond_both, eqb-true}
use Rattle.base.specs.Fault.{fault}
use Rattle.base.specs.Ram.{ram_base}
use Rattle.std.specs.Prelude.{◌||◌, is_none, List}
use Rattle.std.specs.Option.{unwrap_or}
use Rattle.base.specs.Registers.{pcc_register, special_register}
use Rattle.base.specs.Size.{bytes_of}
use Rattle.base.specs.FirstFault.{first_fault}
use Rattle.base.specs.declared.cause.Cause.{Cause}
use Rattle.base.specs.declared.cause.Cause.TheVariants as cause
use Rattle.base.specs.declared.fault.Fault.{Fault}
use Rattle.base.specs.declared.registers.scr.TheConstants.{PCC, DDC, MTCC, MTDC, MSCRATCHC, MEPCC}
use Rattle.base.specs.declared.size.Size.{Size}
use Rattle.cap_bounds.specs.CapValue.{CapValue, value_of, integer}
use Rattle.cap_checks.specs.Access.{stored_of}
use Rattle.cap_checks.specs.Question.{asks, first_false}
use Rattle.cap_checks.specs.declared.question.Question.TheVariants.{Ram, RamOrDevice}
use Rattle.cap_checks.specs.declared.question.Condition.{Condition}
use Rattle.cap_checks.specs.FirstFault.{fetch_fault}
use Rattle.cap_checks.specs.declared.access.Access.{Access}
use Rattle.cap_checks.specs.declared.access.Access.TheVariants as access
use Rattle.cap_rights.specs.Permission.{permits}
use Rattle.cap_rights.specs.declared.permission.Permission.TheVariants as permission
use Rattle.devices.specs.Devices.{interrupts_of, read_fault, write_fault, value_at}
use Rattle.isa_rows.specs.Decoded.{insn_of}
use Rattle.isa_rows.specs.Kind.{kind_of}
use Rattle.isa_rows.specs.declared.kinds.Kind.{Kind}
use Rattle.isa_rows.specs.declared.kinds.Kind.TheVariants as kind
use Rattle.isa_rows.specs.declared.operands.Insn.{Insn}
use Rattle.isa_rows.specs.declared.rows.Row.{Row}
use Rattle.isa_rows.specs.declared.rows.Row.TheVariants.{Csrrwi, Csrrsi, Csrrci}
use Rattle.special_regs.specs.CsrValues.{csr_value}
use Rattle.special_regs.specs.Interrupts.{pending}
use Rattle.special_regs.specs.Refusals.{csr_checks, csr_fault, scr_checks, scr_fault, return_checks, return_fault}
use Rattle.special_regs.specs.Scrs.{Scrs, scr_value}
use Rattle.special_regs.specs.Traps.{is_sentry}
use Rattle.special_regs.specs.declared.interrupts.Interrupt.{Interrupt}
use Rattle.special_regs.specs.declared.refusal.SpecialFault.{SpecialFault}
use Rattle.tagged_memory.specs.Memory.{Memory, is_in_ram, has_tag, number_at, word_at}
use Rattle.steps.specs.Accesses.{size_of, loaded}
use Rattle.steps.specs.ComputeRows.{integer_effect, mul_div_effect, capability_effect, auipc_effect}
use Rattle.steps.specs.AskedLaws.{access_asked-none, register-none}
use Rattle.steps.specs.JumpRows.{link_of, jal_target}
use Rattle.steps.specs.Looks.{number_in, unless_fault, where_all}
use Rattle.steps.specs.MemoryRows.{place_of, authority_of, access_asked, loads_from, memory_asked, load_done, stored_number}
use Rattle.steps.specs.MemoryRows.{stores_to, store_done, loaded_capability, capability_at}
use Rattle.steps.specs.MemoryRows.{load_capability_done, store_capability_done}
use Rattle.registers.specs.Registers.{register}
use Rattle.steps.specs.State.{State, pc_of}
use Rattle.steps.specs.AskedLaws.{fetch-fetched}
use Rattle.steps.specs.RowEffects.{fetched}
use Rattle.steps.specs.Step.{asked, does, kind_effect, decoded_effect, fetched_effect, decided, step_effect}
use Rattle.steps.specs.SystemRows.{asked_of_register, csr_number, csr_source, csr_writes, csr_new, csr_held, csr_done}
use Rattle.steps.specs.SystemRows.{special_held, special_done}
use Rattle.steps.specs.RowEffects.{branch_effect, link_effect, enter_effect, jalr_effect, invoke_effect, load_effect, store_effect}
use Rattle.steps.specs.RowEffects.{load_capability_effect, store_capability_effect, csr_effect, special_effect, return_effect}
use Rattle.steps.specs.declared.effect.Effect.{Effect}
use Rattle.steps.specs.declared.effect.Effect.TheVariants.{Write, Store, DeviceLoad, DeviceStore, Csr, Return}
use Rattle.authority.specs.Authority.{SameScrs}
use Rattle.authority.specs.RowLaws.{csr-access, scr-access, return-access}
use Rattle.authority.specs.WorldLooks.{IsNext, LoadsCapability, SameLooks}

-- ---- a state with another memory and other system registers

-- PCC and DDC of the first, and the system registers of the second
abbrev pub joined : Scrs → Scrs → Scrs
joined x other = record other { pcc = x.pcc; ddc = x.ddc }

abbrev pub elsewise : State → Memory → Scrs → State
elsewise s m x = record s { memory = m; scrs = joined s.scrs x }

-- a state that shows the same registers, PCC, DDC, control and status registers and devices is such a one
pub is_elsewise : (s t : State) → t.registers ≡ s.registers → t.scrs.pcc ≡ s.scrs.pcc → t.scrs.ddc ≡ s.scrs.ddc → t.csrs ≡ s.csrs
    → t.devices ≡ s.devices → t ≡ elsewise s t.memory t.scrs
is_elsewise s t registers pcc ddc csrs devices = λ i. record {
  registers = registers i;
  scrs = record {
    pcc = pcc i;
    ddc = ddc i;
    mtcc = t.scrs.mtcc;
    mtdc = t.scrs.mtdc;
    mscratchc = t.scrs.mscratchc;
    mepcc = t.scrs.mepcc;
  };
  csrs = csrs i;
  memory = t.memory;
  devices = devices i;
}

pub same-joined : (x other : Scrs) → SameScrs x (joined x other) → joined x other ≡ x
same-joined x other same = λ i. record {
  pcc = x.pcc;
  ddc = x.ddc;
  mtcc = same.mtcc i;
  mtdc = same.mtdc i;
  mscratchc = same.mscratchc i;
  mepcc = same.mepcc i;
}

-- ---- tests

unless_fault-same : (f : Option Fault) (x y : Effect CapValue) → (f ≡ None → y ≡ x) → unless_fault f y ≡ unless_fault f x
unless_fault-same None x y same = same refl
unless_fault-same (Some f) x y same = refl

where_all-same : (conditions : List Condition) (x y : Effect CapValue) → (first_false conditions ≡ None → y ≡ x)
    → where_all conditions y ≡ where_all conditions x
where_all-same conditions x y same = unless_fault-same (first_false conditions) x y same

register-same : (register word : ℕ) (checks : List (Bool × SpecialFault)) (x y : Effect CapValue) → (first_fault checks ≡ None → y ≡ x)
    → where_all (asked_of_register register word checks) y ≡ where_all (asked_of_register register word checks) x
register-same register word checks x y same =
    where_all-same (asked_of_register register word checks) x y (λ none. same (register-none register word checks x none))

if-same : {A : Type 0} (b c : Bool) (x y z : A) → c ≡ b → (b ≡ true → y ≡ x) → cond c y z ≡ cond b x z
if-same true c x y z same equal = ap (λ d. cond d y z) same ∙ equal refl
if-same false c x y z same equal = ap (λ d. cond d y z) same

and-same : (a b : Bool) (p : Bool) → (p ≡ true → b ≡ a) → (b && p) ≡ (a && p)
and-same a b true same = ap (λ c. c && true) (same refl)
and-same true true false same = refl
and-same true false false same = refl
and-same false true false same = refl
and-same false false false same = refl

entry-same : {A : Type 0} (b : Bool) (x y : A) (u v : Option A) → (b ≡ true → y ≡ x) → v ≡ u → cond b (Some y) v ≡ cond b (Some x) u
entry-same true x y u v here others = ap Some (here refl)
entry-same false x y u v here others = others

pub in_ram-same : (m other : Memory) (address size : ℕ) → length other.bytes ≡ length m.bytes
    → is_in_ram other address size ≡ is_in_ram m address size
unfolding is_in_ram
in_ram-same m other address size same = ap (λ n. leb ram_base address && leb (address + size) (ram_base + n)) same

-- ---- rows

module _ (s : State) (m : Memory) (x : Scrs) (looks : SameLooks s (elsewise s m x)) (insn : Insn) where
  -- compute
  integer_effect-same : integer_effect insn (elsewise s m x) ≡ integer_effect insn s
  unfolding integer_effect
  integer_effect-same = refl

  mul_div_effect-same : mul_div_effect insn (elsewise s m x) ≡ mul_div_effect insn s
  unfolding mul_div_effect
  mul_div_effect-same = refl

  capability_effect-same : capability_effect insn (elsewise s m x) ≡ capability_effect insn s
  unfolding capability_effect
  capability_effect-same = refl

  auipc_effect-same : auipc_effect insn (elsewise s m x) ≡ auipc_effect insn s
  unfolding auipc_effect
  auipc_effect-same = refl

  -- jumps
  branch_effect-same : branch_effect insn (elsewise s m x) ≡ branch_effect insn s
  unfolding branch_effect
  branch_effect-same = refl

  link_effect-same : (rd target : ℕ) → link_effect rd target (elsewise s m x) ≡ link_effect rd target s
  unfolding link_effect link_of
  link_effect-same rd target = refl

  enter_effect-same : enter_effect insn (elsewise s m x) ≡ enter_effect insn s
  unfolding enter_effect
  enter_effect-same = refl

  jalr_effect-same : jalr_effect insn (elsewise s m x) ≡ jalr_effect insn s
  unfolding jalr_effect link_of
  jalr_effect-same = refl

  invoke_effect-same : invoke_effect insn (elsewise s m x) ≡ invoke_effect insn s
  unfolding invoke_effect
  invoke_effect-same = refl

  -- loads and stores of data
  in_ram : (address size : ℕ) → is_in_ram m address size ≡ is_in_ram s.memory address size
  in_ram address size = in_ram-same s.memory m address size looks.size

  -- the map's conditions
  loads_from-same : (address : ℕ) (size : Size) → loads_from address size (elsewise s m x) ≡ loads_from address size s
  loads_from-same address size =
      ap (λ inside. asks (RamOrDevice cause.LoadAccess address size) (inside || is_none (read_fault address (bytes_of size))))
      (in_ram address (bytes_of size))

  stores_to-same : (address : ℕ) (size : Size) → stores_to address size (elsewise s m x) ≡ stores_to address size s
  stores_to-same address size =
      ap (λ inside. asks (RamOrDevice cause.StoreAccess address size) (inside || is_none (write_fault address (bytes_of size))))
      (in_ram address (bytes_of size))

  capability_at-same : (otherwise : Cause) (address : ℕ)
      → capability_at otherwise address (elsewise s m x) ≡ capability_at otherwise address s
  capability_at-same otherwise address = ap (asks (Ram otherwise address)) (in_ram address 16)

  load_done-same : (address : ℕ) (size : Size)
      → (is_in_ram s.memory address (bytes_of size) ≡ true
      → number_at m address (bytes_of size) ≡ number_at s.memory address (bytes_of size))
      → load_done insn address size (elsewise s m x) ≡ load_done insn address size s
  unfolding load_done
  load_done-same address size same =
      let n : ℕ = bytes_of size in
      if-same (is_in_ram s.memory address n) (is_in_ram m address n)
      (Write (record { rd = insn.rd; value = integer (loaded insn.row size (number_at s.memory address n)) }))
      (Write (record { rd = insn.rd; value = integer (loaded insn.row size (number_at m address n)) }))
      (DeviceLoad (record { rd = insn.rd; value = integer (value_at address s.devices); address = address; size = size }))
      (in_ram address n)
      (λ inside. ap (λ k. Write (record { rd = insn.rd; value = integer (loaded insn.row size k) })) (same inside))

  load_effect-same : IsNext s insn → kind_of insn.row ≡ kind.Load → load_effect insn (elsewise s m x) ≡ load_effect insn s
  unfolding load_effect
  load_effect-same next row =
      let place : ℕ = place_of insn s in
      let size : Size = size_of insn.row in
      let a : Access = access.Load size in
      ap (λ mapped. where_all (access_asked a mapped insn s) (load_done insn place size (elsewise s m x))) (loads_from-same place size)
      ∙ where_all-same (memory_asked (access.Load (size_of insn.row)) insn s) (load_done insn place size s)
      (load_done insn place size (elsewise s m x))
      (λ none. load_done-same place size (λ inside. looks.number insn (record {
        next = next;
        row = row;
        allowed = (access_asked-none a (loads_from place size s) insn s none).0;
        inside = inside;
      })))

  store_done-same : (address : ℕ) (size : Size) (number : ℕ)
      → store_done address size number (elsewise s m x) ≡ store_done address size number s
  unfolding store_done
  store_done-same address size number =
      ap (λ inside. cond inside (Store (stored_number address size number)) (DeviceStore (stored_number address size number)))
      (in_ram address (bytes_of size))

  store_effect-same : store_effect insn (elsewise s m x) ≡ store_effect insn s
  unfolding store_effect
  store_effect-same =
      let place : ℕ = place_of insn s in
      let size : Size = size_of insn.row in
      ap
      (λ mapped. where_all (access_asked (access.Store size) mapped insn s) (store_done place size (number_in s insn.rs2) (elsewise s m x)))
      (stores_to-same place size)
      ∙ ap (where_all (memory_asked (access.Store (size_of insn.row)) insn s)) (store_done-same place size (number_in s insn.rs2))

  -- loads and stores of capabilities
  loaded_capability-same : LoadsCapability s insn
      → loaded_capability (authority_of insn s) (place_of insn s) m ≡ loaded_capability (authority_of insn s) (place_of insn s) s.memory
  loaded_capability-same loads =
      let authority : CapValue = authority_of insn s in
      let place : ℕ = place_of insn s in
      let word : word_at m place ≡ word_at s.memory place = looks.granule insn loads in
      ap (λ w. value_of w (has_tag m place && permits authority permission.LoadCapability)) word
      ∙ ap (value_of (word_at s.memory place))
      (and-same (has_tag s.memory place) (has_tag m place) (permits authority permission.LoadCapability) (looks.tag insn loads))

  load_capability_effect-same : IsNext s insn → kind_of insn.row ≡ kind.LoadCapability
      → load_capability_effect insn (elsewise s m x) ≡ load_capability_effect insn s
  unfolding load_capability_effect load_capability_done
  load_capability_effect-same next row =
      let authority : CapValue = authority_of insn s in
      let place : ℕ = place_of insn s in
      let mapped : Condition = capability_at cause.LoadAccess place s in
      let write : Memory → Effect CapValue = λ k. Write (record { rd = insn.rd; value = loaded_capability authority place k }) in
      ap (λ c. where_all (access_asked access.LoadCapability c insn s) (write m)) (capability_at-same cause.LoadAccess place)
      ∙ where_all-same (memory_asked access.LoadCapability insn s) (write s.memory) (write m)
      (λ none.
      let both = access_asked-none access.LoadCapability mapped insn s none in
      ap (λ v. Write (record { rd = insn.rd; value = v }))
      (loaded_capability-same (record { next = next; row = row; allowed = both.0; inside = both.1 })))

  store_capability_effect-same : store_capability_effect insn (elsewise s m x) ≡ store_capability_effect insn s
  unfolding store_capability_effect store_capability_done
  store_capability_effect-same =
      let v : CapValue = register s.registers insn.rs2 in
      ap (λ c. where_all (access_asked (access.StoreCapability (stored_of v)) c insn s) (store_capability_done (place_of insn s) v))
      (capability_at-same cause.StoreAccess (place_of insn s))

  -- system registers
  csr_source-same : (row : Row) → csr_source row insn (elsewise s m x) ≡ csr_source row insn s
  unfolding csr_source
  csr_source-same Csrrwi = refl
  csr_source-same Csrrsi = refl
  csr_source-same Csrrci = refl
  csr_source-same _ = refl

  csr_done-same : (old : ℕ) → csr_done old insn (elsewise s m x) ≡ csr_done old insn s
  unfolding csr_done
  csr_done-same old =
      ap (λ source. cond (csr_writes insn.row insn.rs1) (Csr (record {
        rd = insn.rd;
        old = integer old;
        number = csr_number insn;
        value = csr_new insn.row old source;
      })) (Write (record { rd = insn.rd; value = integer old })))
      (csr_source-same insn.row)

  csr_effect-same : (word : ℕ) → fetch_fault s.scrs.pcc ≡ None → csr_effect word insn (elsewise s m x) ≡ csr_effect word insn s
  unfolding csr_effect csr_fault
  csr_effect-same word passes =
      let n : ℕ = csr_number insn in
      let writes : Bool = csr_writes insn.row insn.rs1 in
      let done : Scrs → Effect CapValue =
      λ y. csr_done (unwrap_or (csr_value s.csrs y (interrupts_of s.devices) n) 0) insn (elsewise s m x) in
      register-same pcc_register word (csr_checks s.scrs n writes) (csr_done (csr_held insn s) insn s) (done (joined s.scrs x))
      (λ none. ap done (same-joined s.scrs x (looks.scrs passes (csr-access s n writes none))) ∙ csr_done-same (csr_held insn s))

  scr_value-same : (n : ℕ) → (MTCC ≤ n → SameScrs s.scrs (joined s.scrs x)) → scr_value (joined s.scrs x) n ≡ scr_value s.scrs n
  unfolding scr_value
  scr_value-same n same =
      let there : (number : ℕ) → MTCC ≤ number → eqb number n ≡ true → SameScrs s.scrs (joined s.scrs x) =
      λ number high equal. same (subst (λ k. MTCC ≤ k) (eqb-true number n equal) high) in
      entry-same (eqb PCC n) s.scrs.pcc s.scrs.pcc _ _ (λ _. refl)
      (entry-same (eqb DDC n) s.scrs.ddc s.scrs.ddc _ _ (λ _. refl)
      (entry-same (eqb MTCC n) s.scrs.mtcc x.mtcc _ _ (λ e. (there MTCC (lit≤ tt) e).mtcc)
      (entry-same (eqb MTDC n) s.scrs.mtdc x.mtdc _ _ (λ e. (there MTDC (lit≤ tt) e).mtdc)
      (entry-same (eqb MSCRATCHC n) s.scrs.mscratchc x.mscratchc _ _ (λ e. (there MSCRATCHC (lit≤ tt) e).mscratchc)
      (entry-same (eqb MEPCC n) s.scrs.mepcc x.mepcc None None (λ e. (there MEPCC (lit≤ tt) e).mepcc) refl)))))

  special_done-same : (old : CapValue) → special_done old insn (elsewise s m x) ≡ special_done old insn s
  unfolding special_done
  special_done-same old = refl

  special_effect-same : (word : ℕ) → fetch_fault s.scrs.pcc ≡ None
      → special_effect word insn (elsewise s m x) ≡ special_effect word insn s
  unfolding special_effect scr_fault
  special_effect-same word passes =
      let n : ℕ = insn.rs2 in
      let writes : Bool = not (eqb insn.rs1 0) in
      let done : Option CapValue → Effect CapValue = λ held. special_done (unwrap_or held (integer 0)) insn (elsewise s m x) in
      register-same (special_register n) word (scr_checks s.scrs n writes) (special_done (special_held insn s) insn s)
      (done (scr_value (joined s.scrs x) n))
      (λ none. ap done (scr_value-same n (λ high. looks.scrs passes (scr-access s n writes none high)))
      ∙ special_done-same (special_held insn s))

  return_effect-same : (word : ℕ) → fetch_fault s.scrs.pcc ≡ None → return_effect word (elsewise s m x) ≡ return_effect word s
  unfolding return_effect return_fault
  return_effect-same word passes =
      register-same pcc_register word (return_checks s.scrs) (Return (is_sentry s.scrs.mepcc)) (Return (is_sentry x.mepcc))
      (λ none. ap (λ v. Return (is_sentry v)) (looks.scrs passes (return-access s none)).mepcc)

  -- all rows, by kind
  kind_effect-same : (k : Kind) (word : ℕ) → kind_of insn.row ≡ k → IsNext s insn
      → kind_effect k word insn (elsewise s m x) ≡ kind_effect k word insn s
  unfolding kind_effect asked does branch_effect link_effect jalr_effect enter_effect invoke_effect load_effect store_effect
      load_capability_effect store_capability_effect csr_effect special_effect return_effect
  kind_effect-same kind.Integer word row next = integer_effect-same
  kind_effect-same kind.MulDiv word row next = mul_div_effect-same
  kind_effect-same kind.Capability word row next = capability_effect-same
  kind_effect-same kind.Auipc word row next = auipc_effect-same
  kind_effect-same kind.Branch word row next = branch_effect-same
  kind_effect-same kind.Jal word row next = link_effect-same insn.rd (jal_target insn s)
  kind_effect-same kind.Jalr word row next = jalr_effect-same
  kind_effect-same kind.JalrCap word row next = enter_effect-same
  kind_effect-same kind.Invoke word row next = invoke_effect-same
  kind_effect-same kind.Load word row next = load_effect-same next row
  kind_effect-same kind.Store word row next = store_effect-same
  kind_effect-same kind.LoadCapability word row next = load_capability_effect-same next row
  kind_effect-same kind.StoreCapability word row next = store_capability_effect-same
  kind_effect-same kind.Csr word row next = csr_effect-same word next.passes
  kind_effect-same kind.SpecialRw word row next = special_effect-same word next.passes
  kind_effect-same kind.Mret word row next = return_effect-same word next.passes
  kind_effect-same kind.Fence word row next = refl
  kind_effect-same kind.Ecall word row next = refl
  kind_effect-same kind.Ebreak word row next = refl

  pub next_effect-same : (word : ℕ) → IsNext s insn
      → kind_effect (kind_of insn.row) word insn (elsewise s m x) ≡ kind_effect (kind_of insn.row) word insn s
  next_effect-same word next = kind_effect-same (kind_of insn.row) word refl next

-- ---- the step

module _ (s : State) (m : Memory) (x : Scrs) (looks : SameLooks s (elsewise s m x)) where
  decoded_effect-same : (o : Option Insn) (word : ℕ) → ((insn : Insn) → o ≡ Some insn → IsNext s insn)
      → decoded_effect o word (elsewise s m x) ≡ decoded_effect o word s
  decoded_effect-same None word next = refl
  decoded_effect-same (Some insn) word next = next_effect-same s m x looks insn word (next insn refl)

  fetched-same : (f : Option Fault) → fetch_fault s.scrs.pcc ≡ f → fetched f (elsewise s m x) ≡ fetched f s
  unfolding fetched
  fetched-same (Some f) same = refl
  fetched-same None same =
      let pc : ℕ = pc_of s in
      if-same (is_in_ram s.memory pc 4) (is_in_ram m pc 4) (Ok (number_at s.memory pc 4)) (Ok (number_at m pc 4))
      (Err (fault cause.FetchAccess pc)) (in_ram-same s.memory m pc 4 looks.size) (λ inside. ap (λ n. Ok n) (looks.word same inside))

  fetched_effect-same : (f : Option Fault) → fetch_fault s.scrs.pcc ≡ f
      → fetched_effect (fetched f s) (elsewise s m x) ≡ fetched_effect (fetched f s) s
  unfolding fetched
  fetched_effect-same (Some f) same = refl
  fetched_effect-same None same =
      let word : ℕ = number_at s.memory (pc_of s) 4 in
      cond_both (is_in_ram s.memory (pc_of s) 4) (Ok word) (Err (fault cause.FetchAccess (pc_of s)))
      (λ r. fetched_effect r (elsewise s m x) ≡ fetched_effect r s)
      (λ inside. decoded_effect-same (insn_of word) word (λ insn read. record { passes = same; inside = inside; read = read }))
      (λ _. refl)

  decided-same : (o : Option Interrupt) → decided o (elsewise s m x) ≡ decided o s
  decided-same (Some interrupt) = refl
  decided-same None =
      ap (λ r. fetched_effect r (elsewise s m x)) (fetch-fetched (elsewise s m x) ∙ fetched-same (fetch_fault s.scrs.pcc) refl)
      ∙ fetched_effect-same (fetch_fault s.scrs.pcc) refl ∙ ap (λ r. fetched_effect r s) (sym (fetch-fetched s))

  pub elsewise-same : step_effect (elsewise s m x) ≡ step_effect s
  unfolding step_effect
  elsewise-same = decided-same (pending s.csrs (interrupts_of s.devices))

pub step_effect-same : (s t : State) → SameLooks s t → step_effect t ≡ step_effect s
step_effect-same s t looks =
    let is : t ≡ elsewise s t.memory t.scrs = is_elsewise s t looks.registers looks.pcc looks.ddc looks.csrs looks.devices in
    ap step_effect is ∙ elsewise-same s t.memory t.scrs (subst (SameLooks s) is looks)
