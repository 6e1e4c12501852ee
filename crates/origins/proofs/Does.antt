-- What the instructions do, by kind: each effect carries what the making says.
use Rattle.std.proofs.Common.{◌≡◌, ℕ, ◌+◌, ◌%◌, ◌^◌, true, false, eqb, refl, subst, if◌then◌else◌}
use Rattle.std.proofs.lemmas.Bool.{cond_both}
use Rattle.base.specs.Size.{bytes_of}
use Rattle.base.specs.declared.size.Size.{Size}
use Rattle.alu.specs.Integer.{branch_result}
use Rattle.cap_bounds.specs.CapValue.{CapValue, integer}
use Rattle.cap_bounds.specs.SetAddress.{at_address}
use Rattle.cap_checks.specs.FirstFault.{jump_target}
use Rattle.cap_insns.specs.CapabilityRows.{row_value}
use Rattle.cap_rights.specs.Opened.{opened}
use Rattle.origins.specs.declared.place.Place.TheVariants as place
use Rattle.special_regs.specs.Scrs.{scr_value}
use Rattle.tagged_memory.specs.Memory.{is_in_ram}
use Rattle.isa_rows.specs.Kind.{kind_of}
use Rattle.isa_rows.specs.declared.kinds.Kind.{Kind}
use Rattle.isa_rows.specs.declared.kinds.Kind.TheVariants as kind
use Rattle.isa_rows.specs.declared.operands.Insn.{Insn}
use Rattle.isa_rows.specs.declared.rows.Row.{Row}
use Rattle.isa_rows.specs.declared.rows.Row.TheVariants as row
use Rattle.registers.specs.Registers.{register}
use Rattle.steps.specs.Accesses.{through_rs1, size_of}
use Rattle.steps.specs.ComputeRows.{integer_effect, mul_div_effect, capability_effect, auipc_effect, written_by}
use Rattle.steps.specs.JumpRows.{link_of, enter_done, jalr_target, sentry_link}
use Rattle.steps.specs.Looks.{in_capability_mode, next_of, number_in}
use Rattle.steps.specs.MemoryRows.{place_of, authority_of, authority_through, load_done, store_done}
use Rattle.steps.specs.MemoryRows.{load_capability_done, store_capability_done, stored_number, loaded_capability}
use Rattle.steps.specs.State.{State, pc_of}
use Rattle.steps.specs.Step.{does}
use Rattle.steps.specs.SystemRows.{csr_done, csr_held, csr_writes, special_done, special_held}
use Rattle.steps.specs.declared.effect.Effect.{Effect}
use Rattle.steps.specs.declared.effect.Effect.TheVariants.{Nothing, Write, Unseal, Store, StoreCapability, DeviceLoad, DeviceStore}
use Rattle.steps.specs.declared.effect.Effect.TheVariants.{Jump, Link, Enter, Special, Csr}
use Rattle.origins.specs.Made.{register_making, row_making, link_making, auipc_making, authority_place}
use Rattle.origins.specs.Making.{IsMade, loaded}
use Rattle.origins.specs.Places.{held, ddc}
use Rattle.origins.specs.declared.making.Making.{Making}
use Rattle.origins.specs.declared.making.Making.TheVariants.{Number, Linked, Moved}

-- what an effect carries, where it is what an instruction does that makes what it writes into its register in this way
abbrev pub Carries : Making → Insn → Effect CapValue → State → Type 0
Carries making insn (Write w) s = IsMade making s w.value
Carries making insn (Unseal w) s = IsMade making s w.value
Carries making insn (DeviceLoad l) s = IsMade making s l.value
Carries making insn (Link l) s = IsMade making s l.link
Carries making insn (Enter e) s = IsMade making s e.link × (e.code ≡ opened (register s.registers insn.rs1))
Carries making insn (Special w) s = IsMade making s w.old × (w.value ≡ register s.registers insn.rs1)
Carries making insn (Csr w) s = IsMade making s w.old
Carries making insn (StoreCapability w) s = w.value ≡ register s.registers insn.rs2
Carries making insn other s = Unit {0}

module _ (s : State) (insn : Insn) where
  -- ---- one row over capabilities

  row-carries : (r : Row)
      → Carries (row_making r insn s) insn
      (written_by r insn.rd (row_value r insn (register s.registers insn.rs1) (register s.registers insn.rs2) s.scrs.ddc)) s
  unfolding row_making row_value held
  row-carries row.CIncOffsetImm = refl
  row-carries row.CSetBoundsImm = refl
  row-carries row.CSetBounds = refl
  row-carries row.CSetBoundsExact = refl
  row-carries row.CSeal = refl
  row-carries row.CUnseal = refl
  row-carries row.CAndPerm = refl
  row-carries row.CSetFlags = refl
  row-carries row.CSetOffset = refl
  row-carries row.CSetAddr = refl
  row-carries row.CIncOffset = refl
  row-carries row.CSub = refl
  row-carries row.CTestSubset = refl
  row-carries row.CSetEqualExact = refl
  row-carries row.CGetPerm = refl
  row-carries row.CGetType = refl
  row-carries row.CGetBase = refl
  row-carries row.CGetLen = refl
  row-carries row.CGetTag = refl
  row-carries row.CGetSealed = refl
  row-carries row.CGetOffset = refl
  row-carries row.CGetFlags = refl
  row-carries row.Crrl = refl
  row-carries row.Cram = refl
  row-carries row.CClearTag = refl
  row-carries row.CGetAddr = refl
  row-carries row.CSealEntry = refl
  row-carries _ = refl

  -- ---- links

  linked : IsMade (Linked (next_of s)) s (sentry_link s)
  unfolding held scr_value
  linked = refl

  link-made : IsMade (link_making s) s (link_of s)
  unfolding link_of
  link-made =
      elim (in_capability_mode s) as
      (λ b. IsMade (if b then Linked (next_of s) else Number) s (if b then sentry_link s else integer (next_of s)))
      [ true ↦ linked | false ↦ refl ]

  jalr-carries : Carries (link_making s) insn (does kind.Jalr insn s) s
  unfolding does link_of
  jalr-carries =
      elim (in_capability_mode s) as
      (λ b. Carries (if b then Linked (next_of s) else Number) insn
      (if b then enter_done insn s
      else (Link (record { rd = insn.rd; link = if b then sentry_link s else integer (next_of s); target = jalr_target insn s }))) s)
      [ true ↦ (linked, refl) | false ↦ refl ]

  -- ---- others

  auipc-carries : Carries (auipc_making insn s) insn (auipc_effect insn s) s
  unfolding auipc_effect held scr_value
  auipc-carries =
      elim (in_capability_mode s) as
      (λ b. IsMade (if b then Moved (place.Special 0) ((pc_of s + insn.imm) % 2 ^ 64) else Number) s
      (if b then at_address s.scrs.pcc ((pc_of s + insn.imm) % 2 ^ 64) else integer ((pc_of s + insn.imm) % 2 ^ 64)))
      [ true ↦ refl | false ↦ refl ]

  load-carries : (address : ℕ) (size : Size) → Carries Number insn (load_done insn address size s) s
  unfolding load_done
  load-carries address size =
      cond_both (is_in_ram s.memory address (bytes_of size)) _ _ (λ e. Carries Number insn e s) (λ _. refl) (λ _. refl)

  store-carries : (address : ℕ) (size : Size) (number : ℕ) → Carries Number insn (store_done address size number s) s
  unfolding store_done
  store-carries address size number =
      cond_both (is_in_ram s.memory address (bytes_of size)) (Store (stored_number address size number))
      (DeviceStore (stored_number address size number)) (λ e. Carries Number insn e s) (λ _. tt) (λ _. tt)

  authority-held : held (authority_place insn s) s ≡ authority_of insn s
  unfolding held scr_value
  authority-held =
      elim (through_rs1 insn.row (in_capability_mode s)) as
      (λ b. held (if b then place.Register insn.rs1 else ddc) s ≡ authority_through b insn s) [ true ↦ refl | false ↦ refl ]

  csr-carries : (old : ℕ) → Carries Number insn (csr_done old insn s) s
  unfolding csr_done
  csr-carries old = cond_both (csr_writes insn.row insn.rs1) _ _ (λ e. Carries Number insn e s) (λ _. refl) (λ _. refl)

  special-carries : Carries (register_making kind.SpecialRw insn s) insn (does kind.SpecialRw insn s) s
  unfolding register_making does special_done held
  special-carries =
      cond_both (eqb insn.rs1 0) (Write (record { rd = insn.rd; value = special_held insn s }))
      (Special (record { rd = insn.rd; old = special_held insn s; number = insn.rs2; value = register s.registers insn.rs1 }))
      (λ e. Carries (register_making kind.SpecialRw insn s) insn e s) (λ _. refl) (λ _. (refl, refl))

  branch-carries : Carries Number insn (does kind.Branch insn s) s
  unfolding does
  branch-carries =
      cond_both (branch_result insn.row (number_in s insn.rs1) (number_in s insn.rs2)) (Jump (jump_target (pc_of s) insn.imm)) Nothing
      (λ e. Carries Number insn e s) (λ _. tt) (λ _. tt)

  invoke-made : opened (register s.registers insn.rs2) ≡ opened (held (place.Register insn.rs2) s)
  unfolding held
  invoke-made = refl

  -- ---- all kinds

  pub kind-carries : (k : Kind) → kind_of insn.row ≡ k → Carries (register_making k insn s) insn (does k insn s) s
  unfolding register_making does integer_effect mul_div_effect capability_effect load_capability_done store_capability_done
  kind-carries kind.Integer is = refl
  kind-carries kind.MulDiv is = refl
  kind-carries kind.Capability is = row-carries insn.row
  kind-carries kind.Auipc is = auipc-carries
  kind-carries kind.Branch is = branch-carries
  kind-carries kind.Jal is = link-made
  kind-carries kind.Jalr is = jalr-carries
  kind-carries kind.JalrCap is = (linked, refl)
  kind-carries kind.Invoke is = (invoke-made, refl)
  kind-carries kind.Load is = load-carries (place_of insn s) (size_of insn.row)
  kind-carries kind.Store is = store-carries (place_of insn s) (size_of insn.row) (number_in s insn.rs2)
  kind-carries kind.LoadCapability is = subst (λ a. loaded_capability a (place_of insn s) s.memory
      ≡ loaded (place_of insn s) (held (authority_place insn s) s) s) authority-held refl
  kind-carries kind.StoreCapability is = refl
  kind-carries kind.Csr is = csr-carries (csr_held insn s)
  kind-carries kind.SpecialRw is = special-carries
  kind-carries kind.Mret is = tt
  kind-carries kind.Fence is = tt
  kind-carries kind.Ecall is = tt
  kind-carries kind.Ebreak is = tt
