-- What a followed step of the kernel's code does in each state that the known one stands for: the effect, one line a kind of row.
use Rattle.std.proofs.Common.{◌≡◌, ℕ, ◌≤◌, arith, Bool, true, false, cond, refl, sym, ap, ap₂, ◌∙◌, subst, length, inl, inr}
use Rattle.std.proofs.Common.{Option, None, Some, Result, Ok, Err}
use Rattle.std.proofs.lemmas.Bool.{true≢false}
use Rattle.base.specs.declared.fault.Fault.{Fault}
use Rattle.base.specs.declared.size.Size.{Size}
use Rattle.base.specs.Ram.{ram_base}
use Rattle.base.specs.Size.{bytes_of}
use Rattle.cap_bounds.specs.CapValue.{CapValue, integer, value_address, is_tagged}
use Rattle.cap_rights.specs.Rights.{IsInRightsOf}
use Rattle.cap_rights.specs.RightsLaws.{IsInRightsOf-trans, OpensType-outer}
use Rattle.cap_rights.specs.Derived.{IsMadeOf}
use Rattle.cap_checks.specs.FirstFault.{fetch_fault}
use Rattle.cap_checks.specs.Question.{fault_of, first_false}
use Rattle.cap_checks.specs.declared.access.Access.{Access}
use Rattle.cap_checks.specs.declared.access.Access.TheVariants as access
use Rattle.cap_insns.specs.CapabilityRows.{row_value}
use Rattle.cap_insns.specs.MadeLaws.{made-row_value}
use Rattle.devices.specs.Devices.{interrupts_of, value_at}
use Rattle.isa_rows.specs.declared.formats.Format.{Format}
use Rattle.isa_rows.specs.declared.formats.Format.TheVariants as format
use Rattle.isa_rows.specs.declared.kinds.Kind.{Kind}
use Rattle.isa_rows.specs.declared.kinds.Kind.TheVariants as kind
use Rattle.isa_rows.specs.declared.operands.Insn.{Insn}
use Rattle.isa_rows.specs.declared.rows.Row.{Row}
use Rattle.isa_rows.specs.declared.rows.Row.TheVariants as row
use Rattle.isa_rows.specs.Decoded.{insn_of}
use Rattle.isa_rows.specs.Kind.{kind_of}
use Rattle.isa_rows.specs.Line.{line_of}
use Rattle.alu.specs.Integer.{int_result}
use Rattle.registers.specs.Registers.{register}
use Rattle.special_regs.specs.declared.csrs.Csrs.{Csrs}
use Rattle.special_regs.specs.Interrupts.{pending}
use Rattle.tagged_memory.specs.Memory.{Memory, is_in_ram, number_at}
use Rattle.tagged_memory.specs.MemoryLaws.{in_ram}
use Rattle.steps.specs.Accesses.{size_of, through_rs1, loaded}
use Rattle.steps.specs.AskedLaws.{fetch-fetched}
use Rattle.steps.specs.ComputeRows.{second_of, integer_written, integer_effect, mul_div_effect, written_by, capability_effect, auipc_effect}
use Rattle.steps.specs.IsState.{IsState}
use Rattle.steps.specs.JumpRows.{link_of}
use Rattle.steps.specs.Looks.{number_in, unless_fault, where_all, in_capability_mode}
use Rattle.steps.specs.SystemRows.{special_asked, special_held, special_done, return_asked, return_done}
use Rattle.steps.specs.MemoryRows.{place_of, memory_asked, load_done, stored_number, store_done, load_capability_done}
use Rattle.steps.specs.MemoryRows.{store_capability_done}
use Rattle.steps.specs.RowEffects.{fetched}
use Rattle.steps.specs.State.{State, pc_of}
use Rattle.steps.specs.Step.{asked, does, kind_effect, fetch, fetches_from, decoded_effect, fetched_effect, decided, step_effect}
use Rattle.steps.specs.declared.effect.Effect.{Effect}
use Rattle.steps.specs.declared.effect.Store.{Store as StoredNumber}
use Rattle.steps.specs.declared.effect.Effect.TheVariants as effect
use Rattle.authority.specs.SameBytesLaws.{number_at-same, word_at-same}
use Rattle.authority.specs.SameEffectLaws.{in_ram-same, step_effect-same}
use Rattle.authority.specs.WorldLooks.{IsNext, SameLooks}
use Rattle.doors.specs.Closed.{IsGroundedBy}
use Rattle.doors.specs.Sets.{IsCoveredBy, by_member}
use Rattle.doors.specs.SetLaws.{IsGroundedIfTaggedBy, grounded_by-derived}
use Rattle.every_run.specs.declared.marks.Marks.{Marks}
use Rattle.every_run.specs.Handled.{unknown_in, IsSeen, IsSameKnown, LooksAtExact, IsAmong, GivesAmong, IsDone, IsDeviceStore}
use Rattle.every_run.specs.Stands.{AreKnown, IsKnownData}

grounded_by-covered : (P : CapValue → Type 0) (v c : CapValue) → IsInRightsOf v c → IsGroundedBy P c → IsCoveredBy P v
grounded_by-covered P v c within g = record {
  source = g.covered.source;
  member = g.covered.member;
  within = IsInRightsOf-trans v c g.covered.source within g.covered.within;
}

-- ---- the word that is fetched

pub pending-off : (c : Csrs) (mip : ℕ) → c.mstatus_mie ≡ false → pending c mip ≡ None
unfolding pending
pending-off c mip off = rw off refl

-- the effect of the instruction that a word is
pub effect-fetched : (x : State) (word : ℕ) (insn : Insn) → x.csrs.mstatus_mie ≡ false → fetch x ≡ Ok word → insn_of word ≡ Some insn
    → step_effect x ≡ kind_effect (kind_of insn.row) word insn x
unfolding step_effect
effect-fetched x word insn off read decoded =
    ap (λ p. decided p x) (pending-off x.csrs (interrupts_of x.devices) off)
    ∙ ap (λ r. fetched_effect r x) read
    ∙ ap (λ o. decoded_effect o word x) decoded

ok-same : (b : Bool) (x y : ℕ) (refused : Result ℕ Fault) → (b ≡ true → x ≡ y) → cond b (Ok x) refused ≡ cond b (Ok y) refused
ok-same true x y refused same = ap (λ n. Ok n) (same refl)
ok-same false x y refused same = refl

next-fetch : (a : State) (insn : Insn) → IsNext a insn → fetch a ≡ Ok (number_at a.memory (pc_of a) 4)
unfolding fetched
next-fetch a insn next =
    fetch-fetched a ∙ ap (λ f. fetched f a) next.passes
    ∙ ap (λ b. cond b (Ok (number_at a.memory (pc_of a) 4)) (Err (fault_of ((fetches_from a).question)))) next.inside

module _ (Known : ℕ → Type 0) (a : State) (m : Memory) (same : IsSameKnown Known a.memory m) where
  known-number : (address size : ℕ) → is_in_ram a.memory address size ≡ true → AreKnown Known address size
      → number_at m address size ≡ number_at a.memory address size
  known-number address size inside known =
      number_at-same a.memory m address size (record {
        inside = inside;
        length = same.size;
        bytes = λ b low high. same.bytes b (let base : ram_base ≤ address = (in_ram a.memory address size inside).0 in omega arith)
            (known b low high);
      })

  abbrev shown : State
  shown = record a { memory = m }

  fetched-shown : AreKnown Known (pc_of a) 4 → (f : Option Fault) → fetched f shown ≡ fetched f a
  unfolding fetched
  fetched-shown known (Some f) = refl
  fetched-shown known None =
      let refused : Result ℕ Fault = Err (fault_of ((fetches_from a).question)) in
      ap (λ b. cond b (Ok (number_at m (pc_of a) 4)) refused) (in_ram-same a.memory m (pc_of a) 4 same.size)
      ∙ ok-same (is_in_ram a.memory (pc_of a) 4) (number_at m (pc_of a) 4) (number_at a.memory (pc_of a) 4) refused
      (λ inside. known-number (pc_of a) 4 inside known)

  fetch-shown : AreKnown Known (pc_of a) 4 → fetch shown ≡ fetch a
  fetch-shown known = fetch-fetched shown ∙ fetched-shown known (fetch_fault a.scrs.pcc) ∙ sym (fetch-fetched a)

  looks-load : (k : Kind) (insn : Insn) → k ≡ kind.Load → LooksAtExact Known k insn a
      → IsKnownData Known a.memory (place_of insn a) (bytes_of (size_of insn.row))
  looks-load k insn is looks = (subst (λ x. LooksAtExact Known x insn a) is looks).1

  looks-capability : (k : Kind) (insn : Insn) → k ≡ kind.LoadCapability → LooksAtExact Known k insn a
      → IsKnownData Known a.memory (place_of insn a) 16
  looks-capability k insn is looks = (subst (λ x. LooksAtExact Known x insn a) is looks).1

  module _ (word : ℕ) (insn : Insn) (read : fetch a ≡ Ok word) (decoded : insn_of word ≡ Some insn)
      (looks : LooksAtExact Known (kind_of insn.row) insn a) (known : AreKnown Known (pc_of a) 4) where
    same-insn : (other : Insn) → IsNext a other → insn ≡ other
    same-insn other next =
        let words : Ok word ≡ Ok (number_at a.memory (pc_of a) 4) = sym read ∙ next-fetch a other next in
        let numbers : word ≡ number_at a.memory (pc_of a) 4 = cc in
        let both : Some insn ≡ Some other = sym decoded ∙ ap insn_of numbers ∙ next.read in
        cc

    looks-next : (other : Insn) → IsNext a other → LooksAtExact Known (kind_of other.row) other a
    looks-next other next = subst (λ x. LooksAtExact Known (kind_of x.row) x a) (same-insn other next) looks

    same-looks : SameLooks a shown
    same-looks = record {
      registers = refl;
      pcc = refl;
      ddc = refl;
      csrs = refl;
      devices = refl;
      size = same.size;
      word = λ passes inside. known-number (pc_of a) 4 inside known;
      number = λ other loads.
          let look = looks-load (kind_of other.row) other loads.row (looks-next other loads.next) in
          known-number (place_of other a) (bytes_of (size_of other.row)) look.inside look.known;
      granule = λ other loads.
          let look = looks-capability (kind_of other.row) other loads.row (looks-next other loads.next) in
          word_at-same a.memory m (place_of other a) (record {
            inside = look.inside;
            length = same.size;
            bytes = λ b low high.
                same.bytes b (let base : ram_base ≤ place_of other a = (in_ram a.memory (place_of other a) 16 look.inside).0 in omega arith)
                (look.known b low high);
          });
      tag = λ other loads permitted.
          same.tags (place_of other a) (looks-capability (kind_of other.row) other loads.row (looks-next other loads.next)).known;
      scrs = λ passes has. record { mtcc = refl; mtdc = refl; mscratchc = refl; mepcc = refl };
    }

    pub step-shown : step_effect shown ≡ step_effect a
    step-shown = step_effect-same a shown same-looks

-- ---- another state with the same two registers and the same PCC

row-same : (r : Row) (insn : Insn) (x y d e : CapValue) → (r ≡ row.CTestSubset → ⊥) → row_value r insn x y d ≡ row_value r insn x y e
unfolding row_value
row-same row.CIncOffsetImm insn x y d e other = refl
row-same row.CSetBoundsImm insn x y d e other = refl
row-same row.CSetBounds insn x y d e other = refl
row-same row.CSetBoundsExact insn x y d e other = refl
row-same row.CSeal insn x y d e other = refl
row-same row.CUnseal insn x y d e other = refl
row-same row.CAndPerm insn x y d e other = refl
row-same row.CSetFlags insn x y d e other = refl
row-same row.CSetOffset insn x y d e other = refl
row-same row.CSetAddr insn x y d e other = refl
row-same row.CIncOffset insn x y d e other = refl
row-same row.CSub insn x y d e other = refl
row-same row.CTestSubset insn x y d e other = absurd (other refl)
row-same row.CSetEqualExact insn x y d e other = refl
row-same row.CGetPerm insn x y d e other = refl
row-same row.CGetType insn x y d e other = refl
row-same row.CGetBase insn x y d e other = refl
row-same row.CGetLen insn x y d e other = refl
row-same row.CGetTag insn x y d e other = refl
row-same row.CGetSealed insn x y d e other = refl
row-same row.CGetOffset insn x y d e other = refl
row-same row.CGetFlags insn x y d e other = refl
row-same row.Crrl insn x y d e other = refl
row-same row.Cram insn x y d e other = refl
row-same row.CMove insn x y d e other = refl
row-same row.CClearTag insn x y d e other = refl
row-same row.CGetAddr insn x y d e other = refl
row-same row.CSealEntry insn x y d e other = refl
row-same _ insn x y d e other = refl

module _ (Known : ℕ → Type 0) (a s : State) (insn : Insn) (one : register s.registers insn.rs1 ≡ register a.registers insn.rs1)
    (two : register s.registers insn.rs2 ≡ register a.registers insn.rs2) (pcc : s.scrs.pcc ≡ a.scrs.pcc)
    (size : length s.memory.bytes ≡ length a.memory.bytes) where
  abbrev t : State
  t = record a { memory = s.memory }

  second-same : (f : Format) → second_of s insn f ≡ second_of t insn f
  second-same format.Register = ap value_address two
  second-same _ = refl

  integer-same : integer_effect insn s ≡ integer_effect insn t
  unfolding integer_effect
  integer-same =
      ap₂ (λ x y. integer_written insn.rd (int_result insn.row x y)) (ap value_address one) (second-same (line_of insn.row).format)

  capability-same : (insn.row ≡ row.CTestSubset → ⊥) → capability_effect insn s ≡ capability_effect insn t
  unfolding capability_effect
  capability-same other =
      ap (λ x. written_by insn.row insn.rd (row_value insn.row insn x (register s.registers insn.rs2) s.scrs.ddc)) one
      ∙ ap (λ y. written_by insn.row insn.rd (row_value insn.row insn (register a.registers insn.rs1) y s.scrs.ddc)) two
      ∙ ap (written_by insn.row insn.rd)
      (row-same insn.row insn (register a.registers insn.rs1) (register a.registers insn.rs2) s.scrs.ddc a.scrs.ddc other)

  module _ (through : through_rs1 insn.row (in_capability_mode a) ≡ true) where
    asked-same : (what : Access) → memory_asked what insn s ≡ memory_asked what insn t
    asked-same (access.Load width) = rw (one, pcc, through) refl
    asked-same (access.Store width) = rw (one, pcc, through) refl
    asked-same access.LoadCapability = rw (one, pcc, through) refl
    asked-same (access.StoreCapability stored) = rw (one, pcc, through) refl

    load-same : (address : ℕ) (width : Size) → is_in_ram a.memory address (bytes_of width) ≡ true
        → load_done insn address width s ≡ load_done insn address width t
    unfolding load_done
    load-same address width inside =
        let write : Effect CapValue =
        effect.Write (record { rd = insn.rd; value = integer (loaded insn.row width (number_at s.memory address (bytes_of width))) }) in
        let from : State → Effect CapValue =
        λ x. effect.DeviceLoad (record { rd = insn.rd; value = integer (value_at address x.devices); address = address; size = width }) in
        let there = in_ram-same a.memory s.memory address (bytes_of width) size ∙ inside in
        ap (λ b. cond b write (from s)) there ∙ sym (ap (λ b. cond b write (from t)) there)

  kind-same : (k : Kind) (word : ℕ) → LooksAtExact Known k insn a → kind_effect k word insn s ≡ kind_effect k word insn t
  unfolding kind_effect asked does mul_div_effect auipc_effect link_of store_done load_capability_done store_capability_done
  kind-same kind.Integer word looks = integer-same
  kind-same kind.MulDiv word looks = rw (one, two) refl
  kind-same kind.Capability word looks = capability-same looks
  kind-same kind.Auipc word looks = rw pcc refl
  kind-same kind.Branch word looks = rw (one, two, pcc) refl
  kind-same kind.Jal word looks = rw pcc refl
  kind-same kind.Jalr word looks = rw (one, pcc) refl
  kind-same kind.JalrCap word looks = rw (one, pcc) refl
  kind-same kind.Invoke word looks = rw (one, two) refl
  kind-same kind.Load word looks =
      ap₂ where_all (asked-same looks.0 (access.Load (size_of insn.row)))
      (ap (λ place. load_done insn place (size_of insn.row) s) (rw one refl)
      ∙ load-same looks.0 (place_of insn t) (size_of insn.row) looks.1.inside)
  kind-same kind.Store word looks = rw (one, two, pcc, looks) refl
  kind-same kind.LoadCapability word looks = let through = looks.0 in rw (one, pcc, through) refl
  kind-same kind.StoreCapability word looks = rw (one, two, pcc, looks) refl
  kind-same kind.Csr word looks = absurd looks
  kind-same kind.SpecialRw word looks = absurd looks
  kind-same kind.Mret word looks = absurd looks
  kind-same kind.Fence word looks = refl
  kind-same kind.Ecall word looks = refl
  kind-same kind.Ebreak word looks = rw pcc refl

-- ---- what is the same, and what may be anything of the set

-- the fetch of another state with the same PCC
module _ (Known : ℕ → Type 0) (a s : State) (known : AreKnown Known (pc_of a) 4) (pcc : s.scrs.pcc ≡ a.scrs.pcc)
    (memory : IsSameKnown Known a.memory s.memory) where
  fetched-there : (f : Option Fault) → fetched f s ≡ fetched f (record a { memory = s.memory })
  unfolding fetched
  fetched-there (Some f) = refl
  fetched-there None = rw pcc refl

  pub fetch-there : fetch s ≡ fetch a
  fetch-there =
      fetch-fetched s ∙ ap (λ p. fetched (fetch_fault p) s) pcc ∙ fetched-there (fetch_fault a.scrs.pcc)
      ∙ sym (fetch-fetched (record a { memory = s.memory })) ∙ fetch-shown Known a s.memory memory known

module _ (P : CapValue → Type 0) (Known : ℕ → Type 0) (a s : State) (marks : Marks) (word : ℕ) (insn : Insn)
    (read : fetch a ≡ Ok word) (decoded : insn_of word ≡ Some insn) (known : AreKnown Known (pc_of a) 4)
    (off : a.csrs.mstatus_mie ≡ false) (off_there : s.csrs.mstatus_mie ≡ false) (pcc : s.scrs.pcc ≡ a.scrs.pcc)
    (memory : IsSameKnown Known a.memory s.memory)
    (seen : (n : ℕ) → IsSeen P (unknown_in marks n) (register a.registers n) (register s.registers n)) where
  exact-register : (n : ℕ) → unknown_in marks n ≡ false → register s.registers n ≡ register a.registers n
  exact-register n exact = subst (λ b. IsSeen P b (register a.registers n) (register s.registers n)) exact (seen n)

  abbrev with_memory : State
  with_memory = record a { memory = s.memory }

  read-there : fetch s ≡ Ok word
  read-there = fetch-there Known a s known pcc memory ∙ read

  effect-there : step_effect s ≡ kind_effect (kind_of insn.row) word insn s
  effect-there = effect-fetched s word insn off_there read-there decoded

  effect-here : step_effect a ≡ kind_effect (kind_of insn.row) word insn a
  effect-here = effect-fetched a word insn off read decoded

  -- an instruction that looks at what is exact has the same effect
  pub exact-effect : LooksAtExact Known (kind_of insn.row) insn a → unknown_in marks insn.rs1 ≡ false → unknown_in marks insn.rs2 ≡ false
      → step_effect s ≡ step_effect a
  exact-effect looks one two =
      effect-there
      ∙ kind-same Known a s insn (exact-register insn.rs1 one) (exact-register insn.rs2 two) pcc memory.size (kind_of insn.row) word looks
      ∙ sym (effect-fetched with_memory word insn off (fetch-shown Known a s.memory memory known ∙ read) decoded)
      ∙ step-shown Known a s.memory memory word insn read decoded looks known

  -- ---- a store of any number into a device register

  device-by : (f : Option Fault) (b : Bool) (x y u v : StoredNumber)
      → IsDeviceStore (unless_fault f (cond b (effect.Store x) (effect.DeviceStore y)))
      → unless_fault f (cond b (effect.Store u) (effect.DeviceStore v)) ≡ effect.DeviceStore v
  device-by None false x y u v is = refl
  device-by None true x y u v is = absurd is
  device-by (Some f) b x y u v is = absurd is

  store-asked : (width : Size) → register s.registers insn.rs1 ≡ register a.registers insn.rs1
      → through_rs1 insn.row (in_capability_mode a) ≡ true
      → memory_asked (access.Store width) insn s ≡ memory_asked (access.Store width) insn a
  store-asked width one through =
      rw (one, pcc, through, in_ram-same a.memory s.memory (place_of insn a) (bytes_of width) memory.size) refl

  -- it is a store into a device register here and there, at the same address
  pub record StoresAmong : Type 0 where
    pub address : ℕ
    pub width : Size
    pub here : ℕ
    pub there : ℕ
    pub effect_here : step_effect a ≡ effect.DeviceStore (stored_number address width here)
    pub effect_there : step_effect s ≡ effect.DeviceStore (stored_number address width there)

  module _ (is : kind_of insn.row ≡ kind.Store) (one : register s.registers insn.rs1 ≡ register a.registers insn.rs1)
      (through : through_rs1 insn.row (in_capability_mode a) ≡ true) where
    abbrev width : Size
    width = size_of insn.row

    abbrev place : ℕ
    place = place_of insn a

    abbrev stored : ℕ → Effect CapValue
    stored number =
        where_all (memory_asked (access.Store width) insn a)
        (cond (is_in_ram a.memory place (bytes_of width)) (effect.Store (stored_number place width number))
        (effect.DeviceStore (stored_number place width number)))

    store-here : step_effect a ≡ stored (number_in a insn.rs2)
    unfolding kind_effect asked does store_done
    store-here = effect-here ∙ ap (λ k. kind_effect k word insn a) is

    done-there : store_done (place_of insn s) width (number_in s insn.rs2) s
        ≡ cond (is_in_ram a.memory place (bytes_of width)) (effect.Store (stored_number place width (number_in s insn.rs2)))
        (effect.DeviceStore (stored_number place width (number_in s insn.rs2)))
    unfolding store_done
    done-there = rw (one, in_ram-same a.memory s.memory place (bytes_of width) memory.size) refl

    store-there : step_effect s ≡ stored (number_in s insn.rs2)
    unfolding kind_effect asked does
    store-there =
        effect-there ∙ ap (λ k. kind_effect k word insn s) is ∙ ap₂ where_all (store-asked width one through) done-there

    stores : IsDeviceStore (step_effect a) → StoresAmong
    stores device =
        let x : StoredNumber = stored_number place width (number_in a insn.rs2) in
        let y : StoredNumber = stored_number place width (number_in s insn.rs2) in
        let f : Option Fault = first_false (memory_asked (access.Store width) insn a) in
        let there : IsDeviceStore (stored (number_in a insn.rs2)) = subst IsDeviceStore store-here device in
        record {
          address = place;
          width = width;
          here = number_in a insn.rs2;
          there = number_in s insn.rs2;
          effect_here = store-here ∙ device-by f (is_in_ram a.memory place (bytes_of width)) x x x x there;
          effect_there = store-there ∙ device-by f (is_in_ram a.memory place (bytes_of width)) x x y y there;
        }

  pub stores-among : kind_of insn.row ≡ kind.Store → unknown_in marks insn.rs1 ≡ false
      → through_rs1 insn.row (in_capability_mode a) ≡ true → IsDeviceStore (step_effect a) → StoresAmong
  stores-among is exact through device = stores is (exact-register insn.rs1 exact) through device

  -- ---- a special register that is read, and perhaps replaced

  unfaulted : (f : Option Fault) (x y : Effect CapValue) → IsDone (unless_fault f x) → unless_fault f y ≡ y
  unfaulted None x y done = refl
  unfaulted (Some f) x y done = absurd done

  special-asked : special_asked word insn s ≡ special_asked word insn a
  special-asked = rw pcc refl

  module _ (is : kind_of insn.row ≡ kind.SpecialRw) (done : IsDone (step_effect a)) where
    abbrev made : State → Effect CapValue
    made x = special_done (special_held insn x) insn x

    special-looked : step_effect a ≡ where_all (special_asked word insn a) (made a)
    unfolding kind_effect asked does
    special-looked = effect-here ∙ ap (λ k. kind_effect k word insn a) is

    special-follows : IsDone (where_all (special_asked word insn a) (made a))
    special-follows = subst IsDone special-looked done

    pub special-here : step_effect a ≡ made a
    special-here = special-looked ∙ unfaulted (first_false (special_asked word insn a)) (made a) (made a) special-follows

    pub special-there : step_effect s ≡ made s
    unfolding kind_effect asked does
    special-there =
        effect-there ∙ ap (λ k. kind_effect k word insn s) is ∙ ap (λ c. where_all c (made s)) special-asked
        ∙ unfaulted (first_false (special_asked word insn a)) (made a) (made s) special-follows

  -- ---- the return from the trap

  return-asked : return_asked word s ≡ return_asked word a
  return-asked = rw pcc refl

  module _ (is : kind_of insn.row ≡ kind.Mret) (done : IsDone (step_effect a)) where
    return-looked : step_effect a ≡ where_all (return_asked word a) (return_done a)
    unfolding kind_effect asked does
    return-looked = effect-here ∙ ap (λ k. kind_effect k word insn a) is

    pub return-there : step_effect s ≡ return_done s
    unfolding kind_effect asked does
    return-there =
        effect-there ∙ ap (λ k. kind_effect k word insn s) is ∙ ap (λ c. where_all c (return_done s)) return-asked
        ∙ unfaulted (first_false (return_asked word a)) (return_done a) (return_done s) (subst IsDone return-looked done)

  -- ---- a register that is written with anything of the set

  among : (n : ℕ) → IsAmong marks a n → IsGroundedIfTaggedBy P (register s.registers n)
  among n (inl unknown) = subst (λ b. IsSeen P b (register a.registers n) (register s.registers n)) unknown (seen n)
  among n (inr untagged) = by-mark (unknown_in marks n) (seen n) untagged
    where
      by-mark : (b : Bool) → IsSeen P b (register a.registers n) (register s.registers n) → is_tagged (register a.registers n) ≡ false
          → IsGroundedIfTaggedBy P (register s.registers n)
      by-mark true grounded bare = grounded
      by-mark false same bare = λ tagged. absurd (true≢false (sym tagged ∙ ap is_tagged same ∙ bare))

  made-grounded : (v c authority : CapValue) → IsMadeOf v c authority → is_tagged v ≡ true → IsGroundedIfTaggedBy P c
      → IsGroundedIfTaggedBy P authority → IsGroundedBy P v
  made-grounded v c authority (inl derived) tagged one two = grounded_by-derived P v c one (λ _. derived) tagged
  made-grounded v c authority (inr sealed) tagged one two =
      let whole = grounded_by-covered P v c sealed.within (one sealed.tagged) in
      let key = two sealed.by in
      record {
        covered = whole;
        seal = λ _. by_member key.covered.source key.covered.member
            (OpensType-outer authority key.covered.source _ key.covered.within sealed.opens);
      }

  -- it writes the register, here with one value and there with another
  pub record WritesAmong : Type 0 where
    pub here : CapValue
    pub there : CapValue
    pub effect_here : step_effect a ≡ effect.Write (record { rd = insn.rd; value = here })
    pub effect_there : step_effect s ≡ effect.Write (record { rd = insn.rd; value = there })
    pub grounded : IsGroundedIfTaggedBy P there

  written-other : (r : Row) (rd : ℕ) (v : CapValue) → (r ≡ row.CUnseal → ⊥)
      → written_by r rd v ≡ effect.Write (record { rd = rd; value = v })
  written-other row.CUnseal rd v other = absurd (other refl)
  written-other _ rd v other = refl

  writes : (k : Kind) → kind_of insn.row ≡ k → IsState s → GivesAmong k insn marks a → WritesAmong
  unfolding kind_effect asked does integer_effect mul_div_effect capability_effect
  writes kind.Integer is state gives = record {
    here = _;
    there = _;
    effect_here = effect-here ∙ ap (λ k. kind_effect k word insn a) is;
    effect_there = effect-there ∙ ap (λ k. kind_effect k word insn s) is;
    grounded = λ tagged. cc;
  }
  writes kind.MulDiv is state gives = record {
    here = _;
    there = _;
    effect_here = effect-here ∙ ap (λ k. kind_effect k word insn a) is;
    effect_there = effect-there ∙ ap (λ k. kind_effect k word insn s) is;
    grounded = λ tagged. cc;
  }
  writes kind.Capability is state gives = record {
    here = _;
    there = _;
    effect_here = effect-here ∙ ap (λ k. kind_effect k word insn a) is ∙ written-other insn.row insn.rd _ gives.0;
    effect_there = effect-there ∙ ap (λ k. kind_effect k word insn s) is ∙ written-other insn.row insn.rd _ gives.0;
    grounded = λ tagged.
        let x : CapValue = register s.registers insn.rs1 in
        let y : CapValue = register s.registers insn.rs2 in
        made-grounded (row_value insn.row insn x y s.scrs.ddc) x y
        (made-row_value insn.row insn x y s.scrs.ddc (state.values insn.rs1) gives.0 tagged) tagged (among insn.rs1 gives.1)
        (among insn.rs2 gives.2);
  }
  writes kind.Auipc is state gives = absurd gives
  writes kind.Branch is state gives = absurd gives
  writes kind.Jal is state gives = absurd gives
  writes kind.Jalr is state gives = absurd gives
  writes kind.JalrCap is state gives = absurd gives
  writes kind.Invoke is state gives = absurd gives
  writes kind.Load is state gives = absurd gives
  writes kind.Store is state gives = absurd gives
  writes kind.LoadCapability is state gives = absurd gives
  writes kind.StoreCapability is state gives = absurd gives
  writes kind.Csr is state gives = absurd gives
  writes kind.SpecialRw is state gives = absurd gives
  writes kind.Mret is state gives = absurd gives
  writes kind.Fence is state gives = absurd gives
  writes kind.Ecall is state gives = absurd gives
  writes kind.Ebreak is state gives = absurd gives

  pub among-effect : IsState s → GivesAmong (kind_of insn.row) insn marks a → WritesAmong
  among-effect state gives = writes (kind_of insn.row) refl state gives
