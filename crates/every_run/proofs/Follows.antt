-- A followed step leads from states that a known one stands for to states that the next one stands for: one line an effect.
use Rattle.std.proofs.Common.{◌≡◌, ℕ, ◌+◌, ◌%◌, ◌^◌, arith, Bool, true, false, eqb, cond, List, length, set}
use Rattle.std.proofs.Common.{refl, sym, ap, ◌∙◌}
use Rattle.std.proofs.Common.{Some, Ok, subst, inl, inr}
use Rattle.std.specs.Prelude.{is_some, slice_index_or}
use Rattle.std.proofs.lemmas.Bool.{cases_eq, cases_lt, cond_both}
use Rattle.std.proofs.lemmas.List.{get_or-set_same, get_or-set_other, get_or_past, length-set}
use Rattle.cap_bounds.specs.CapValue.{CapValue, value_address}
use Rattle.cap_bounds.specs.SetAddress.{at_address}
use Rattle.devices.specs.Devices.{Devices, halt, written}
use Rattle.base.specs.declared.registers.scr.TheConstants.{MTDC, MSCRATCHC, MEPCC}
use Rattle.isa_rows.specs.declared.operands.Insn.{Insn}
use Rattle.isa_rows.specs.Decoded.{insn_of}
use Rattle.special_regs.specs.Scrs.{scr_value}
use Rattle.special_regs.specs.Writes.{scr_written}
use Rattle.registers.specs.Registers.{register, null, with_register}
use Rattle.steps.specs.declared.effect.Effect.{Effect}
use Rattle.steps.specs.declared.effect.Store.{Store as StoredNumber}
use Rattle.steps.specs.declared.effect.Effect.TheVariants as effect
use Rattle.steps.specs.Effect.{applied, done_at}
use Rattle.steps.specs.IsState.{IsState}
use Rattle.steps.specs.State.{State, pc_of}
use Rattle.steps.specs.Step.{fetch, step_effect}
use Rattle.steps.specs.MemoryRows.{stored_number}
use Rattle.steps.specs.SystemRows.{special_held, special_done}
use Rattle.every_run.specs.declared.marks.Marks.{Marks}
use Rattle.every_run.specs.Handled.{unknown_in, marked, IsSeen, IsSameKnown, StandsAmong, LeavesExact, IsFollowed, by_exact}
use Rattle.every_run.specs.Handled.{by_among, by_special, by_store, MovesSpecial, reads_mtdc, reads_mscratchc, reads_mepcc}
use Rattle.every_run.specs.Handled.{swaps_mscratchc, swaps_mepcc}
use Rattle.every_run.specs.Stands.{AreKnown}
use Rattle.every_run.proofs.Looks.{exact-effect, among-effect, special-here, special-there, stores-among}

-- ---- registers

module _ (P : CapValue → Type 0) (xs ys : List CapValue) (ms : List Bool) (one : length xs ≡ 32) (two : length ys ≡ 32)
    (three : length ms ≡ 32)
    (seen : (k : ℕ) → IsSeen P (slice_index_or ms k false) (register xs k) (register ys k)) (rd : ℕ) (b : Bool) (v w : CapValue)
    (new : IsSeen P b v w) where
  abbrev Seen : List Bool → List CapValue → List CapValue → ℕ → Type 0
  Seen marks here there k = IsSeen P (slice_index_or marks k false) (register here k) (register there k)

  seen-by : (k : ℕ) (m n : Bool) (p q x y : CapValue) → m ≡ n → p ≡ q → x ≡ y → IsSeen P m p x → IsSeen P n q y
  seen-by k m n p q x y same here there is =
      subst (λ z. IsSeen P n q z) there (subst (λ z. IsSeen P n z x) here (subst (λ z. IsSeen P z p x) same is))

  seen-set : (k : ℕ) → Seen (set ms rd b) (set xs rd v) (set ys rd w) k
  seen-set k = elim (cases_eq k rd) [
    | inl same ↦ elim (cases_lt rd 32) [
      | inl below ↦ subst (Seen (set ms rd b) (set xs rd v) (set ys rd w)) (sym same)
          (seen-by rd _ _ _ _ _ _ (sym (get_or-set_same ms rd b false (omega (arith, three))))
          (sym (get_or-set_same xs rd v null (omega (arith, one)))) (sym (get_or-set_same ys rd w null (omega (arith, two)))) new)
      | inr past ↦ seen-by k _ _ _ _ _ _
          (sym (get_or_past (set ms rd b) k false (omega (arith, length-set ms rd b, three, same))))
          (sym (get_or_past (set xs rd v) k null (omega (arith, length-set xs rd v, one, same))))
          (sym (get_or_past (set ys rd w) k null (omega (arith, length-set ys rd w, two, same)))) (refl {a = null})
    ]
    | inr other ↦ seen-by k _ _ _ _ _ _ (sym (get_or-set_other ms rd k b false other)) (sym (get_or-set_other xs rd k v null other))
        (sym (get_or-set_other ys rd k w null other)) (seen k)
  ]

  pub seen-written : (k : ℕ) → Seen (cond (eqb rd 0) ms (set ms rd b)) (with_register xs rd v) (with_register ys rd w) k
  unfolding with_register
  seen-written k =
      elim (eqb rd 0) as (λ z. Seen (cond z ms (set ms rd b)) (cond z xs (set xs rd v)) (cond z ys (set ys rd w)) k) [
        | true ↦ seen k
        | false ↦ seen-set k
      ]

pub count-marked : (rd : ℕ) (b : Bool) (marks : Marks) → length marks.registers ≡ 32 → length (marked rd b marks).registers ≡ 32
count-marked rd b marks count =
    cond_both (eqb rd 0) marks.registers (set marks.registers rd b) (λ ms. length ms ≡ 32) (λ _. count)
    (λ _. length-set marks.registers rd b ∙ count)

-- ---- effects

module _ (P : CapValue → Type 0) (Known : ℕ → Type 0) (o : State) (marks : Marks) (a s : State) (st : StandsAmong P Known o marks a s)
    (is : IsState a) (is_there : IsState s) where
  -- an instruction is done in both, and writes a register in both
  pub stands-at : (ms : List Bool) (p q : ℕ) (xs ys : List CapValue) (x y : Devices) → length ms ≡ 32
      → ((n : ℕ) → IsSeen P (slice_index_or ms n false) (register xs n) (register ys n))
      → at_address s.scrs.pcc q ≡ at_address a.scrs.pcc p → (is_some x.halted ≡ true → is_some y.halted ≡ true)
      → StandsAmong P Known o (record marks { registers = ms }) (done_at p (record a { registers = xs; devices = x }))
      (done_at q (record s { registers = ys; devices = y }))
  stands-at ms p q xs ys x y count seen pcc halted = record {
    count = count;
    registers = seen;
    pcc = pcc;
    ddc = st.ddc;
    mtcc = st.mtcc;
    mtdc = st.mtdc;
    own_mtdc = st.own_mtdc;
    mscratchc = st.mscratchc;
    mepcc = st.mepcc;
    off = st.off;
    memory = st.memory;
    own_memory = st.own_memory;
    granules = st.granules;
    halted = halted;
  }

  pub next-pcc : at_address s.scrs.pcc ((pc_of s + 4) % 2 ^ 64) ≡ at_address a.scrs.pcc ((pc_of a + 4) % 2 ^ 64)
  next-pcc = ap (λ v. at_address v ((value_address v + 4) % 2 ^ 64)) st.pcc

  pub written-seen : (rd : ℕ) (b : Bool) (v w : CapValue) → IsSeen P b v w → (n : ℕ)
      → IsSeen P (unknown_in (marked rd b marks) n) (register (with_register a.registers rd v) n)
      (register (with_register s.registers rd w) n)
  written-seen rd b v w new n =
      seen-written P a.registers s.registers marks.registers is.registers.count is_there.registers.count st.count st.registers rd b v w new
      n

  pub halted-stored : (address m n : ℕ) → is_some (written a.devices address m).halted ≡ true
      → is_some (written s.devices address n).halted ≡ true
  unfolding written
  halted-stored address m n = elim (eqb address halt) as
      (λ z. is_some (cond z (Some m) a.devices.halted) ≡ true → is_some (cond z (Some n) s.devices.halted) ≡ true) [
        | true ↦ λ _. refl
        | false ↦ st.halted
      ]

  pub stands-written : (rd : ℕ) (b : Bool) (v w : CapValue) → IsSeen P b v w
      → StandsAmong P Known o (marked rd b marks) (applied (effect.Write (record { rd = rd; value = v })) a)
      (applied (effect.Write (record { rd = rd; value = w })) s)
  unfolding applied
  stands-written rd b v w new =
      stands-at (marked rd b marks).registers _ _ (with_register a.registers rd v) (with_register s.registers rd w) a.devices s.devices
      (count-marked rd b marks st.count) (written-seen rd b v w new) next-pcc st.halted

  pub stands-stored : (w x : StoredNumber) → x.address ≡ w.address
      → StandsAmong P Known o marks (applied (effect.DeviceStore w) a) (applied (effect.DeviceStore x) s)
  unfolding applied
  stands-stored w x same =
      stands-at marks.registers _ _ a.registers s.registers (written a.devices w.address w.number) (written s.devices x.address x.number)
      st.count st.registers next-pcc
      (subst (λ p. is_some (written a.devices w.address w.number).halted ≡ true → is_some (written s.devices p x.number).halted ≡ true)
      (sym same) (halted-stored w.address w.number x.number))

  pub stands-exact : (e : Effect CapValue) (later : Marks) → LeavesExact e marks later
      → StandsAmong P Known o later (applied e a) (applied e s)
  unfolding applied
  stands-exact effect.Nothing later leaves =
      subst (λ m. StandsAmong P Known o m (applied effect.Nothing a) (applied effect.Nothing s)) (sym leaves)
      (stands-at marks.registers _ _ a.registers s.registers a.devices s.devices st.count st.registers next-pcc st.halted)
  stands-exact (effect.Write w) later leaves =
      subst (λ m. StandsAmong P Known o m (applied (effect.Write w) a) (applied (effect.Write w) s)) (sym leaves)
      (stands-written w.rd false w.value w.value refl)
  stands-exact (effect.DeviceStore w) later leaves =
      subst (λ m. StandsAmong P Known o m (applied (effect.DeviceStore w) a) (applied (effect.DeviceStore w) s)) (sym leaves)
      (stands-stored w w refl)
  stands-exact (effect.Jump target) later leaves =
      subst (λ m. StandsAmong P Known o m (applied (effect.Jump target) a) (applied (effect.Jump target) s)) (sym leaves)
      (stands-at marks.registers target target a.registers s.registers a.devices s.devices st.count st.registers
      (ap (λ v. at_address v target) st.pcc) st.halted)
  stands-exact (effect.Link l) later leaves =
      subst (λ m. StandsAmong P Known o m (applied (effect.Link l) a) (applied (effect.Link l) s)) (sym leaves)
      (stands-at (marked l.rd false marks).registers l.target l.target (with_register a.registers l.rd l.link)
      (with_register s.registers l.rd l.link) a.devices s.devices (count-marked l.rd false marks st.count)
      (written-seen l.rd false l.link l.link refl) (ap (λ v. at_address v l.target) st.pcc) st.halted)
  stands-exact (effect.Trap f) later leaves = absurd leaves
  stands-exact (effect.Unseal w) later leaves = absurd leaves
  stands-exact (effect.Store w) later leaves = absurd leaves
  stands-exact (effect.StoreCapability w) later leaves = absurd leaves
  stands-exact (effect.DeviceLoad l) later leaves = absurd leaves
  stands-exact (effect.Enter e) later leaves = absurd leaves
  stands-exact (effect.Special w) later leaves = absurd leaves
  stands-exact (effect.Csr w) later leaves = absurd leaves
  stands-exact (effect.Return sealed) later leaves = absurd leaves

  -- ---- a special register that is read or swapped

  pub stands-mscratchc : (rd : ℕ) (b : Bool) (v w : CapValue) → IsSeen P b v w
      → StandsAmong P Known o (record (marked rd marks.mscratchc marks) { mscratchc = b })
      (applied (effect.Special (record { rd = rd; old = a.scrs.mscratchc; number = MSCRATCHC; value = v })) a)
      (applied (effect.Special (record { rd = rd; old = s.scrs.mscratchc; number = MSCRATCHC; value = w })) s)
  unfolding applied scr_written
  stands-mscratchc rd b v w new = record {
    count = count-marked rd marks.mscratchc marks st.count;
    registers = written-seen rd marks.mscratchc a.scrs.mscratchc s.scrs.mscratchc st.mscratchc;
    pcc = next-pcc;
    ddc = st.ddc;
    mtcc = st.mtcc;
    mtdc = st.mtdc;
    own_mtdc = st.own_mtdc;
    mscratchc = new;
    mepcc = st.mepcc;
    off = st.off;
    memory = st.memory;
    own_memory = st.own_memory;
    granules = st.granules;
    halted = st.halted;
  }

  pub stands-mepcc : (rd : ℕ) (b : Bool) (v w : CapValue) → IsSeen P b v w
      → StandsAmong P Known o (record (marked rd marks.mepcc marks) { mepcc = b })
      (applied (effect.Special (record { rd = rd; old = a.scrs.mepcc; number = MEPCC; value = v })) a)
      (applied (effect.Special (record { rd = rd; old = s.scrs.mepcc; number = MEPCC; value = w })) s)
  unfolding applied scr_written
  stands-mepcc rd b v w new = record {
    count = count-marked rd marks.mepcc marks st.count;
    registers = written-seen rd marks.mepcc a.scrs.mepcc s.scrs.mepcc st.mepcc;
    pcc = next-pcc;
    ddc = st.ddc;
    mtcc = st.mtcc;
    mtdc = st.mtdc;
    own_mtdc = st.own_mtdc;
    mscratchc = st.mscratchc;
    mepcc = new;
    off = st.off;
    memory = st.memory;
    own_memory = st.own_memory;
    granules = st.granules;
    halted = st.halted;
  }

  module _ (insn : Insn) (later : Marks) where
    abbrev made : State → Effect CapValue
    made x = special_done (special_held insn x) insn x

    abbrev Stand : Effect CapValue → Effect CapValue → Marks → Type 0
    Stand e f m = StandsAmong P Known o m (applied e a) (applied f s)

    -- it reads
    read-special : (b : Bool) (v w : CapValue) → insn.rs1 ≡ 0 → special_held insn a ≡ v → special_held insn s ≡ w → IsSeen P b v w
        → later ≡ marked insn.rd b marks → Stand (made a) (made s) later
    unfolding special_done
    read-special b v w zero here there new same =
        let written : CapValue → Effect CapValue = λ x. effect.Write (record { rd = insn.rd; value = x }) in
        let one : made a ≡ written v = rw (zero, here) refl in
        let two : made s ≡ written w = rw (zero, there) refl in
        subst (λ e. Stand e (made s) later) (sym one)
        (subst (λ e. Stand (written v) e later) (sym two)
        (subst (λ m. Stand (written v) (written w) m) (sym same) (stands-written insn.rd b v w new)))

    abbrev swapped : ℕ → State → CapValue → Effect CapValue
    swapped n x old =
        effect.Special (record { rd = insn.rd; old = old; number = n; value = register x.registers insn.rs1 })

    is-swapped : (x : State) (n : ℕ) (old : CapValue) → insn.rs2 ≡ n → eqb insn.rs1 0 ≡ false → special_held insn x ≡ old
        → made x ≡ swapped n x old
    unfolding special_done
    is-swapped x n old number writes held = rw (writes, held, number) refl

    held-at : (x : State) (n : ℕ) (v : CapValue) → insn.rs2 ≡ n → scr_value x.scrs n ≡ Some v → special_held insn x ≡ v
    held-at x n v number is = rw (number, is) refl

    mscratchc-held : (x : State) → insn.rs2 ≡ MSCRATCHC → special_held insn x ≡ x.scrs.mscratchc
    unfolding scr_value
    mscratchc-held x number = held-at x MSCRATCHC x.scrs.mscratchc number refl

    mepcc-held : (x : State) → insn.rs2 ≡ MEPCC → special_held insn x ≡ x.scrs.mepcc
    unfolding scr_value
    mepcc-held x number = held-at x MEPCC x.scrs.mepcc number refl

    mtdc-held : (x : State) → insn.rs2 ≡ MTDC → special_held insn x ≡ x.scrs.mtdc
    unfolding scr_value
    mtdc-held x number = held-at x MTDC x.scrs.mtdc number refl

    pub stands-special : MovesSpecial insn marks later → Stand (made a) (made s) later
    stands-special (reads_mtdc number zero same) =
        read-special false a.scrs.mtdc s.scrs.mtdc zero (mtdc-held a number) (mtdc-held s number) (st.mtdc ∙ sym st.own_mtdc) same
    stands-special (reads_mscratchc number zero same) =
        read-special marks.mscratchc a.scrs.mscratchc s.scrs.mscratchc zero (mscratchc-held a number) (mscratchc-held s number)
        st.mscratchc same
    stands-special (reads_mepcc number zero same) =
        read-special marks.mepcc a.scrs.mepcc s.scrs.mepcc zero (mepcc-held a number) (mepcc-held s number) st.mepcc same
    stands-special (swaps_mscratchc number writes same) =
        subst (λ e. Stand e (made s) later) (sym (is-swapped a MSCRATCHC a.scrs.mscratchc number writes (mscratchc-held a number)))
        (subst (λ e. Stand (swapped MSCRATCHC a a.scrs.mscratchc) e later)
        (sym (is-swapped s MSCRATCHC s.scrs.mscratchc number writes (mscratchc-held s number)))
        (subst (λ m. Stand (swapped MSCRATCHC a a.scrs.mscratchc) (swapped MSCRATCHC s s.scrs.mscratchc) m) (sym same)
        (stands-mscratchc insn.rd (unknown_in marks insn.rs1) (register a.registers insn.rs1) (register s.registers insn.rs1)
        (st.registers insn.rs1))))
    stands-special (swaps_mepcc number writes same) =
        subst (λ e. Stand e (made s) later) (sym (is-swapped a MEPCC a.scrs.mepcc number writes (mepcc-held a number)))
        (subst (λ e. Stand (swapped MEPCC a a.scrs.mepcc) e later)
        (sym (is-swapped s MEPCC s.scrs.mepcc number writes (mepcc-held s number)))
        (subst (λ m. Stand (swapped MEPCC a a.scrs.mepcc) (swapped MEPCC s s.scrs.mepcc) m) (sym same)
        (stands-mepcc insn.rd (unknown_in marks insn.rs1) (register a.registers insn.rs1) (register s.registers insn.rs1)
        (st.registers insn.rs1))))

  -- ---- a step

  module _ (word : ℕ) (insn : Insn) (read : fetch a ≡ Ok word) (decoded : insn_of word ≡ Some insn)
      (known : AreKnown Known (pc_of a) 4) (off : a.csrs.mstatus_mie ≡ false) where
    own : IsSameKnown Known a.memory s.memory
    own = subst (λ m. IsSameKnown Known m s.memory) (sym st.own_memory) st.memory

    pub stands-followed : (later : Marks) → IsFollowed Known a insn marks later
        → StandsAmong P Known o later (applied (step_effect a) a) (applied (step_effect s) s)
    stands-followed later (by_exact looks one two leaves) =
        subst (λ e. StandsAmong P Known o later (applied (step_effect a) a) (applied e s))
        (sym (exact-effect P Known a s marks word insn read decoded known off st.off st.pcc own st.registers looks one two))
        (stands-exact (step_effect a) later leaves)
    stands-followed later (by_among gives same) =
        let both = among-effect P Known a s marks word insn read decoded known off st.off st.pcc own st.registers is_there gives in
        subst (λ e. StandsAmong P Known o later (applied e a) (applied (step_effect s) s)) (sym both.effect_here)
        (subst (λ e. StandsAmong P Known o later (applied (effect.Write (record { rd = insn.rd; value = both.here })) a) (applied e s))
        (sym both.effect_there)
        (subst (λ m. StandsAmong P Known o m (applied (effect.Write (record { rd = insn.rd; value = both.here })) a)
        (applied (effect.Write (record { rd = insn.rd; value = both.there })) s)) (sym same)
        (stands-written insn.rd true both.here both.there both.grounded)))
    stands-followed later (by_special row done moves) =
        let here = special-here P Known a s marks word insn read decoded known off st.off st.pcc own st.registers row done in
        let there = special-there P Known a s marks word insn read decoded known off st.off st.pcc own st.registers row done in
        subst (λ e. StandsAmong P Known o later (applied e a) (applied (step_effect s) s)) (sym here)
        (subst (λ e. StandsAmong P Known o later (applied (made insn later a) a) (applied e s)) (sym there)
        (stands-special insn later moves))
    stands-followed later (by_store row exact through device same) =
        let both =
        stores-among P Known a s marks word insn read decoded known off st.off st.pcc own st.registers row exact through device in
        let x : StoredNumber = stored_number both.address both.width both.here in
        let y : StoredNumber = stored_number both.address both.width both.there in
        subst (λ e. StandsAmong P Known o later (applied e a) (applied (step_effect s) s)) (sym both.effect_here)
        (subst (λ e. StandsAmong P Known o later (applied (effect.DeviceStore x) a) (applied e s)) (sym both.effect_there)
        (subst (λ m. StandsAmong P Known o m (applied (effect.DeviceStore x) a) (applied (effect.DeviceStore y) s)) (sym same)
        (stands-stored x y refl)))
