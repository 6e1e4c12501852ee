-- A step that looks at what is known alone is the same step from each state that the known one stands for: one line a kind of row and one
-- an effect.
use Rattle.std.proofs.Common.{◌≡◌, ℕ, ◌≤◌, arith, Bool, true, false, cond, refl, sym, ap, ◌∙◌, subst}
use Rattle.std.proofs.Common.{Option, None, Some, Result, Ok, Err}
use Rattle.std.specs.Prelude.{◌+◌, ◌*◌, ◌/◌, ◌^◌, ◌==◌, if◌then◌else◌, List, [], ◌∷◌, ◌++◌, bit_and, option_map, slice_index}
use Rattle.std.specs.Option.{option_or, unwrap_or}
use Rattle.base.specs.Bits.{bit}
use Rattle.base.specs.declared.registers.csr.TheConstants.{MSTATUS, MIE, MTVEC, MEPC, MCAUSE, MTVAL, MIP, MCYCLE, MINSTRET}
use Rattle.base.specs.declared.fault.Fault.{Fault}
use Rattle.base.specs.declared.size.Size.{Size}
use Rattle.base.specs.Ram.{ram_base}
use Rattle.base.specs.Size.{bytes_of}
use Rattle.cap_bounds.specs.CapValue.{CapValue, integer, word_of, is_tagged, value_address}
use Rattle.cap_checks.specs.FirstFault.{fetch_fault}
use Rattle.cap_checks.specs.Question.{fault_of, first_false}
use Rattle.cap_checks.specs.declared.access.Access.TheVariants as access
use Rattle.devices.specs.Devices.{Devices, interrupts_of, value_at, received, written}
use Rattle.isa_rows.specs.declared.kinds.Kind.{Kind}
use Rattle.isa_rows.specs.declared.kinds.Kind.TheVariants as kind
use Rattle.isa_rows.specs.declared.operands.Insn.{Insn}
use Rattle.isa_rows.specs.declared.rows.Row.{Row}
use Rattle.isa_rows.specs.declared.rows.Row.TheVariants.{Csrrwi, Csrrsi, Csrrci}
use Rattle.isa_rows.specs.Decoded.{insn_of}
use Rattle.isa_rows.specs.Kind.{kind_of}
use Rattle.special_regs.specs.declared.csrs.Csrs.{Csrs}
use Rattle.special_regs.specs.CsrValues.{csr_value, csr_values, listed_value, read_by}
use Rattle.special_regs.specs.Csrs.{holds_at, place_of as place_of_csr}
use Rattle.special_regs.specs.Interrupts.{pending}
use Rattle.special_regs.specs.Mtvec.{mtvec_of}
use Rattle.special_regs.specs.Numbered.{value_at as value_of_csr}
use Rattle.special_regs.specs.Scrs.{Scrs}
use Rattle.special_regs.specs.Writes.{csrs_written, has_bit, interrupt_bits, kept_written, mie_bit, mpie_bit}
use Rattle.tagged_memory.specs.AccessLaws.{in_ram-place_fault}
use Rattle.tagged_memory.specs.Memory.{Memory, is_in_ram, number_at}
use Rattle.tagged_memory.specs.MemoryLaws.{in_ram}
use Rattle.steps.specs.Accesses.{size_of, loaded}
use Rattle.steps.specs.AppliedLaws.{IsSoundEffect}
use Rattle.steps.specs.AskedLaws.{fetch-fetched}
use Rattle.steps.specs.ComputeRows.{integer_effect, mul_div_effect, capability_effect, auipc_effect}
use Rattle.steps.specs.Effect.{applied, counted}
use Rattle.steps.specs.Event.{after}
use Rattle.steps.specs.EventLaws.{step_effect-sound}
use Rattle.steps.specs.IsState.{IsState}
use Rattle.steps.specs.JumpRows.{link_of}
use Rattle.steps.specs.Looks.{where_all}
use Rattle.steps.specs.MemoryRows.{place_of, memory_asked, load_done, store_done, load_capability_done, store_capability_done}
use Rattle.steps.specs.RowEffects.{fetched}
use Rattle.steps.specs.State.{State, pc_of}
use Rattle.steps.specs.Step.{asked, does, kind_effect, fetch, fetch_asked, fetches_from, word_unless, decoded_effect}
use Rattle.steps.specs.Step.{fetched_effect, fetched_by}
use Rattle.steps.specs.Step.{insn_fetched, step_fetched, decided, step_effect, stepped_unless, stepped}
use Rattle.steps.specs.SystemRows.{csr_asked, csr_done, csr_held, csr_new, csr_number, csr_source, csr_writes, special_done}
use Rattle.steps.specs.declared.effect.Effect.{Effect}
use Rattle.steps.specs.declared.effect.Effect.TheVariants as effect
use Rattle.steps.specs.declared.event.Event.TheVariants.{Tick, Byte}
use Rattle.authority.specs.Authority.{SameCsrs}
use Rattle.authority.specs.SameBytesLaws.{number_at-same, word_at-same}
use Rattle.authority.specs.SameEffectLaws.{in_ram-same, step_effect-same}
use Rattle.authority.specs.WorldLooks.{IsNext, SameLooks}
use Rattle.every_run.specs.Stands.{IsSameWhere, StandsFor, AreKnown, LooksAtKnown, LeavesDevices, IsKnownStep, is_steady}
use Rattle.policy.proofs.Memories.{AreSameWhere, same-number, same-value}

-- ---- other control and status registers, and other devices

abbrev pub otherwise : State → Csrs → Devices → State
otherwise s c d = record s { csrs = c; devices = d }

-- what a steady register holds is the same beside other counters, whatever the devices ask for
values-same : (front : List (ℕ × ℕ)) (p q cycles others done more n : ℕ) → is_steady n ≡ true
    → value_of_csr n (front ++ ((MIP, q) ∷ (MCYCLE, others) ∷ (MINSTRET, more) ∷ []))
    ≡ value_of_csr n (front ++ ((MIP, p) ∷ (MCYCLE, cycles) ∷ (MINSTRET, done) ∷ []))
values-same [] p q cycles others done more n steady =
    elim (MIP == n) as (λ t. (MIP == n) ≡ t → value_of_csr n ((MIP, q) ∷ (MCYCLE, others) ∷ (MINSTRET, more) ∷ [])
    ≡ value_of_csr n ((MIP, p) ∷ (MCYCLE, cycles) ∷ (MINSTRET, done) ∷ [])) [
      | true ↦ λ e. let no : false ≡ true = rw e at steady in cc
      | false ↦ λ e. elim (MCYCLE == n) as (λ t. (MCYCLE == n) ≡ t → value_of_csr n ((MIP, q) ∷ (MCYCLE, others) ∷ (MINSTRET, more) ∷ [])
          ≡ value_of_csr n ((MIP, p) ∷ (MCYCLE, cycles) ∷ (MINSTRET, done) ∷ [])) [
            | true ↦ λ f. let no : false ≡ true = rw f at (rw e at steady) in cc
            | false ↦ λ f. elim (MINSTRET == n) as (λ t. (MINSTRET == n) ≡ t
                → value_of_csr n ((MIP, q) ∷ (MCYCLE, others) ∷ (MINSTRET, more) ∷ [])
                ≡ value_of_csr n ((MIP, p) ∷ (MCYCLE, cycles) ∷ (MINSTRET, done) ∷ [])) [
                  | true ↦ λ g. let no : false ≡ true = rw g at (rw f at (rw e at steady)) in cc
                  | false ↦ λ g. rw e (rw f (rw g refl))
                ] refl
          ] refl
    ] refl
values-same (entry ∷ front) p q cycles others done more n steady =
    ap (λ o. if entry.0 == n then Some entry.1 else o) (values-same front p q cycles others done more n steady)

-- the registers that are parts of the machine, but for those that aren't steady
abbrev steady-parts : Bool → Bool → ℕ → ℕ → ℕ → Scrs → List (ℕ × ℕ)
steady-parts mie mpie enabled cause value s =
    (MSTATUS, 3 * 2 ^ 11 + bit mpie * 2 ^ mpie_bit + bit mie * 2 ^ mie_bit) ∷ (MIE, enabled) ∷ (MTVEC, mtvec_of (value_address s.mtcc))
    ∷ (MEPC, value_address s.mepcc / 4 * 4) ∷ (MCAUSE, cause) ∷ (MTVAL, value) ∷ []

abbrev parts-of : Csrs → Scrs → List (ℕ × ℕ)
parts-of c s = steady-parts c.mstatus_mie c.mstatus_mpie c.mie c.mcause c.mtval s

parts-same : (x y : Csrs) (s : Scrs) → SameCsrs x y → parts-of y s ≡ parts-of x s
parts-same x y s same =
    ap (λ b. steady-parts b y.mstatus_mpie y.mie y.mcause y.mtval s) same.mstatus_mie
    ∙ ap (λ b. steady-parts x.mstatus_mie b y.mie y.mcause y.mtval s) same.mstatus_mpie
    ∙ ap (λ n. steady-parts x.mstatus_mie x.mstatus_mpie n y.mcause y.mtval s) same.mie
    ∙ ap (λ n. steady-parts x.mstatus_mie x.mstatus_mpie x.mie n y.mtval s) same.mcause
    ∙ ap (λ n. steady-parts x.mstatus_mie x.mstatus_mpie x.mie x.mcause n s) same.mtval

steady-value : (x y : Csrs) (s : Scrs) (p q n : ℕ) → SameCsrs x y → is_steady n ≡ true → csr_value y s q n ≡ csr_value x s p n
unfolding csr_value
steady-value x y s p q n same steady =
    ap (λ o. option_or o (listed_value y n)) (values-same (parts-of y s) p q x.mcycle y.mcycle x.minstret y.minstret n steady)
    ∙ ap (λ front. option_or (value_of_csr n (front ++ ((MIP, p) ∷ (MCYCLE, x.mcycle) ∷ (MINSTRET, x.minstret) ∷ []))) (listed_value y n))
    (parts-same x y s same)
    ∙ ap (λ kept. option_or (value_of_csr n (csr_values x s p))
    (option_map (λ holds. read_by holds (slice_index kept (place_of_csr n))) (holds_at n)))
    same.kept

module _ (s : State) (c : Csrs) (d : Devices) (insn : Insn) (csrs : SameCsrs s.csrs c) where
  load-otherwise : (address : ℕ) (size : Size) → is_in_ram s.memory address (bytes_of size) ≡ true
      → load_done insn address size (otherwise s c d) ≡ load_done insn address size s
  unfolding load_done
  load-otherwise address size inside =
      let write : Effect CapValue =
      effect.Write (record { rd = insn.rd; value = integer (loaded insn.row size (number_at s.memory address (bytes_of size))) }) in
      let from : Devices → Effect CapValue =
      λ e. effect.DeviceLoad (record { rd = insn.rd; value = integer (value_at address e); address = address; size = size }) in
      ap (λ b. cond b write (from d)) inside ∙ sym (ap (λ b. cond b write (from s.devices)) inside)

  source-otherwise : (row : Row) → csr_source row insn (otherwise s c d) ≡ csr_source row insn s
  unfolding csr_source
  source-otherwise Csrrwi = refl
  source-otherwise Csrrsi = refl
  source-otherwise Csrrci = refl
  source-otherwise _ = refl

  csr-otherwise : (old : ℕ) → csr_done old insn (otherwise s c d) ≡ csr_done old insn s
  unfolding csr_done
  csr-otherwise old =
      ap (λ source. cond (csr_writes insn.row insn.rs1) (effect.Csr (record {
        rd = insn.rd;
        old = integer old;
        number = csr_number insn;
        value = csr_new insn.row old source;
      })) (effect.Write (record { rd = insn.rd; value = integer old })))
      (source-otherwise insn.row)

  kind-otherwise : (k : Kind) (word : ℕ) → (k ≡ kind.Csr → is_steady (csr_number insn) ≡ true)
      → (k ≡ kind.Load → is_in_ram s.memory (place_of insn s) (bytes_of (size_of insn.row)) ≡ true)
      → kind_effect k word insn (otherwise s c d) ≡ kind_effect k word insn s
  unfolding kind_effect asked does integer_effect mul_div_effect capability_effect auipc_effect link_of store_done load_capability_done
      store_capability_done special_done
  kind-otherwise kind.Integer word steady inside = refl
  kind-otherwise kind.MulDiv word steady inside = refl
  kind-otherwise kind.Capability word steady inside = refl
  kind-otherwise kind.Auipc word steady inside = refl
  kind-otherwise kind.Branch word steady inside = refl
  kind-otherwise kind.Jal word steady inside = refl
  kind-otherwise kind.Jalr word steady inside = refl
  kind-otherwise kind.JalrCap word steady inside = refl
  kind-otherwise kind.Invoke word steady inside = refl
  kind-otherwise kind.Load word steady inside =
      ap (where_all (memory_asked (access.Load (size_of insn.row)) insn s))
      (load-otherwise (place_of insn s) (size_of insn.row) (inside refl))
  kind-otherwise kind.Store word steady inside = refl
  kind-otherwise kind.LoadCapability word steady inside = refl
  kind-otherwise kind.StoreCapability word steady inside = refl
  kind-otherwise kind.Csr word steady inside =
      ap (where_all (csr_asked word insn s)) (csr-otherwise (csr_held insn (otherwise s c d)))
      ∙ ap (λ o. where_all (csr_asked word insn s) (csr_done (unwrap_or o 0) insn s))
      (steady-value s.csrs c s.scrs (interrupts_of s.devices) (interrupts_of d) (csr_number insn) csrs (steady refl))
  kind-otherwise kind.SpecialRw word steady inside = refl
  kind-otherwise kind.Mret word steady inside = refl
  kind-otherwise kind.Fence word steady inside = refl
  kind-otherwise kind.Ecall word steady inside = refl
  kind-otherwise kind.Ebreak word steady inside = refl

pub pending-off : (c : Csrs) (mip : ℕ) → c.mstatus_mie ≡ false → pending c mip ≡ None
unfolding pending
pending-off c mip off = rw off refl

insn-fetched : (a : State) (word : ℕ) (insn : Insn) → a.csrs.mstatus_mie ≡ false → fetch a ≡ Ok word → insn_of word ≡ Some insn
    → insn_fetched (step_fetched a) ≡ Some insn
insn-fetched a word insn off read decoded =
    ap (λ p. insn_fetched (fetched_by p (fetch a))) (pending-off a.csrs (interrupts_of a.devices) off)
    ∙ ap (λ r. insn_fetched (fetched_by None r)) read ∙ decoded

module _ (Known : ℕ → Type 0) (a : State) (step : IsKnownStep Known a) (c : Csrs) (d : Devices) (csrs : SameCsrs a.csrs c) where
  off : c.mstatus_mie ≡ false
  off = csrs.mstatus_mie ∙ step.runs.uninterrupted

  abbrev other : State
  other = otherwise a c d

  decoded-otherwise : (o : Option Insn) (word : ℕ) → ((insn : Insn) → o ≡ Some insn → LooksAtKnown Known insn a)
      → decoded_effect o word other ≡ decoded_effect o word a
  decoded-otherwise None word looks = refl
  decoded-otherwise (Some insn) word looks =
      let look = looks insn refl in
      kind-otherwise a c d insn csrs (kind_of insn.row) word look.csr (λ is. (look.number is).inside)

  word-otherwise : (f : Option Fault) → word_unless f other ≡ word_unless f a
  word-otherwise None = refl
  word-otherwise (Some f) = refl

  fetched-otherwise : (r : Result ℕ Fault) → fetch a ≡ r → fetched_effect r other ≡ fetched_effect r a
  fetched-otherwise (Err f) is = refl
  fetched-otherwise (Ok word) is =
      decoded-otherwise (insn_of word) word (λ insn decoded. step.looks insn (insn-fetched a word insn step.runs.uninterrupted is decoded))

  step-otherwise : step_effect other ≡ step_effect a
  unfolding step_effect
  step-otherwise =
      ap (λ p. decided p other) (pending-off c (interrupts_of d) off)
      ∙ ap (λ r. fetched_effect r other) (word-otherwise (first_false (fetch_asked a)))
      ∙ fetched-otherwise (fetch a) refl
      ∙ sym (ap (λ p. decided p a) (pending-off a.csrs (interrupts_of a.devices) step.runs.uninterrupted))

-- ---- other memory, too

next-fetch : (a : State) (insn : Insn) → IsNext a insn → fetch a ≡ Ok (number_at a.memory (pc_of a) 4)
unfolding fetched
next-fetch a insn next =
    fetch-fetched a ∙ ap (λ f. fetched f a) next.passes
    ∙ ap (λ b. cond b (Ok (number_at a.memory (pc_of a) 4)) (Err (fault_of ((fetches_from a).question)))) next.inside

abbrev pub shown : State → Memory → Csrs → Devices → State
shown a m c d = record a { memory = m; csrs = c; devices = d }

module _ (Known : ℕ → Type 0) (a : State) (m : Memory) (same : IsSameWhere Known a.memory m) where
  known-number : (address size : ℕ) → is_in_ram a.memory address size ≡ true → AreKnown Known address size
      → number_at m address size ≡ number_at a.memory address size
  known-number address size inside known =
      number_at-same a.memory m address size (record {
        inside = inside;
        length = same.size;
        bytes = λ b low high. same.bytes b (let base : ram_base ≤ address = (in_ram a.memory address size inside).0 in omega arith)
            (known b low high);
      })

  module _ (step : IsKnownStep Known a) (c : Csrs) (d : Devices) (csrs : SameCsrs a.csrs c) where
    looks-at : (insn : Insn) → IsNext (otherwise a c d) insn → LooksAtKnown Known insn a
    looks-at insn n =
        let next : IsNext a insn = record { passes = n.passes; inside = n.inside; read = n.read } in
        step.looks insn
        (insn-fetched a (number_at a.memory (pc_of a) 4) insn step.runs.uninterrupted (next-fetch a insn next) next.read)

    same-looks : SameLooks (otherwise a c d) (shown a m c d)
    same-looks = record {
      registers = refl;
      pcc = refl;
      ddc = refl;
      csrs = refl;
      devices = refl;
      size = same.size;
      word = λ passes inside. known-number (pc_of a) 4 inside step.runs.word;
      number = λ insn loads.
          let look = (looks-at insn loads.next).number loads.row in
          known-number (place_of insn a) (bytes_of (size_of insn.row)) look.inside look.known;
      granule = λ insn loads.
          let look = (looks-at insn loads.next).capability loads.row in
          word_at-same a.memory m (place_of insn a) (record {
            inside = look.inside;
            length = same.size;
            bytes = λ b low high.
                same.bytes b (let base : ram_base ≤ place_of insn a = (in_ram a.memory (place_of insn a) 16 look.inside).0 in omega arith)
                (look.known b low high);
          });
      tag = λ insn loads permitted. same.tags (place_of insn a);
      scrs = λ passes has. record { mtcc = refl; mtdc = refl; mscratchc = refl; mepcc = refl };
    }

    pub step-shown : step_effect (shown a m c d) ≡ step_effect a
    step-shown = step_effect-same (otherwise a c d) (shown a m c d) same-looks ∙ step-otherwise Known a step c d csrs

-- ---- the effect applied to both

counted-same : (x y : Csrs) → SameCsrs x y → SameCsrs (counted x) (counted y)
counted-same x y same = record {
  mstatus_mie = same.mstatus_mie;
  mstatus_mpie = same.mstatus_mpie;
  mie = same.mie;
  kept = same.kept;
  mcause = same.mcause;
  mtval = same.mtval;
}

written-same : (n value : ℕ) (x y : Csrs) → SameCsrs x y → SameCsrs (csrs_written n value x) (csrs_written n value y)
unfolding csrs_written
written-same n value x y same = record {
  mstatus_mie = ap (λ b. if n == MSTATUS then has_bit value mie_bit else b) same.mstatus_mie;
  mstatus_mpie = ap (λ b. if n == MSTATUS then has_bit value mpie_bit else b) same.mstatus_mpie;
  mie = ap (λ m. if n == MIE then bit_and value interrupt_bits else m) same.mie;
  kept = ap (kept_written n value) same.kept;
  mcause = ap (λ m. if n == MCAUSE then value else m) same.mcause;
  mtval = ap (λ m. if n == MTVAL then value else m) same.mtval;
}

ok-same : (b : Bool) (x y : ℕ) (refused : Result ℕ Fault) → (b ≡ true → x ≡ y) → cond b (Ok x) refused ≡ cond b (Ok y) refused
ok-same true x y refused same = ap (λ n. Ok n) (same refl)
ok-same false x y refused same = refl

module _ (Known : ℕ → Type 0) (a : State) (m : Memory) (c : Csrs) (d : Devices) (memory : IsSameWhere Known a.memory m)
    (csrs : SameCsrs a.csrs c) (running : d.halted ≡ None) where
  abbrev s : State
  s = shown a m c d

  same : AreSameWhere Known a.memory m
  same = record { size = memory.size; bytes = memory.bytes; tags = memory.tags }

  stored : (x y : Memory) → AreSameWhere Known x y → IsSameWhere Known x y
  stored x y are = record { size = are.size; bytes = are.bytes; tags = are.tags }

  stands-by : (t u : State) → u.registers ≡ t.registers → u.scrs ≡ t.scrs → SameCsrs t.csrs u.csrs → IsSameWhere Known t.memory u.memory
      → u.devices.halted ≡ None → StandsFor Known t u
  stands-by t u one two three four five = record { registers = one; scrs = two; csrs = three; memory = four; running = five }

  ended : (e : Effect CapValue) → (applied e s).registers ≡ (applied e a).registers → (applied e s).scrs ≡ (applied e a).scrs
      → SameCsrs (applied e a).csrs (applied e s).csrs → IsSameWhere Known (applied e a).memory (applied e s).memory
      → (applied e s).devices.halted ≡ None → StandsFor Known (applied e a) (applied e s)
  ended e = stands-by (applied e a) (applied e s)

  stands-applied : (e : Effect CapValue) → LeavesDevices e → IsSoundEffect e a → StandsFor Known (applied e a) (applied e s)
  unfolding applied written
  stands-applied (effect.Trap fault) leaves sound = ended (effect.Trap fault) refl refl (record {
    mstatus_mie = refl;
    mstatus_mpie = csrs.mstatus_mie;
    mie = csrs.mie;
    kept = csrs.kept;
    mcause = refl;
    mtval = refl;
  }) memory running
  stands-applied effect.Nothing leaves sound = ended effect.Nothing refl refl (counted-same a.csrs c csrs) memory running
  stands-applied (effect.Write w) leaves sound = ended (effect.Write w) refl refl (counted-same a.csrs c csrs) memory running
  stands-applied (effect.Unseal w) leaves sound = ended (effect.Unseal w) refl refl (counted-same a.csrs c csrs) memory running
  stands-applied (effect.Store w) leaves sound =
      ended (effect.Store w) refl refl (counted-same a.csrs c csrs)
      (stored _ _ (same-number Known a.memory m same w.address (bytes_of w.size) w.number sound)) running
  stands-applied (effect.StoreCapability w) leaves sound =
      ended (effect.StoreCapability w) refl refl (counted-same a.csrs c csrs)
      (stored _ _ (same-value Known a.memory m same w.address (word_of w.value) (is_tagged w.value)
      (in_ram-place_fault a.memory w.address 16 sound.0))) running
  stands-applied (effect.DeviceLoad l) leaves sound = absurd leaves
  stands-applied (effect.DeviceStore w) leaves sound =
      ended (effect.DeviceStore w) refl refl (counted-same a.csrs c csrs) memory
      (ap (λ b. cond b (Some w.number) d.halted) leaves ∙ running)
  stands-applied (effect.Jump target) leaves sound = ended (effect.Jump target) refl refl (counted-same a.csrs c csrs) memory running
  stands-applied (effect.Link l) leaves sound = ended (effect.Link l) refl refl (counted-same a.csrs c csrs) memory running
  stands-applied (effect.Enter e) leaves sound = ended (effect.Enter e) refl refl (counted-same a.csrs c csrs) memory running
  stands-applied (effect.Special w) leaves sound = ended (effect.Special w) refl refl (counted-same a.csrs c csrs) memory running
  stands-applied (effect.Csr w) leaves sound =
      ended (effect.Csr w) refl refl (written-same w.number w.value (counted a.csrs) (counted c) (counted-same a.csrs c csrs)) memory
      running
  stands-applied (effect.Return sealed) leaves sound = ended (effect.Return sealed) refl refl (record {
    mstatus_mie = csrs.mstatus_mpie;
    mstatus_mpie = refl;
    mie = csrs.mie;
    kept = csrs.kept;
    mcause = csrs.mcause;
    mtval = csrs.mtval;
  }) memory running

  stands-stepped : IsState a → IsKnownStep Known a → StandsFor Known (stepped a) (stepped s)
  unfolding stepped
  stands-stepped is step =
      subst (λ h. StandsFor Known (stepped_unless h a) (stepped_unless d.halted s)) (sym step.runs.running)
      (subst (λ h. StandsFor Known (applied (step_effect a) a) (stepped_unless h s)) (sym running)
      (subst (λ e. StandsFor Known (applied (step_effect a) a) (applied e s)) (sym (step-shown Known a m memory step c d csrs))
      (stands-applied (step_effect a) step.effect (step_effect-sound a is))))

  stands-shown : StandsFor Known a s
  stands-shown = stands-by a s refl refl csrs memory running

  fetched-shown : IsKnownStep Known a → (f : Option Fault) → fetched f s ≡ fetched f a
  unfolding fetched
  fetched-shown step (Some f) = refl
  fetched-shown step None =
      let refused : Result ℕ Fault = Err (fault_of ((fetches_from a).question)) in
      ap (λ b. cond b (Ok (number_at m (pc_of a) 4)) refused) (in_ram-same a.memory m (pc_of a) 4 memory.size)
      ∙ ok-same (is_in_ram a.memory (pc_of a) 4) (number_at m (pc_of a) 4) (number_at a.memory (pc_of a) 4) refused
      (λ inside. known-number Known a m memory (pc_of a) 4 inside step.runs.word)

  fetch-shown : IsKnownStep Known a → fetch s ≡ fetch a
  fetch-shown step = fetch-fetched s ∙ fetched-shown step (fetch_fault a.scrs.pcc) ∙ sym (fetch-fetched a)

-- a state that the known one stands for is that one with another memory, other control and status registers and other devices
is_shown : (Known : ℕ → Type 0) (a s : State) → StandsFor Known a s → s ≡ shown a s.memory s.csrs s.devices
is_shown Known a s stands =
    ap (λ r. record s { registers = r }) stands.registers ∙ ap (λ x. record s { registers = a.registers; scrs = x }) stands.scrs

-- ---- events

module _ (Known : ℕ → Type 0) (a s : State) (stands : StandsFor Known a s) where
  pub stands-step : IsState a → IsKnownStep Known a → StandsFor Known (stepped a) (stepped s)
  stands-step is step =
      subst (λ t. StandsFor Known (stepped a) (stepped t)) (sym (is_shown Known a s stands))
      (stands-stepped Known a s.memory s.csrs s.devices stands.memory stands.csrs stands.running is step)

  pub stands-tick : StandsFor Known a (after Tick s)
  stands-tick = record {
    registers = stands.registers;
    scrs = stands.scrs;
    csrs = stands.csrs;
    memory = stands.memory;
    running = stands.running;
  }

  pub stands-byte : (b : ℕ) → StandsFor Known a (after (Byte b) s)
  unfolding received
  stands-byte b = record {
    registers = stands.registers;
    scrs = stands.scrs;
    csrs = stands.csrs;
    memory = stands.memory;
    running = stands.running;
  }

  pub same-fetch : IsKnownStep Known a → fetch s ≡ fetch a
  same-fetch step =
      subst (λ t. fetch t ≡ fetch a) (sym (is_shown Known a s stands))
      (fetch-shown Known a s.memory s.csrs s.devices stands.memory stands.csrs stands.running step)
