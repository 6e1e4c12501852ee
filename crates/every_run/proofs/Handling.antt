-- Code that is entered by traps: what each event leads to, and what holds in runs of each length.
use Rattle.std.proofs.Common.{◌≡◌, ℕ, zero, suc, ◌+◌, ◌*◌, ◌/◌, ◌%◌, ◌^◌, ◌<◌, ◌≤◌, arith, Bool, true, false, eqb, cond, List, []}
use Rattle.std.proofs.Common.{◌∷◌, length}
use Rattle.std.proofs.Common.{refl, sym, ap, ◌∙◌, Option, None, Some, Ok, subst, inl, inr, ◌⊎◌}
use Rattle.std.specs.Prelude.{is_some, replicate, ◌==◌, ◌&&◌}
use Rattle.std.proofs.lemmas.Bool.{and_parts, cases_lt, eq-eqb, eqb-true, false≢true}
use Rattle.base.specs.ObjectType.{sentry_type}
use Rattle.std.proofs.lemmas.List.{get_or_past, get_or-replicate, length-replicate}
use Rattle.base.specs.declared.fault.Fault.{Fault}
use Rattle.cap_bounds.specs.CapValue.{CapValue, Cap, Data, is_tagged, value_address, value_otype}
use Rattle.cap_bounds.specs.SetAddress.{at_address}
use Rattle.cap_bounds.specs.SoundLaws.{value_address-below}
use Rattle.cap_rights.specs.DerivedLaws.{derived-at_address}
use Rattle.devices.specs.Devices.{Devices, received}
use Rattle.isa_rows.specs.declared.kinds.Kind.TheVariants as kind
use Rattle.isa_rows.specs.declared.operands.Insn.{Insn}
use Rattle.isa_rows.specs.Decoded.{insn_of}
use Rattle.isa_rows.specs.Kind.{kind_of}
use Rattle.registers.specs.Registers.{register, null}
use Rattle.cap_rights.specs.Opened.{opened}
use Rattle.tagged_memory.specs.Memory.{Memory}
use Rattle.special_regs.specs.Traps.{trap_target, is_sentry, sentry_opened, placed_at, entry_address, aligned, target, vector_of}
use Rattle.steps.specs.declared.event.Event.{Event}
use Rattle.steps.specs.declared.event.Event.TheVariants.{Step, Tick, Byte}
use Rattle.steps.specs.Effect.{applied}
use Rattle.steps.specs.Event.{after}
use Rattle.steps.specs.AppliedLaws.{IsState-applied}
use Rattle.steps.specs.EventLaws.{IsState-after, step_effect-sound}
use Rattle.steps.specs.IsEvent.{IsEvent}
use Rattle.steps.specs.IsState.{IsState}
use Rattle.steps.specs.State.{State, pc_of}
use Rattle.steps.specs.Step.{fetch, step_effect, stepped, stepped_unless}
use Rattle.steps.specs.SystemRows.{return_done}
use Rattle.authority.specs.Authority.{Not}
use Rattle.authority.specs.Reachable.{IsRoot, in_register, in_pcc, in_ddc}
use Rattle.doors.specs.Closed.{Bounds, IsGroundedBy}
use Rattle.doors.specs.DoorsLaws.{behind-sentry}
use Rattle.doors.specs.Sets.{IsWritableBy, LeavesMemoryBeyond}
use Rattle.doors.specs.SetLaws.{IsGroundedIfTaggedBy, bounded, grounded-member, grounded_by-derived}
use Rattle.always.specs.Enclosed.{Encloses, GoesOn, IsEntered, KeepsRules}
use Rattle.every_run.specs.declared.marks.Marks.{Marks}
use Rattle.every_run.specs.Handled.{unknown_in, IsSeen, IsSameKnown, HoldsGrounded, StandsAmong, IsFollowed, IsDone, entry_marks}
use Rattle.every_run.specs.Handled.{BeginsAt, IsDirect, IsAmongCode, IsOfSet, ReturnsToSet, HoldsFor, CodeHolds, KernelHolds, IsOwnCode}
use Rattle.every_run.specs.Handled.{IsHandled, is_over, is_back, is_on}
use Rattle.every_run.specs.Lasting.{AlwaysHold}
use Rattle.policy.specs.Terms.{Terms}
use Rattle.policy.specs.Watch.{Applies, HoldEach, fetched_at, fetched_from}
use Rattle.every_run.specs.Stands.{AreKnown}
use Rattle.every_run.proofs.Follows.{stands-followed}
use Rattle.every_run.proofs.Looks.{fetch-there, return-there}

-- ---- sentries

-- without the seal of a sentry a value is of the set again
module _ (P : CapValue → Type 0) (encloses : Encloses P) where
  opened-by : (b : Bool) (v : CapValue) → (is_tagged v && (value_otype v == sentry_type)) ≡ b → IsGroundedIfTaggedBy P v
      → IsGroundedIfTaggedBy P (cond b (opened v) v)
  opened-by true v is earned =
      behind-sentry P encloses.doors v (eqb-true (value_otype v) sentry_type (and_parts (is_tagged v) _ is).1) earned
  opened-by false v is earned = earned

  sentry-grounded : (v : CapValue) → IsGroundedIfTaggedBy P v → IsGroundedIfTaggedBy P (sentry_opened v)
  unfolding sentry_opened is_sentry
  sentry-grounded v earned = opened-by (is_tagged v && (value_otype v == sentry_type)) v refl earned

-- ---- the kernel's code

module _ (P : CapValue → Type 0) (Known : ℕ → Type 0) (o : State) (marks : Marks) (a : State) where
  abbrev Stands : State → Type 0
  Stands s = StandsAmong P Known o marks a s

  with-devices : (s : State) (d : Devices) → (is_some s.devices.halted ≡ true → is_some d.halted ≡ true) → Stands s
      → Stands (record s { devices = d })
  with-devices s d still st = record {
    count = st.count;
    registers = st.registers;
    pcc = st.pcc;
    ddc = st.ddc;
    mtcc = st.mtcc;
    mtdc = st.mtdc;
    own_mtdc = st.own_mtdc;
    mscratchc = st.mscratchc;
    mepcc = st.mepcc;
    off = st.off;
    memory = st.memory;
    own_memory = st.own_memory;
    granules = st.granules;
    halted = λ ends. still (st.halted ends);
  }

  tick-stands : (s : State) → Stands s → Stands (after Tick s)
  tick-stands s st = with-devices s (after Tick s).devices (λ ends. ends) st

  byte-stands : (b : ℕ) (s : State) → Stands s → Stands (after (Byte b) s)
  unfolding received
  byte-stands b s st = with-devices s (after (Byte b) s).devices (λ ends. ends) st

  own-memory : (s : State) → Stands s → IsSameKnown Known a.memory s.memory
  own-memory s st = subst (λ m. IsSameKnown Known m s.memory) (sym st.own_memory) st.memory

  pub same-fetch : AreKnown Known (pc_of a) 4 → (s : State) → Stands s → fetch s ≡ fetch a
  same-fetch known s st = fetch-there Known a s known st.pcc (own-memory s st)

-- a halted machine ignores a step
module _ (s : State) (effect : State) where
  halted-stays : (h : Option ℕ) → is_some h ≡ true → stepped_unless h s ≡ s
  halted-stays (Some n) ends = refl
  halted-stays None ends = cc

module _ (Hold : State → Type 0) (P : CapValue → Type 0) (Known : ℕ → Type 0) (o : State) where
  abbrev Kernel : ℕ → Marks → State → Type 0
  Kernel n marks a = KernelHolds Hold P Known o n marks a

  abbrev Code : ℕ → Type 0
  Code n = CodeHolds Hold P Known o n

  -- from a state of the kernel's code on, where each event leads to such a state again, or to one from which it holds
  module _ (n : ℕ) (marks : Marks) (a : State) (now : (s : State) → StandsAmong P Known o marks a s → Hold s)
      (step : (s : State) → IsState s → StandsAmong P Known o marks a s
      → StandsAmong P Known o marks a (stepped s) ⊎ HoldsFor Hold n (stepped s)) where
    fewer : (events : List Event) (e : Event) → length (e ∷ events) ≤ n → length events ≤ n
    fewer events e few = omega arith

    kernel-holds : Kernel n marks a
    kernel-holds s is st [] are few = now s st
    kernel-holds s is st (Step ∷ es) are few = elim (step s is st) [
      | inl same ↦ kernel-holds (after Step s) (IsState-after s is Step are.0) same es are.1 (fewer es Step few)
      | inr then ↦ then es are.1 (fewer es Step few)
    ]
    kernel-holds s is st (Tick ∷ es) are few =
        kernel-holds (after Tick s) (IsState-after s is Tick are.0) (tick-stands P Known o marks a s st) es are.1 (fewer es Tick few)
    kernel-holds s is st (Byte b ∷ es) are few =
        kernel-holds (after (Byte b) s) (IsState-after s is (Byte b) are.0) (byte-stands P Known o marks a b s st) es are.1
        (fewer es (Byte b) few)

  -- the machine is halted: nothing changes but the devices
  module _ (n : ℕ) (marks : Marks) (a : State) (now : (s : State) → StandsAmong P Known o marks a s → Hold s) where
    pub halted-holds : is_some a.devices.halted ≡ true → Kernel n marks a
    unfolding stepped
    halted-holds ends =
        kernel-holds n marks a now
        (λ s is st. inl (subst (StandsAmong P Known o marks a) (sym (halted-stays s a s.devices.halted (st.halted ends))) st))

    -- a step that leads to states from which it holds, where the machine runs
    running-holds : ((s : State) → IsState s → StandsAmong P Known o marks a s → HoldsFor Hold n (applied (step_effect s) s))
        → Kernel n marks a
    unfolding stepped
    running-holds next = kernel-holds n marks a now (λ s is st. by-halted s is st s.devices.halted)
      where
        by-halted : (s : State) → IsState s → StandsAmong P Known o marks a s → (h : Option ℕ)
            → StandsAmong P Known o marks a (stepped_unless h s) ⊎ HoldsFor Hold n (stepped_unless h s)
        by-halted s is st None = inr (next s is st)
        by-halted s is st (Some k) = inl st

    module _ (is_here : IsState a) (word : ℕ) (insn : Insn) (read : fetch a ≡ Ok word) (decoded : insn_of word ≡ Some insn)
        (known : AreKnown Known (pc_of a) 4) (off : a.csrs.mstatus_mie ≡ false) where
      applied-state : (s : State) → IsState s → IsState (applied (step_effect s) s)
      applied-state s is = IsState-applied (step_effect s) s (step_effect-sound s is) is

      -- a followed step
      pub followed-holds : (later : Marks) → IsFollowed Known a insn marks later → Kernel n later (applied (step_effect a) a)
          → Kernel n marks a
      followed-holds later followed next =
          running-holds (λ s is st.
          next (applied (step_effect s) s) (applied-state s is)
          (stands-followed P Known o marks a s st is_here is word insn read decoded known off later followed))

      -- ---- the return

      module _ (encloses : Encloses P) (row : kind_of insn.row ≡ kind.Mret) (done : IsDone (step_effect a))
          (returns : ReturnsToSet P o marks a) (s : State) (is : IsState s) (st : StandsAmong P Known o marks a s) where
        of-set : (b : Bool) (v w : CapValue) → IsOfSet P b v → IsSeen P b v w → IsGroundedIfTaggedBy P w
        of-set true v w of seen = seen
        of-set false v w of seen = λ tagged.
            let same : w ≡ v = seen in
            subst (IsGroundedBy P) (sym same) (grounded-member P v (of refl (sym (ap is_tagged same) ∙ tagged)))

        register-returned : (n : ℕ) → IsGroundedIfTaggedBy P (register s.registers n)
        register-returned n = elim (cases_lt n 32) [
          | inl below ↦
              of-set (unknown_in marks n) (register a.registers n) (register s.registers n) (returns.registers n below) (st.registers n)
          | inr past ↦ λ tagged.
              absurd (false≢true (sym (ap is_tagged (get_or_past s.registers n null (omega (arith, is.registers.count)))) ∙ tagged))
        ]

        aligned-by : (b : Bool) (v : CapValue) (address : ℕ) → IsGroundedIfTaggedBy P v
            → IsGroundedIfTaggedBy P (cond b v (at_address v address))
        aligned-by true v address earned = earned
        aligned-by false v address earned = grounded_by-derived P (at_address v address) v earned (derived-at_address v address)

        target-returned : IsGroundedIfTaggedBy P (target s.scrs.mepcc)
        unfolding aligned
        target-returned =
            let v : CapValue = sentry_opened s.scrs.mepcc in
            aligned-by (eqb (value_address v % 4) 0) v (value_address v / 4 * 4)
            (sentry-grounded P encloses s.scrs.mepcc (of-set marks.mepcc a.scrs.mepcc s.scrs.mepcc returns.mepcc st.mepcc))

        abbrev back : State
        back = applied (return_done s) s

        root-returned : (v : CapValue) → is_tagged v ≡ true → IsRoot back v → IsGroundedBy P v
        unfolding applied
        root-returned v tagged (in_register n at) =
            subst (IsGroundedBy P) (sym at) (register-returned n (subst (λ x. is_tagged x ≡ true) at tagged))
        root-returned v tagged (in_pcc at) =
            subst (IsGroundedBy P) (sym at) (target-returned (subst (λ x. is_tagged x ≡ true) at tagged))
        root-returned v tagged (in_ddc at) = subst (IsGroundedBy P) (sym at) (st.ddc (subst (λ x. is_tagged x ≡ true) at tagged))

        exact-mscratchc : s.scrs.mscratchc ≡ a.scrs.mscratchc
        exact-mscratchc = subst (λ b. IsSeen P b a.scrs.mscratchc s.scrs.mscratchc) returns.exact st.mscratchc

        code-back : IsAmongCode P Known o back
        unfolding applied
        code-back = record {
          bounds = record {
            roots = root-returned;
            specials = λ c v member opens tagged special.
                absurd (encloses.system (record { source = c; member = member; opens = opens }));
            granules = st.granules;
          };
          mtcc = st.mtcc;
          mtdc = st.mtdc;
          mscratchc = exact-mscratchc ∙ returns.mscratchc;
          memory = st.memory;
        }

        code-returned : IsAmongCode P Known o (applied (step_effect s) s)
        code-returned =
            subst (λ e. IsAmongCode P Known o (applied e s))
            (sym (return-there P Known a s marks word insn read decoded known off st.off st.pcc (own-memory P Known o marks a s st)
            st.registers row done)) code-back

      -- from the return on it holds where it does from each state in which any code runs
      pub returned-holds : Encloses P → kind_of insn.row ≡ kind.Mret → IsDone (step_effect a) → ReturnsToSet P o marks a → Code n
          → Kernel n marks a
      returned-holds encloses row done returns code =
          running-holds (λ s is st.
          code (applied (step_effect s) s) (applied-state s is) (code-returned encloses row done returns s is st))

-- ---- a trap that is handled

module _ (rules : List Terms) (P : CapValue → Type 0) (Known : ℕ → Type 0) (o : State) where
  -- no rule applies in a state that one of the kernel's code stands for
  none-hold : (marks : Marks) (a : State) → IsOwnCode rules Known a → (s : State) → StandsAmong P Known o marks a s → HoldEach rules s
  none-hold marks a own s st rule there about =
      let same : fetched_at s ≡ fetched_at a =
      ap (λ r. fetched_from r (pc_of s)) (same-fetch P Known o marks a own.word s st)
      ∙ ap (λ v. fetched_from (fetch a) (value_address v)) st.pcc in
      absurd (own.unruled rule there (subst (Applies rule) same about))

  step-done : (a : State) → a.devices.halted ≡ None → stepped a ≡ applied (step_effect a) a
  unfolding stepped
  step-done a running = ap (λ h. stepped_unless h a) running

  module _ (encloses : Encloses P) (n : ℕ) (code : CodeHolds (HoldEach rules) P Known o n) where
    pub handled-holds : (marks : Marks) (a : State) → IsHandled rules P Known o marks a → KernelHolds (HoldEach rules) P Known o n marks a
    handled-holds marks a (is_over own over) = halted-holds (HoldEach rules) P Known o n marks a (none-hold marks a own) over
    handled-holds marks a (is_back own running back) =
        returned-holds (HoldEach rules) P Known o n marks a (none-hold marks a own) own.state back.fetched.word back.insn back.fetched.read
        back.fetched.decoded own.word own.off encloses back.row back.done back.returns code
    handled-holds marks a (is_on {later = later} own running on rest) =
        followed-holds (HoldEach rules) P Known o n marks a (none-hold marks a own) own.state on.fetched.word on.insn on.fetched.read
        on.fetched.decoded own.word own.off later on.followed
        (subst (KernelHolds (HoldEach rules) P Known o n later) (step-done a running) (handled-holds later (stepped a) rest))

-- ---- where a trap enters

pub sentry-address : (v : CapValue) → value_address (sentry_opened v) ≡ value_address v
unfolding sentry_opened is_sentry opened
sentry-address (Cap r) = elim (is_sentry (Cap r)) as (λ b. value_address (cond b (opened (Cap r)) (Cap r)) ≡ r.address) [
  | true ↦ refl
  | false ↦ refl
]
sentry-address (Data n) = refl

direct-entry : (f : Fault) (m : ℕ) → m % 4 ≡ 0 → m < 2 ^ 64 → entry_address f m ≡ m
unfolding entry_address
direct-entry f m direct below =
    let offset : ℕ = cond (eqb (m % 4) 1) (4 * vector_of f) 0 in
    let none : offset ≡ 0 = rw direct refl in
    let whole : m / 4 * 4 ≡ m = omega (arith, direct) in
    let fits : (m + 0) % 2 ^ 64 ≡ m = omega arith in
    ap (λ x. (m / 4 * 4 + x) % 2 ^ 64) none ∙ ap (λ x. (x + 0) % 2 ^ 64) whole ∙ fits

direct-target : (f : Fault) (v : CapValue) → value_address v % 4 ≡ 0 → value_address v < 2 ^ 64 → trap_target f v ≡ sentry_opened v
unfolding placed_at
direct-target f v direct below =
    let w : CapValue = sentry_opened v in
    let there : ℕ = entry_address f (value_address v) in
    let same : value_address w ≡ there = sentry-address v ∙ sym (direct-entry f (value_address v) direct below) in
    ap (λ b. cond b w (at_address w there)) (eq-eqb (value_address w) there same)

module _ (P : CapValue → Type 0) (Known : ℕ → Type 0) (unwritable : (a : ℕ) → Known a → Not (IsWritableBy P a)) (o : State)
    (is_o : IsState o) (encloses : Encloses P) (direct : IsDirect o) (running : o.devices.halted ≡ None) (s : State)
    (among : IsAmongCode P Known o s) (later : State) (is_later : IsState later) where
  left-known : (m other : Memory) → IsSameKnown Known o.memory m → LeavesMemoryBeyond P m other → IsSameKnown Known o.memory other
  left-known m other same left = record {
    size = left.size ∙ same.size;
    bytes = λ a low known. left.bytes a low (unwritable a known) ∙ same.bytes a low known;
    tags = λ granule known. left.tags granule (λ a low high. unwritable a (known a low high)) ∙ same.tags granule known;
  }

  pub code-on : GoesOn P s later → IsAmongCode P Known o later
  code-on goes =
      let scrs = goes.left.scrs encloses.system in
      record {
        bounds = goes.bounds;
        mtcc = scrs.mtcc ∙ among.mtcc;
        mtdc = scrs.mtdc ∙ among.mtdc;
        mscratchc = scrs.mscratchc ∙ among.mscratchc;
        memory = left-known s.memory later.memory among.memory goes.left.memory;
      }

  module _ (trap : IsEntered s later) where
    root-grounded : (v : CapValue) → IsRoot s v → IsGroundedIfTaggedBy P v
    root-grounded v root = λ tagged. among.bounds.roots v tagged root

    register-grounded : (n : ℕ) → IsGroundedIfTaggedBy P (register later.registers n)
    register-grounded n = root-grounded (register later.registers n) (in_register n (ap (λ rs. register rs n) trap.registers))

    -- the first register is null; past the last there is null too
    entry-seen : (n : ℕ) → IsSeen P (unknown_in entry_marks n) (register o.registers n) (register later.registers n)
    entry-seen zero = is_later.registers.first ∙ sym is_o.registers.first
    entry-seen (suc k) = elim (cases_lt k 31) [
      | inl below ↦ subst (λ b. IsSeen P b (register o.registers (suc k)) (register later.registers (suc k)))
          (sym (get_or-replicate 31 k true false below)) (register-grounded (suc k))
      | inr past ↦ subst (λ b. IsSeen P b (register o.registers (suc k)) (register later.registers (suc k)))
          (sym (get_or_past (replicate 31 true) k false (omega (arith, length-replicate 31 true))))
          (get_or_past later.registers (suc k) null (omega (arith, is_later.registers.count))
          ∙ sym (get_or_past o.registers (suc k) null (omega (arith, is_o.registers.count))))
    ]

    entry-pcc : later.scrs.pcc ≡ sentry_opened o.scrs.mtcc
    entry-pcc =
        ap (λ x. x.pcc) trap.scrs ∙ ap (trap_target trap.fault) among.mtcc
        ∙ direct-target trap.fault o.scrs.mtcc direct (value_address-below o.scrs.mtcc is_o.scrs.mtcc)

    pub entry-stands : (a : State) → BeginsAt o a → StandsAmong P Known o entry_marks a later
    entry-stands a begins = record {
      count = refl;
      registers = λ n.
          subst (λ rs. IsSeen P (unknown_in entry_marks n) (register rs n) (register later.registers n)) (sym begins.registers)
          (entry-seen n);
      pcc = entry-pcc ∙ sym begins.pcc;
      ddc = subst (IsGroundedIfTaggedBy P) (sym (ap (λ x. x.ddc) trap.scrs)) (root-grounded s.scrs.ddc (in_ddc refl));
      mtcc = ap (λ x. x.mtcc) trap.scrs ∙ among.mtcc;
      mtdc = ap (λ x. x.mtdc) trap.scrs ∙ among.mtdc;
      own_mtdc = begins.mtdc;
      mscratchc = ap (λ x. x.mscratchc) trap.scrs ∙ among.mscratchc ∙ sym begins.mscratchc;
      mepcc = subst (IsGroundedIfTaggedBy P) (sym (ap (λ x. x.mepcc) trap.scrs)) (root-grounded s.scrs.pcc (in_pcc refl));
      off = ap (λ c. c.mstatus_mie) trap.csrs;
      memory = subst (IsSameKnown Known o.memory) (sym trap.memory) among.memory;
      own_memory = begins.memory;
      granules = subst (HoldsGrounded P) (sym trap.memory) among.bounds.granules;
      halted = λ ends. absurd (false≢true (sym (ap (λ d. is_some d.halted) begins.devices ∙ ap is_some running) ∙ ends));
    }

-- ---- for ever

module _ (rules : List Terms) (P : CapValue → Type 0) (Known : ℕ → Type 0)
    (unwritable : (a : ℕ) → Known a → Not (IsWritableBy P a)) (o : State) (is_o : IsState o) (encloses : Encloses P)
    (keeps : KeepsRules P rules) (direct : IsDirect o) (running : o.devices.halted ≡ None)
    (any_code : (e : Event) (s : State) → IsEvent e → IsState s → Bounds P s → GoesOn P s (after e s) ⊎ IsEntered s (after e s))
    (entry : State) (begins : BeginsAt o entry) (handled : IsHandled rules P Known o entry_marks entry) where
  code-now : (s : State) → IsAmongCode P Known o s → HoldEach rules s
  code-now s among rule there about v reachable broken = keeps rule there v (bounded P s among.bounds v reachable) broken

  code-holds : (n : ℕ) → CodeHolds (HoldEach rules) P Known o n
  code-holds n s is among [] are few = code-now s among
  code-holds zero s is among (e ∷ es) are few = absurd (omega arith)
  code-holds (suc n) s is among (e ∷ es) are few =
      let t : State = after e s in
      let state : IsState t = IsState-after s is e are.0 in
      let rest : length es ≤ n = omega arith in
      elim (any_code e s are.0 is among.bounds) [
        | inl goes ↦
            code-holds n t state (code-on P Known unwritable o is_o encloses direct running s among t state goes) es are.1 rest
        | inr trap ↦
            handled-holds rules P Known o encloses n (code-holds n) entry_marks entry handled t state
            (entry-stands P Known unwritable o is_o encloses direct running s among t state trap entry begins) es are.1 rest
      ]

  pub always-holds : (s : State) → IsState s → IsAmongCode P Known o s → AlwaysHold rules s
  always-holds s is among events are = code-holds (length events) s is among events are (omega arith)
