-- What the conditions of a step say, by the rows.
use Rattle.std.proofs.Common.{◌≡◌, ℕ, ◌+◌, ◌-◌, ◌*◌, ◌/◌, ◌%◌, ◌^◌, ◌≤◌, ◌<◌, Bool, true, false, not, ◌||◌, cond, eqb, List, [], ◌∷◌}
use Rattle.std.proofs.Common.{◌++◌, Option, Some, None, inl, inr, refl, sym, ap, ◌∙◌, arith}
use Rattle.std.specs.Prelude.{IfSome}
use Rattle.std.specs.Option.{unwrap_or}
use Rattle.std.proofs.lemmas.Bool.{cases_eq, cases_lt, eq-eqb, ne_eqb, lt-ltb, le-ltb}
use Rattle.base.specs.declared.cause.Cause.{Cause}
use Rattle.base.specs.declared.cause.Cause.TheVariants as cause
use Rattle.base.specs.declared.fault.Fault.{Fault}
use Rattle.base.specs.ObjectType.{is_reserved}
use Rattle.cap_bounds.specs.CapValue.{CapValue, integer, is_tagged, is_sealed, value_otype, value_address}
use Rattle.cap_rights.specs.Permission.{permits}
use Rattle.cap_rights.specs.declared.permission.Permission.{Permission}
use Rattle.cap_rights.specs.declared.permission.Permission.TheVariants as permission
use Rattle.cap_checks.specs.Access.{stored_of, width_of, misaligned, stores_capability, stores_local}
use Rattle.cap_checks.specs.declared.access.Access.{Access}
use Rattle.cap_checks.specs.declared.access.Access.TheVariants as access
use Rattle.cap_checks.specs.declared.question.Condition.{Condition}
use Rattle.cap_checks.specs.declared.question.Question.{Question}
use Rattle.cap_checks.specs.FirstFault.{holds, within, aligned, asked_if, access_checks, jump_checks, is_entered_sealed}
use Rattle.cap_checks.specs.FirstFault.{jump_target, invoke_target}
use Rattle.cap_checks.specs.Question.{first_false}
use Rattle.devices.specs.Devices.{interrupts_of}
use Rattle.special_regs.specs.Interrupts.{pending}
use Rattle.special_regs.specs.declared.interrupts.Interrupt.{Interrupt}
use Rattle.special_regs.specs.Scrs.{Scrs, scr_value}
use Rattle.isa_rows.specs.declared.operands.Insn.{Insn}
use Rattle.isa_rows.specs.declared.kinds.Kind.{Kind}
use Rattle.isa_rows.specs.declared.kinds.Kind.TheVariants as kind
use Rattle.isa_rows.specs.Kind.{kind_of}
use Rattle.isa_rows.specs.Decoded.{insn_of}
use Rattle.isa_rows.specs.OperandLaws.{AreInRange, AreInRange-insn_of}
use Rattle.registers.specs.Registers.{register}
use Rattle.steps.specs.Accesses.{size_of, through_rs1}
use Rattle.steps.specs.Looks.{in_capability_mode}
use Rattle.steps.specs.MemoryRows.{place_of, authority_of, authority_number_of, authority_through, number_through, mapped_for, memory_asked}
use Rattle.steps.specs.JumpRows.{branch_asked, link_asked, enter_asked, invoke_asked, jal_target, jalr_asked, jalr_target}
use Rattle.steps.specs.State.{State, pc_of}
use Rattle.steps.specs.Step.{asked, fetch_asked, word_unless}
use Rattle.explain.specs.Asked.{insn_stages, fetched_stages, stages_unless, stages_of}
use Rattle.text_laws.specs.Says.{held, lies_in, word_here, asked_at, asked_bytes, asked_through, FetchSays, seal_lets}
use Rattle.text_laws.specs.Says.{ExecuteSays, InsnSays, Each, InsnStageSays, StagesSay, ConditionsSayWhatIsAsked}
use Rattle.explain.specs.WhyText.{capability_in}

-- ---- what a register holds

-- a special register counts from 32
same_place : (k n : ℕ) → 32 ≤ n → eqb k (n - 32) ≡ eqb n (32 + k)
same_place k n high =
    elim (cases_eq n (32 + k)) [
      | inl same ↦ eq-eqb k (n - 32) (omega arith) ∙ sym (eq-eqb n (32 + k) same)
      | inr apart ↦ ne_eqb k (n - 32) (λ e. apart (omega arith)) ∙ sym (ne_eqb n (32 + k) apart)
    ]

one_of_six : (a b c d e f : Bool) (s : Scrs) (other : CapValue)
    → unwrap_or (cond a (Some s.pcc) (cond b (Some s.ddc) (cond c (Some s.mtcc) (cond d (Some s.mtdc) (cond e (Some s.mscratchc)
    (cond f (Some s.mepcc) None)))))) other
    ≡ cond a s.pcc (cond b s.ddc (cond c s.mtcc (cond d s.mtdc (cond e s.mscratchc (cond f s.mepcc other)))))
one_of_six true b c d e f s other = refl
one_of_six false true c d e f s other = refl
one_of_six false false true d e f s other = refl
one_of_six false false false true e f s other = refl
one_of_six false false false false true f s other = refl
one_of_six false false false false false true s other = refl
one_of_six false false false false false false s other = refl

special-held : (s : Scrs) (n : ℕ) → 32 ≤ n
    → unwrap_or (scr_value s (n - 32)) (integer 0)
    ≡ cond (eqb n 32) s.pcc (cond (eqb n 33) s.ddc (cond (eqb n 60) s.mtcc (cond (eqb n 61) s.mtdc (cond (eqb n 62) s.mscratchc
    (cond (eqb n 63) s.mepcc (integer 0))))))
unfolding scr_value
special-held s n high =
    rw (
      same_place 0 n high,
      same_place 1 n high,
      same_place 28 n high,
      same_place 29 n high,
      same_place 30 n high,
      same_place 31 n high,
    ) (one_of_six (eqb n 32) (eqb n 33) (eqb n 60) (eqb n 61) (eqb n 62) (eqb n 63) s (integer 0))

pub held-shown : (s : State) (n : ℕ) → capability_in s n ≡ held s n
held-shown s n = elim (cases_lt n 32) [
  | inl low ↦ rw (lt-ltb n 32 low) refl
  | inr high ↦ rw (le-ltb n 32 high) (special-held s.scrs n high)
]

held-general : (s : State) (n : ℕ) → n < 32 → held s n ≡ register s.registers n
held-general s n low = rw (lt-ltb n 32 low) refl

-- ---- lists of conditions

module _ (P : Question → Bool → Type 0) where
  pub each-append : (first last : List Condition) → Each P first → Each P last → Each P (first ++ last)
  each-append [] last all others = others
  each-append (c ∷ first) last all others = (all.0, each-append first last all.1 others)

  each-asked_if : (is_asked : Bool) (c : Condition) (others : List Condition) → P c.question c.holds → Each P others
      → Each P (asked_if is_asked c ++ others)
  each-asked_if true c others here all = (here, all)
  each-asked_if false c others here all = all

-- ---- the fetch and the decoding

fetch-says : (s : State) → Each (FetchSays s) (fetch_asked s)
unfolding holds
fetch-says s = ((refl, refl), ((refl, refl), ((refl, refl), ((refl, refl, refl, refl), ((refl, refl), tt)))))

-- ---- an instruction

module _ (s : State) (k : Kind) (insn : Insn) (r : ℕ) (v : CapValue) (at : held s r ≡ v) where
  unsealed : ((u : CapValue) → seal_lets k insn u ≡ not (is_sealed u)) → not (is_sealed v) ≡ seal_lets k insn (held s r)
  unsealed plain = ap (λ u. not (is_sealed u)) (sym at) ∙ sym (plain (held s r))

  bounds-says : (address size : ℕ) → holds v address size ≡ lies_in (held s r) address size
  unfolding holds
  bounds-says address size = ap (λ u. lies_in u address size) (sym at)

  permitted : (p : Permission) → permits v p ≡ permits (held s r) p
  permitted p = ap (λ u. permits u p) (sym at)

  tagged : is_tagged v ≡ is_tagged (held s r)
  tagged = ap is_tagged (sym at)

  place-says : (otherwise : Cause) (address size : ℕ) → r ≡ asked_through k insn s → address ≡ asked_at k insn s → size ≡ asked_bytes k insn
      → Each (InsnSays s k insn) (within r v address size ∷ aligned otherwise address size ∷ [])
  place-says otherwise address size through at_it many =
      ((through, at_it, many, bounds-says address size), ((at_it, many, refl), tt))

  access-says : ((u : CapValue) → seal_lets k insn u ≡ not (is_sealed u)) → (a : Access) (address : ℕ)
      → r ≡ asked_through k insn s → address ≡ asked_at k insn s → width_of a ≡ asked_bytes k insn
      → Each (InsnSays s k insn) (access_checks v r a address)
  access-says plain (access.Load size) address through at_it many =
      let place = place-says (misaligned (access.Load size)) address (width_of (access.Load size)) through at_it many in
      (tagged, (unsealed plain, (permitted permission.Load, place)))
  access-says plain (access.Store size) address through at_it many =
      let place = place-says (misaligned (access.Store size)) address (width_of (access.Store size)) through at_it many in
      (tagged, (unsealed plain, (permitted permission.Store, place)))
  access-says plain access.LoadCapability address through at_it many =
      (tagged, (unsealed plain, (permitted permission.Load, place-says (misaligned access.LoadCapability) address 16 through at_it many)))
  access-says plain (access.StoreCapability what) address through at_it many =
      let a : Access = access.StoreCapability what in (
        tagged,
        (
          unsealed plain,
          (
            permitted permission.Store,
            each-asked_if (InsnSays s k insn) (stores_capability a) _ _ (permitted permission.StoreCapability)
                (each-asked_if (InsnSays s k insn) (stores_local a) _ _ (permitted permission.StoreLocalCapability)
                (place-says (misaligned a) address 16 through at_it many)),
          ),
        ),
      )

  jump-says : ((u : CapValue) → seal_lets k insn u ≡ (not (is_sealed u) || is_entered_sealed u insn.imm))
      → ((b : Bool) → b ≡ permits (held s r) permission.Execute → ExecuteSays s k insn r b)
      → r ≡ asked_through k insn s → jump_target (value_address v) insn.imm ≡ asked_at k insn s → 4 ≡ asked_bytes k insn
      → Each (InsnSays s k insn) (jump_checks v r insn.imm)
  jump-says sentry runs through at_it many = (
    tagged,
    (
      ap (λ u. not (is_sealed u) || is_entered_sealed u insn.imm) (sym at) ∙ sym (sentry (held s r)),
      (
        runs (permits v permission.Execute) (permitted permission.Execute),
        place-says cause.MisalignedJump (jump_target (value_address v) insn.imm) 4 through at_it many,
      ),
    ),
  )

module _ (s : State) (insn : Insn) (range : AreInRange insn) where
  rs1-held : held s insn.rs1 ≡ register s.registers insn.rs1
  rs1-held = held-general s insn.rs1 range.rs1

  rs2-held : held s insn.rs2 ≡ register s.registers insn.rs2
  rs2-held = held-general s insn.rs2 range.rs2

  through-held : (rs1 : Bool) → held s (number_through rs1 insn) ≡ authority_through rs1 insn s
  through-held true = rs1-held
  through-held false = refl

  -- ---- memory

  memory-says : (k : Kind) (a : Access) → ((u : CapValue) → seal_lets k insn u ≡ not (is_sealed u))
      → authority_number_of insn s ≡ asked_through k insn s → place_of insn s ≡ asked_at k insn s → width_of a ≡ asked_bytes k insn
      → InsnSays s k insn (mapped_for a (place_of insn s) s).question (mapped_for a (place_of insn s) s).holds
      → Each (InsnSays s k insn) (memory_asked a insn s)
  memory-says k a plain through at_it many mapped =
      each-append (InsnSays s k insn) (access_checks (authority_of insn s) (authority_number_of insn s) a (place_of insn s)) _
      (access-says s k insn (authority_number_of insn s) (authority_of insn s)
      (through-held (through_rs1 insn.row (in_capability_mode s))) plain a (place_of insn s) through at_it many)
      (mapped, tt)

  -- ---- jumps

  target-says : (k : Kind) (target : ℕ) → 32 ≡ asked_through k insn s → target ≡ asked_at k insn s → 4 ≡ asked_bytes k insn
      → Each (InsnSays s k insn) (link_asked target s)
  target-says k target through at_it many = place-says s k insn 32 s.scrs.pcc refl cause.MisalignedJump target 4 through at_it many

  taken-says : (taken : Bool) (target : ℕ) → target ≡ asked_at kind.Branch insn s
      → Each (InsnSays s kind.Branch insn) (cond taken (link_asked target s) [])
  taken-says true target at_it = target-says kind.Branch target refl at_it refl
  taken-says false target at_it = tt

  branch-says : Each (InsnSays s kind.Branch insn) (branch_asked insn s)
  unfolding jump_target
  branch-says = taken-says _ (jump_target (pc_of s) insn.imm) refl

  enter-says : (k : Kind) → ((u : CapValue) → seal_lets k insn u ≡ (not (is_sealed u) || is_entered_sealed u insn.imm))
      → ((b : Bool) → b ≡ permits (held s insn.rs1) permission.Execute → ExecuteSays s k insn insn.rs1 b)
      → insn.rs1 ≡ asked_through k insn s
      → jump_target (value_address (register s.registers insn.rs1)) insn.imm ≡ asked_at k insn s → 4 ≡ asked_bytes k insn
      → Each (InsnSays s k insn) (enter_asked insn s)
  enter-says k sentry runs through at_it many =
      jump-says s k insn insn.rs1 (register s.registers insn.rs1) rs1-held sentry runs through at_it many

  jalr-says : Each (InsnSays s kind.Jalr insn) (jalr_asked insn s)
  unfolding jump_target
  jalr-says =
      elim (in_capability_mode s) as
      (λ b. in_capability_mode s ≡ b → Each (InsnSays s kind.Jalr insn) (cond b (enter_asked insn s) (link_asked (jalr_target insn s) s))) [
        | true ↦ λ e. enter-says kind.Jalr (λ u. refl) (λ b e. e) (ap (λ b. cond b insn.rs1 32) (sym e)) refl refl
        | false ↦ λ e. target-says kind.Jalr (jalr_target insn s) (ap (λ b. cond b insn.rs1 32) (sym e)) refl refl
      ] refl

  opened-target : (n : ℕ) → jump_target n 0 ≡ n % 2 ^ 64 / 2 * 2
  unfolding jump_target
  opened-target n = ap (λ m. m % 2 ^ 64 / 2 * 2) (omega arith)

  invoke-says : Each (InsnSays s kind.Invoke insn) (invoke_asked insn s)
  invoke-says =
      let code : CapValue = register s.registers insn.rs1 in
      let datum : CapValue = register s.registers insn.rs2 in (
        ap is_tagged (sym rs1-held),
        (
          ap is_tagged (sym rs2-held),
          (
            ap (λ u. not (is_reserved (value_otype u))) (sym rs1-held),
            (
              ap (λ u. not (is_reserved (value_otype u))) (sym rs2-held),
              (
                (
                  refl,
                  refl,
                  ap (λ u. eqb (value_otype u) (value_otype datum)) (sym rs1-held)
                      ∙ ap (λ u. eqb (value_otype (held s insn.rs1)) (value_otype u)) (sym rs2-held),
                ),
                (
                  ap (λ u. permits u permission.CInvoke) (sym rs1-held),
                  (
                    ap (λ u. permits u permission.CInvoke) (sym rs2-held),
                    (
                      inl (refl, ap (λ u. permits u permission.Execute) (sym rs1-held)),
                      (
                        inr (refl, ap (λ u. not (permits u permission.Execute)) (sym rs2-held)),
                        place-says s kind.Invoke insn insn.rs1 code rs1-held cause.MisalignedJump (invoke_target code) 4 refl
                            (opened-target (value_address code)) refl,
                      ),
                    ),
                  ),
                ),
              ),
            ),
          ),
        ),
      )

  -- ---- all rows

  pub kind-says : (k : Kind) → Each (InsnSays s k insn) (asked k (word_here s) insn s)
  unfolding asked jump_target
  kind-says kind.Branch = branch-says
  kind-says kind.Jal = target-says kind.Jal (jal_target insn s) refl refl refl
  kind-says kind.Jalr = jalr-says
  kind-says kind.JalrCap = enter-says kind.JalrCap (λ u. refl) (λ b e. e) refl refl refl
  kind-says kind.Invoke = invoke-says
  kind-says kind.Load = memory-says kind.Load (access.Load (size_of insn.row)) (λ u. refl) refl refl refl (refl, refl, refl)
  kind-says kind.Store = memory-says kind.Store (access.Store (size_of insn.row)) (λ u. refl) refl refl refl (refl, refl, refl)
  kind-says kind.LoadCapability = memory-says kind.LoadCapability access.LoadCapability (λ u. refl) refl refl refl (refl, refl)
  kind-says kind.StoreCapability =
      memory-says kind.StoreCapability (access.StoreCapability (stored_of (register s.registers insn.rs2))) (λ u. refl) refl refl refl
      (refl, refl)
  kind-says kind.Csr = ((refl, refl), ((refl, refl), tt))
  kind-says kind.SpecialRw = ((refl, refl), ((refl, refl), tt))
  kind-says kind.Mret = ((refl, refl), tt)
  kind-says _ = tt

-- ---- the stages

insn-says : (s : State) (found : Option Insn) → IfSome found AreInRange → InsnStageSays found s (insn_stages found (word_here s) s)
insn-says s (Some insn) range = kind-says s insn range (kind_of insn.row)
insn-says s None range = tt

fetched-says : (s : State) (f : Option Fault) → StagesSay s (fetch_asked s ∷ fetched_stages (word_unless f s) s)
fetched-says s None =
    (fetch-says s, ((refl, refl), tt), insn-says s (insn_of (word_here s)) (AreInRange-insn_of (word_here s)))
fetched-says s (Some fault) = fetch-says s

unless-says : (s : State) (p : Option Interrupt) → StagesSay s (stages_unless p s)
unless-says s None = fetched-says s (first_false (fetch_asked s))
unless-says s (Some interrupt) = tt

pub conditions-say : ConditionsSayWhatIsAsked
unfolding stages_of
conditions-say s = unless-says s (pending s.csrs (interrupts_of s.devices))
