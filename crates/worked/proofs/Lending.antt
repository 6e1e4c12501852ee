-- The borrower's move is a turn, its store traps, and of the loan nothing is left when the kernel has cleared its registers.
use Rattle.std.proofs.Common.{◌≡◌, ℕ, zero, suc, ◌<◌, true, false, inl, All, set, refl, sym, ◌∙◌, ap}
use Rattle.std.proofs.Common.{subst, arith, lit<, lit≤}
use Rattle.std.proofs.lemmas.Bool.{both_ways, false_from_ne_true, true≢false}
use Rattle.std.specs.Prelude.{replicate, slice_index}
use Rattle.std.specs.FinSet as finite
use Rattle.std.specs.Ordering.{nat_cmp}
use Rattle.byteorder.specs.Endian.{little_bytes}
use Rattle.base.specs.Fault.{cheri, fault}
use Rattle.cap_bounds.specs.CapValue.{CapValue, Cap, Data, IsSound, is_tagged, value_base}
use Rattle.cap_bounds.specs.Least.{least_up_to}
use Rattle.cap_bounds.specs.Record.{alignment_for, has_exponent, exponent_for, is_in_window}
use Rattle.cap_bounds.specs.SetAddress.{at_address}
use Rattle.cap_rights.specs.Opened.{opened}
use Rattle.cap_rights.specs.Permission.{permits}
use Rattle.cap_rights.specs.declared.permission.Permission.TheVariants as permission
use Rattle.cap_checks.specs.FirstFault.{holds}
use Rattle.cap_insns.specs.CapabilityRows.{row_value}
use Rattle.tagged_memory.specs.Memory.{Memory, has_tag, is_in_ram, data_written, zeroed}
use Rattle.tagged_memory.specs.MemoryLaws.{tagged-before_data_written}
use Rattle.special_regs.specs.Interrupts.{pending}
use Rattle.image.specs.Image.{IsImage, build_fault, is_good_header}
use Rattle.isa_rows.specs.Decoded.{insn_of}
use Rattle.isa_rows.specs.Insn.{insn_at, sign_extended}
use Rattle.isa_rows.specs.Line.{line_of}
use Rattle.registers.specs.Registers.{null, null_registers, register, with_register}
use Rattle.steps.specs.Accesses.{size_of, through_rs1}
use Rattle.steps.specs.ComputeRows.{capability_effect}
use Rattle.steps.specs.Effect.{applied}
use Rattle.steps.specs.Event.{after, outcome}
use Rattle.steps.specs.declared.event.Event.TheVariants.{Step}
use Rattle.steps.specs.IsState.{IsState}
use Rattle.steps.specs.State.{State}
use Rattle.steps.specs.Outcome.{Plain, Trap, outcome_of, step_outcome}
use Rattle.steps.specs.Step.{asked, does, kind_effect, step_effect, stepped}
use Rattle.hart.specs.OpeningStateLaws.{IsState-opening}
use Rattle.authority.specs.Lent.{NoneKeepsAt}
use Rattle.authority.specs.Reachable.{IsReachable, IsRoot, IsHeldAt, in_register, in_pcc, in_ddc, from_root as here-root}
use Rattle.authority.specs.Reachable.{from_special as here-special, from_granule as here-granule}
use Rattle.machine.specs.Run.{run_after}
use Rattle.doors.specs.Doors.{IsReachableThroughDoors, from_root, from_special, from_granule, behind_door}
use Rattle.doors.specs.Lent.{IsLent, IsClearedOf}
use Rattle.doors.specs.Turn.{IsTurn}
use Rattle.worked.specs.Counter.{data_capability}
use Rattle.worked.specs.Loan.{borrower, borrower_code, cleared, loan, loan_image, move, trapped}
use Rattle.worked.proofs.Counting.{below}
use Rattle.worked.proofs.Invoking.{with-one}

pub is-lent : IsLent loan
unfolding permits
is-lent = record { tagged = refl; local = refl }

pub loan-reached : IsReachable borrower loan
unfolding borrower with_register
loan-reached = here-root refl (in_register 10 refl)

-- ---- it is a state

valid : IsImage loan_image
unfolding build_fault is_good_header
valid = refl

hold-bytes : All (λ section. (k : ℕ) → slice_index section.bytes k < 256) loan_image.sections
hold-bytes zero d inside = below (little_bytes 4 0xfea5_065b) refl
hold-bytes (suc zero) d inside = below (little_bytes 4 0x00c5_c023) refl
hold-bytes (suc (suc k)) d inside = absurd (omega arith)

-- what is true of null, of the loan and of the borrower's data is true of each register
each-register : (P : CapValue → Type 0) → P loan → P data_capability → ((k : ℕ) → P (register null_registers k)) → (k : ℕ)
    → P (register borrower.registers k)
unfolding borrower with_register
each-register P lent datum each =
    with-one P (set null_registers 10 loan) 11 data_capability datum (with-one P null_registers 10 loan lent each)

is-state : IsState borrower
unfolding borrower with_register alignment_for has_exponent exponent_for least_up_to is_in_window
is-state =
    let opens = IsState-opening loan_image valid hold-bytes in
    let lent_sound : IsSound loan = record {
      ordered = lit≤ tt;
      in_space = lit≤ tt;
      base_fits = lit< tt;
      address_fits = lit< tt;
      perms_fit = lit< tt;
      otype_fits = lit< tt;
      base_aligned = refl;
      top_aligned = refl;
      in_window = refl;
    } in
    let data_sound : IsSound data_capability = record {
      ordered = lit≤ tt;
      in_space = lit≤ tt;
      base_fits = lit< tt;
      address_fits = lit< tt;
      perms_fit = lit< tt;
      otype_fits = lit< tt;
      base_aligned = refl;
      top_aligned = refl;
      in_window = refl;
    } in
    record {
      registers = record { count = refl; first = refl };
      values = each-register IsSound lent_sound data_sound opens.values;
      scrs = record {
        pcc = record {
          ordered = lit≤ tt;
          in_space = lit≤ tt;
          base_fits = lit< tt;
          address_fits = lit< tt;
          perms_fit = lit< tt;
          otype_fits = lit< tt;
          base_aligned = refl;
          top_aligned = refl;
          in_window = refl;
        };
        ddc = opens.scrs.mtdc;
        mtcc = opens.scrs.mtcc;
        mtdc = opens.scrs.mtdc;
        mscratchc = opens.scrs.mscratchc;
        mepcc = opens.scrs.mepcc;
        aligned = refl;
      };
      csrs = opens.csrs;
      memory = opens.memory;
      capabilities = opens.capabilities;
      devices = opens.devices;
    }

-- ---- its two steps

-- what they come to and leave; all of it is computed
pub record Tries (s : State) : Type 0 where
  pub plain : outcome Step s ≡ Plain
  pub moved : register (run_after move s).registers 12 ≡ loan
  pub trap : outcome Step (run_after move s) ≡ Trap
  pub cause : (after Step (run_after move s)).csrs.mtval ≡ 0x176
  pub memory : (after Step (run_after move s)).memory ≡ s.memory

pub tries : Tries borrower
unfolding borrower with_register step_outcome outcome_of step_effect stepped pending permits holds is_in_ram data_written insn_of line_of
    insn_at sign_extended kind_effect asked does at_address is_in_window exponent_for least_up_to applied size_of through_rs1
    capability_effect row_value cheri fault
tries = record { plain = refl; moved = refl; trap = refl; cause = refl; memory = refl }

pub in-a-turn : IsTurn move borrower
in-a-turn = record { state = is-state; are_events = (tt, tt); are_plain_or_jumps = (inl tries.plain, tt) }

-- ---- its memory

untagged : (granule : ℕ) → has_tag borrower.memory granule ≡ false
unfolding borrower
untagged granule =
    false_from_ne_true _
    (λ tagged. both_ways _ (finite.contains-empty nat_cmp granule)
    (tagged-before_data_written (zeroed 1) 0x8000_0000 (little_bytes 4 0xfea5_065b) granule
    (tagged-before_data_written (data_written (zeroed 1) 0x8000_0000 (little_bytes 4 0xfea5_065b)) 0x8000_0004
    (little_bytes 4 0x00c5_c023) granule tagged)))

pub none-lay : (granule : ℕ) → IsHeldAt borrower.memory granule loan → ⊥
none-lay granule here = true≢false (sym here.tagged ∙ untagged granule)

none-held : (m : Memory) → m ≡ borrower.memory → (granule : ℕ) (v : CapValue) → IsHeldAt m granule v → ⊥
none-held m same granule v here = true≢false (sym here.tagged ∙ ap (λ x. has_tag x granule) same ∙ untagged granule)

-- ---- what is reachable

-- tagged, without Store_Local_Capability and without access to the system registers
record IsMeek (v : CapValue) : Type 0 where
  tagged : is_tagged v ≡ true
  locals : permits v permission.StoreLocalCapability ≡ false
  system : permits v permission.AccessSystemRegisters ≡ false

meek-loan : IsMeek loan
unfolding permits
meek-loan = record { tagged = refl; locals = refl; system = refl }

meek-data : IsMeek data_capability
unfolding permits
meek-data = record { tagged = refl; locals = refl; system = refl }

meek-code : IsMeek borrower_code
unfolding permits
meek-code = record { tagged = refl; locals = refl; system = refl }

meek-opened : (v : CapValue) → IsMeek v → IsMeek (opened v)
unfolding opened permits
meek-opened (Cap r) meek = record { tagged = refl; locals = meek.locals; system = meek.system }
meek-opened (Data n) meek = absurd (true≢false (sym meek.tagged))

abbrev IsMeekIfTagged : CapValue → Type 0
IsMeekIfTagged v = is_tagged v ≡ true → IsMeek v

meek-null : (n k : ℕ) → IsMeekIfTagged (register (replicate n null) k)
meek-null zero k tagged = absurd (true≢false (sym tagged))
meek-null (suc n) zero tagged = absurd (true≢false (sym tagged))
meek-null (suc n) (suc k) tagged = meek-null n k tagged

meek-root : (s : State) → s.scrs.pcc ≡ borrower_code → s.scrs.ddc ≡ null → ((k : ℕ) → IsMeekIfTagged (register s.registers k))
    → (v : CapValue) → is_tagged v ≡ true → IsRoot s v → IsMeek v
meek-root s pcc ddc registers v tagged (in_register n same) = subst IsMeek (sym same) (registers n (sym (ap is_tagged same) ∙ tagged))
meek-root s pcc ddc registers v tagged (in_pcc same) = subst IsMeek (sym (same ∙ pcc)) meek-code
meek-root s pcc ddc registers v tagged (in_ddc same) = absurd (true≢false (sym tagged ∙ ap is_tagged (same ∙ ddc)))

borrower-root : (v : CapValue) → is_tagged v ≡ true → IsRoot borrower v → IsMeek v
unfolding borrower
borrower-root v tagged is =
    meek-root borrower refl refl (each-register IsMeekIfTagged (λ _. meek-loan) (λ _. meek-data) (meek-null 32)) v tagged is

meek : (v : CapValue) → IsReachableThroughDoors borrower v → IsMeek v
meek v (from_root tagged is) = borrower-root v tagged is
meek v (from_special {c = c} reachable opens tagged special) = absurd (true≢false (sym opens.system ∙ (meek c reachable).system))
meek v (from_granule granule reachable opens here) = absurd (none-held borrower.memory refl granule v here)
meek v (behind_door {c = c} reachable key opens) = meek-opened c (meek c reachable)

pub none-keeps : (granule : ℕ) → NoneKeepsAt (IsReachableThroughDoors borrower) granule
none-keeps granule c member opens = true≢false (sym opens.locals ∙ (meek c member).locals)

-- ---- when the kernel has cleared it

-- what is true of null and of the borrower's data is true of each register
cleared-register : (P : CapValue → Type 0) → P data_capability → ((k : ℕ) → P (register null_registers k)) → (k : ℕ)
    → P (register cleared.registers k)
unfolding cleared with_register
cleared-register P datum each = with-one P null_registers 11 data_capability datum each

cleared-root : (v : CapValue) → is_tagged v ≡ true → IsRoot cleared v → IsMeek v
unfolding cleared
cleared-root v tagged is =
    meek-root cleared refl refl (cleared-register IsMeekIfTagged (λ _. meek-data) (meek-null 32)) v tagged is

cleared-memory : cleared.memory ≡ borrower.memory
unfolding cleared
cleared-memory = tries.memory

meek-cleared : (v : CapValue) → IsReachable cleared v → IsMeek v
meek-cleared v (here-root tagged is) = cleared-root v tagged is
meek-cleared v (here-special {c = c} reachable opens tagged special) =
    absurd (true≢false (sym opens.system ∙ (meek-cleared c reachable).system))
meek-cleared v (here-granule granule reachable opens here) = absurd (none-held cleared.memory cleared-memory granule v here)

-- another base than the loan's
abbrev IsAnother : CapValue → Type 0
IsAnother v = loan ≡ v → ⊥

null-another : (n k : ℕ) → IsAnother (register (replicate n null) k)
null-another zero k same = true≢false (ap is_tagged same)
null-another (suc n) zero same = true≢false (ap is_tagged same)
null-another (suc n) (suc k) same = null-another n k same

data-another : IsAnother data_capability
data-another same = let base : value_base loan ≡ value_base data_capability = ap value_base same in omega arith

code-another : IsAnother borrower_code
code-another same = let base : value_base loan ≡ value_base borrower_code = ap value_base same in omega arith

no-root : IsRoot cleared loan → ⊥
unfolding cleared
no-root (in_register n same) = cleared-register IsAnother data-another (null-another 32) n same
no-root (in_pcc same) = code-another same
no-root (in_ddc same) = true≢false (ap is_tagged same)

pub is-cleared : IsClearedOf loan trapped cleared
unfolding cleared
is-cleared = record {
  roots = no-root;
  system = λ has. true≢false (sym has.opens.system ∙ (meek-cleared has.source has.reachable).system);
  granules = λ c granule reachable opens here. here;
}
