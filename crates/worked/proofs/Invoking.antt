-- The two of the pair open one another, and the caller's invocation is a turn.
use Rattle.std.proofs.Common.{◌≡◌, ℕ, zero, suc, ◌+◌, ◌<◌, ◌≤◌, true, false, ◌⊎◌, inl, inr, List, [], ◌∷◌, All, set, refl, sym, ◌∙◌, ap}
use Rattle.std.proofs.Common.{subst, arith, lit<, lit≤}
use Rattle.std.proofs.lemmas.Bool.{both_ways, false_from_ne_true, true≢false}
use Rattle.std.specs.Prelude.{replicate, slice_index}
use Rattle.std.specs.FinSet as finite
use Rattle.std.specs.Ordering.{nat_cmp}
use Rattle.byteorder.specs.Endian.{little_bytes}
use Rattle.base.specs.Ram.{ram_base}
use Rattle.cap_bounds.specs.CapValue.{CapValue, Cap, Data, IsSound, is_sealed, is_tagged, value_base, value_otype, value_top}
use Rattle.cap_bounds.specs.Least.{least_up_to}
use Rattle.cap_bounds.specs.Record.{alignment_for, has_exponent, exponent_for, is_in_window}
use Rattle.cap_bounds.specs.SetAddress.{at_address}
use Rattle.cap_rights.specs.Derivations.{seal_entry}
use Rattle.cap_rights.specs.Opened.{opened}
use Rattle.cap_rights.specs.Permission.{permits}
use Rattle.cap_rights.specs.declared.permission.Permission.TheVariants as permission
use Rattle.cap_rights.specs.Rights.{OpensSystem}
use Rattle.cap_checks.specs.FirstFault.{holds, invoke_fault, jump_target}
use Rattle.tagged_memory.specs.Memory.{has_tag, is_in_ram, number_at, data_written, zeroed}
use Rattle.tagged_memory.specs.MemoryLaws.{tagged-before_data_written}
use Rattle.special_regs.specs.Interrupts.{pending}
use Rattle.image.specs.Image.{IsImage, build_fault, is_good_header}
use Rattle.isa_rows.specs.Decoded.{insn_of}
use Rattle.isa_rows.specs.Insn.{insn_at, sign_extended}
use Rattle.isa_rows.specs.Line.{line_of}
use Rattle.registers.specs.Registers.{null, null_registers, register, with_register}
use Rattle.steps.specs.Accesses.{size_of, through_rs1}
use Rattle.steps.specs.MemoryRows.{store_done}
use Rattle.steps.specs.Effect.{applied}
use Rattle.steps.specs.Event.{after, outcome}
use Rattle.steps.specs.declared.event.Event.TheVariants.{Step}
use Rattle.steps.specs.IsState.{IsState}
use Rattle.steps.specs.State.{State}
use Rattle.steps.specs.Outcome.{Plain, SealedJump, outcome_of, step_outcome}
use Rattle.steps.specs.Step.{asked, does, kind_effect, step_effect, stepped}
use Rattle.hart.specs.OpeningStateLaws.{IsState-opening}
use Rattle.authority.specs.Reachable.{IsReachable, IsRoot, from_root, from_special, from_granule, in_register, in_pcc, in_ddc}
use Rattle.machine.specs.Run.{run_after}
use Rattle.doors.specs.Closed.{IsOpenedBy, IsPair, as_code, as_data}
use Rattle.doors.specs.Doors.{IsReachableThroughDoors, from_root as through-root, from_special as through-special}
use Rattle.doors.specs.Doors.{from_granule as through-granule, behind_door}
use Rattle.doors.specs.Sets.{IsWritableBy}
use Rattle.doors.specs.Turn.{IsTurn}
use Rattle.doors.specs.Worlds.{IsReadableBy}
use Rattle.worked.specs.Counter.{code_capability}
use Rattle.worked.specs.Pair.{caller, pair_image, sealed_code, sealed_data, turn}
use Rattle.worked.proofs.Counting.{below}

-- ---- its doors

pair : IsPair sealed_code sealed_data
unfolding invoke_fault permits holds jump_target
pair = record { code_register = 10; data_register = 11; accepted = refl }

pub code-opened : IsOpenedBy sealed_code sealed_data
code-opened = as_code pair

pub data-opened : IsOpenedBy sealed_data sealed_code
data-opened = as_data pair

code-held : IsReachableThroughDoors caller sealed_code
unfolding caller with_register
code-held = through-root refl (in_register 10 refl)

data-held : IsReachableThroughDoors caller sealed_data
unfolding caller with_register
data-held = through-root refl (in_register 11 refl)

pub behind : IsReachableThroughDoors caller (opened sealed_data)
behind = behind_door data-held code-held data-opened

-- ---- its registers

-- what is true of registers and of a value is true of them with the value in one of them
pub with-one : (P : CapValue → Type 0) (rs : List CapValue) (n : ℕ) (v : CapValue) → P v → ((k : ℕ) → P (register rs k)) → (k : ℕ)
    → P (register (set rs n v) k)
with-one P [] n v here each k = each k
with-one P (r ∷ rs) zero v here each zero = here
with-one P (r ∷ rs) zero v here each (suc k) = each (suc k)
with-one P (r ∷ rs) (suc n) v here each zero = each zero
with-one P (r ∷ rs) (suc n) v here each (suc k) = with-one P rs n v here (λ j. each (suc j)) k

with-pair : (P : CapValue → Type 0) → P sealed_code → P sealed_data → ((k : ℕ) → P (register null_registers k)) → (k : ℕ)
    → P (register caller.registers k)
unfolding caller with_register
with-pair P code datum each =
    with-one P (set null_registers 10 sealed_code) 11 sealed_data datum (with-one P null_registers 10 sealed_code code each)

-- ---- it is a state

valid : IsImage pair_image
unfolding build_fault is_good_header
valid = refl

hold-bytes : All (λ section. (k : ℕ) → slice_index section.bytes k < 256) pair_image.sections
hold-bytes zero d inside = below (little_bytes 4 0xfcb5_00db) refl
hold-bytes (suc zero) d inside = below (little_bytes 4 0x00af_a023) refl
hold-bytes (suc (suc k)) d inside = absurd (omega arith)

pub is-state : IsState caller
unfolding caller with_register alignment_for has_exponent exponent_for least_up_to is_in_window
is-state =
    let opens = IsState-opening pair_image valid hold-bytes in
    let code_sound : IsSound sealed_code = record {
      ordered = lit≤ tt;
      in_space = lit≤ tt;
      base_fits = lit< tt;
      address_fits = lit< tt;
      perms_fit = lit< tt;
      otype_fits = lit< tt;
      base_aligned = refl;
      top_aligned = refl;
      in_window = refl;
    } in
    let data_sound : IsSound sealed_data = record {
      ordered = lit≤ tt;
      in_space = lit≤ tt;
      base_fits = lit< tt;
      address_fits = lit< tt;
      perms_fit = lit< tt;
      otype_fits = lit< tt;
      base_aligned = refl;
      top_aligned = refl;
      in_window = refl;
    } in
    record {
      registers = record { count = refl; first = refl };
      values = with-pair IsSound code_sound data_sound opens.values;
      scrs = record {
        pcc = record {
          ordered = lit≤ tt;
          in_space = lit≤ tt;
          base_fits = lit< tt;
          address_fits = lit< tt;
          perms_fit = lit< tt;
          otype_fits = lit< tt;
          base_aligned = refl;
          top_aligned = refl;
          in_window = refl;
        };
        ddc = opens.scrs.mtdc;
        mtcc = opens.scrs.mtcc;
        mtdc = opens.scrs.mtdc;
        mscratchc = opens.scrs.mscratchc;
        mepcc = opens.scrs.mepcc;
        aligned = refl;
      };
      csrs = opens.csrs;
      memory = opens.memory;
      capabilities = opens.capabilities;
      devices = opens.devices;
    }

-- ---- its two steps

-- what they come to and leave; all of it is computed
record Turns (s : State) : Type 0 where
  jump : outcome Step s ≡ SealedJump
  store : outcome Step (after Step s) ≡ Plain
  stored : number_at (run_after turn s).memory 0x8000_0300 4 ≡ 0x8000_0200

turns : Turns caller
unfolding caller with_register step_outcome outcome_of step_effect stepped pending permits holds is_in_ram data_written insn_of line_of
    insn_at sign_extended kind_effect asked does jump_target opened seal_entry at_address is_in_window exponent_for least_up_to applied
    size_of through_rs1 store_done
turns = record { jump = refl; store = refl; stored = refl }

pub jump : outcome Step caller ≡ SealedJump
jump = turns.jump

pub in-a-turn : IsTurn turn caller
in-a-turn = record { state = is-state; are_events = (tt, (tt, tt)); are_plain_or_jumps = (inr turns.jump, (inl turns.store, tt)) }

pub stores : number_at (run_after turn caller).memory 0x8000_0300 4 ≡ 0x8000_0200
stores = turns.stored

-- ---- without doors

-- what is reachable so: PCC and the pair
abbrev IsOne : CapValue → Type 0
IsOne v = (v ≡ code_capability) ⊎ ((v ≡ sealed_code) ⊎ (v ≡ sealed_data))

untagged : (granule : ℕ) → has_tag caller.memory granule ≡ false
unfolding caller
untagged granule =
    false_from_ne_true _
    (λ tagged. both_ways _ (finite.contains-empty nat_cmp granule)
    (tagged-before_data_written (zeroed 1) 0x8000_0000 (little_bytes 4 0xfcb5_00db) granule
    (tagged-before_data_written (data_written (zeroed 1) 0x8000_0000 (little_bytes 4 0xfcb5_00db)) 0x8000_0200
    (little_bytes 4 0x00af_a023) granule tagged)))

nulls : (n k : ℕ) → is_tagged (register (replicate n null) k) ≡ true → IsOne (register (replicate n null) k)
nulls zero k tagged = absurd (true≢false (sym tagged))
nulls (suc n) zero tagged = absurd (true≢false (sym tagged))
nulls (suc n) (suc k) tagged = nulls n k tagged

in-registers : (k : ℕ) → is_tagged (register caller.registers k) ≡ true → IsOne (register caller.registers k)
in-registers = with-pair (λ v. is_tagged v ≡ true → IsOne v) (λ _. inr (inl refl)) (λ _. inr (inr refl)) (nulls 32)

root : (v : CapValue) → is_tagged v ≡ true → IsRoot caller v → IsOne v
unfolding caller
root v tagged (in_register n same) = subst IsOne (sym same) (in-registers n (sym (ap is_tagged same) ∙ tagged))
root v tagged (in_pcc same) = inl same
root v tagged (in_ddc same) = absurd (true≢false (sym tagged ∙ ap is_tagged same))

no-system : (c : CapValue) → IsOne c → OpensSystem c → ⊥
unfolding permits
no-system c (inl same) opens = true≢false (sym opens.system ∙ ap (λ v. permits v permission.AccessSystemRegisters) same)
no-system c (inr (inl same)) opens = true≢false (sym (ap is_sealed same) ∙ opens.unsealed)
no-system c (inr (inr same)) opens = true≢false (sym (ap is_sealed same) ∙ opens.unsealed)

reached : (v : CapValue) → IsReachable caller v → IsOne v
reached v (from_root tagged is) = root v tagged is
reached v (from_special {c = c} reachable opens tagged special) = absurd (no-system c (reached c reachable) opens)
reached v (from_granule granule reachable opens here) = absurd (true≢false (sym here.tagged ∙ untagged granule))

another : IsOne (opened sealed_data) → ⊥
unfolding opened
another (inl same) = let base : value_base (opened sealed_data) ≡ value_base code_capability = ap value_base same in omega arith
another (inr (inl same)) = let otype : value_otype (opened sealed_data) ≡ value_otype sealed_code = ap value_otype same in omega arith
another (inr (inr same)) = let otype : value_otype (opened sealed_data) ≡ value_otype sealed_data = ap value_otype same in omega arith

pub hidden : IsReachable caller (opened sealed_data) → ⊥
hidden reachable = another (reached (opened sealed_data) reachable)

-- ---- through doors

-- tagged, in the bytes of RAM up to the end of the pair's data, and without access to the system registers
record IsLow (v : CapValue) : Type 0 where
  tagged : is_tagged v ≡ true
  base : ram_base ≤ value_base v
  top : value_top v ≤ 0x8000_0400
  system : permits v permission.AccessSystemRegisters ≡ false

low-one : (v : CapValue) → IsOne v → IsLow v
unfolding permits
low-one v (inl same) = subst IsLow (sym same) (record { tagged = refl; base = lit≤ tt; top = lit≤ tt; system = refl })
low-one v (inr (inl same)) = subst IsLow (sym same) (record { tagged = refl; base = lit≤ tt; top = lit≤ tt; system = refl })
low-one v (inr (inr same)) = subst IsLow (sym same) (record { tagged = refl; base = lit≤ tt; top = lit≤ tt; system = refl })

low-opened : (v : CapValue) → IsLow v → IsLow (opened v)
unfolding opened permits
low-opened (Cap r) low = record { tagged = refl; base = low.base; top = low.top; system = low.system }
low-opened (Data n) low = absurd (true≢false (sym low.tagged))

low : (v : CapValue) → IsReachableThroughDoors caller v → IsLow v
low v (through-root tagged is) = low-one v (root v tagged is)
low v (through-special {c = c} reachable opens tagged special) = absurd (true≢false (sym opens.system ∙ (low c reachable).system))
low v (through-granule granule reachable opens here) = absurd (true≢false (sym here.tagged ∙ untagged granule))
low v (behind_door {c = c} reachable key opens) = low-opened c (low c reachable)

pub not-read : (k : ℕ) → 0x400 ≤ k → IsReadableBy (IsReachableThroughDoors caller) (ram_base + k) → ⊥
not-read k above is = let top = (low is.source is.member).top in omega (arith, is.opens.top)

pub not-written : (a : ℕ) → (a < ram_base) ⊎ (0x8000_0400 ≤ a) → IsWritableBy (IsReachableThroughDoors caller) a → ⊥
not-written a (inl below_ram) is = let base = (low is.source is.member).base in omega (arith, is.opens.base)
not-written a (inr above) is = let top = (low is.source is.member).top in omega (arith, is.opens.top)
