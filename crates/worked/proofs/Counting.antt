-- The counter is a state, and its round is plain.
use Rattle.std.proofs.Common.{◌≡◌, ℕ, zero, suc, ◌+◌, ◌*◌, ◌<◌, ◌≤◌, true, ltb, List, [], ◌∷◌, All, None, Some, take, refl, arith, lit<}
use Rattle.std.proofs.Common.{lit≤}
use Rattle.std.proofs.lemmas.Bool.{and_parts, ltb-true}
use Rattle.std.specs.Prelude.{slice_index}
use Rattle.std.specs.List.{list_all}
use Rattle.cap_bounds.specs.Least.{least_up_to}
use Rattle.cap_bounds.specs.Record.{alignment_for, has_exponent, exponent_for, is_in_window}
use Rattle.cap_bounds.specs.Rounding.{is_exact, rounded_base, rounded_top, rounding_granule, rounding_exponent}
use Rattle.cap_bounds.specs.SetAddress.{at_address}
use Rattle.cap_rights.specs.Permission.{permits}
use Rattle.cap_checks.specs.FirstFault.{holds, jump_target}
use Rattle.tagged_memory.specs.Memory.{is_in_ram, number_at, data_written, capability_written}
use Rattle.special_regs.specs.Interrupts.{pending}
use Rattle.image.specs.Image.{IsImage, build_fault, is_good_header, is_capability_place, is_exact_range}
use Rattle.isa_rows.specs.Decoded.{insn_of}
use Rattle.isa_rows.specs.Insn.{insn_at, sign_extended}
use Rattle.isa_rows.specs.Line.{line_of}
use Rattle.alu.specs.Integer.{int_result}
use Rattle.registers.specs.Registers.{with_register}
use Rattle.steps.specs.Accesses.{size_of, through_rs1}
use Rattle.steps.specs.ComputeRows.{integer_effect, auipc_effect}
use Rattle.steps.specs.MemoryRows.{store_done}
use Rattle.steps.specs.JumpRows.{link_of}
use Rattle.steps.specs.Effect.{applied}
use Rattle.steps.specs.IsState.{IsState}
use Rattle.steps.specs.State.{State, pc_of}
use Rattle.steps.specs.Outcome.{outcome_of, step_outcome}
use Rattle.steps.specs.Step.{asked, does, kind_effect, step_effect, stepped}
use Rattle.hart.specs.OpeningStateLaws.{IsState-opening}
use Rattle.machine.specs.Run.{run_after}
use Rattle.machine.specs.Stretch.{ArePlain, IsPlainRun, IsStretch}
use Rattle.policy.specs.Watch.{fetched_at}
use Rattle.worked.specs.Counter.{code, image, counter, round}

-- ---- it is a state

valid : (secret : ℕ) → IsImage (image secret)
unfolding build_fault is_good_header is_capability_place is_exact_range is_exact rounded_base rounded_top rounding_granule
    rounding_exponent least_up_to
valid secret = refl

pub below : (bytes : List ℕ) → list_all (λ b. ltb b 256) bytes ≡ true → (k : ℕ) → slice_index bytes k < 256
below [] each k = lit< tt
below (b ∷ bs) each zero = ltb-true b 256 (and_parts _ _ each).0
below (b ∷ bs) each (suc k) = below bs (and_parts _ _ each).1 k

module _ (secret : ℕ) (fits : secret < 256) where
  one : (k : ℕ) → slice_index (secret ∷ []) k < 256
  one zero = fits
  one (suc k) = lit< tt

  hold-bytes : All (λ section. (k : ℕ) → slice_index section.bytes k < 256) (image secret).sections
  hold-bytes zero d inside = below code refl
  hold-bytes (suc zero) d inside = one
  hold-bytes (suc (suc k)) d inside = absurd (omega arith)

  pub is-state : IsState (counter secret)
  unfolding counter alignment_for has_exponent exponent_for least_up_to is_in_window
  is-state =
      let opened = IsState-opening (image secret) (valid secret) hold-bytes in
      record {
        registers = opened.registers;
        values = opened.values;
        scrs = record {
          pcc = record {
            ordered = lit≤ tt;
            in_space = lit≤ tt;
            base_fits = lit< tt;
            address_fits = lit< tt;
            perms_fit = lit< tt;
            otype_fits = lit< tt;
            base_aligned = refl;
            top_aligned = refl;
            in_window = refl;
          };
          ddc = record {
            ordered = lit≤ tt;
            in_space = lit≤ tt;
            base_fits = lit< tt;
            address_fits = lit< tt;
            perms_fit = lit< tt;
            otype_fits = lit< tt;
            base_aligned = refl;
            top_aligned = refl;
            in_window = refl;
          };
          mtcc = opened.scrs.mtcc;
          mtdc = opened.scrs.mtdc;
          mscratchc = opened.scrs.mscratchc;
          mepcc = opened.scrs.mepcc;
          aligned = refl;
        };
        csrs = opened.csrs;
        memory = opened.memory;
        capabilities = opened.capabilities;
        devices = opened.devices;
      }

-- ---- its four steps

-- What is fetched at each, and what the round leaves; all of it is computed.
record GoesRound (s : State) : Type 0 where
  are_plain : ArePlain round s
  first : fetched_at s ≡ Some 0x8000_0000
  second : fetched_at (run_after (take 1 round) s) ≡ Some 0x8000_0004
  third : fetched_at (run_after (take 2 round) s) ≡ Some 0x8000_0008
  fourth : fetched_at (run_after (take 3 round) s) ≡ Some 0x8000_000c
  again : pc_of (run_after round s) ≡ 0x8000_0000
  count : number_at (run_after round s).memory 0x8000_0100 4 ≡ 1

goes-round : (secret : ℕ) → GoesRound (counter secret)
unfolding counter step_outcome outcome_of step_effect stepped pending permits holds is_in_ram data_written capability_written
    insn_of line_of insn_at sign_extended kind_effect asked does integer_effect int_result auipc_effect size_of through_rs1 store_done
    link_of jump_target applied with_register at_address is_in_window exponent_for least_up_to
goes-round secret = record {
  are_plain = (refl, (refl, (refl, (refl, tt))));
  first = refl;
  second = refl;
  third = refl;
  fourth = refl;
  again = refl;
  count = refl;
}

pub plain : (secret : ℕ) → secret < 256 → IsPlainRun round (counter secret)
plain secret fits =
    record { state = is-state secret fits; are_events = (tt, (tt, (tt, (tt, tt)))); are_plain = (goes-round secret).are_plain }

pub stretch : (secret : ℕ) → IsStretch round 4 None (counter secret)
stretch secret = record { some = omega arith; plain = (goes-round secret).are_plain; end = refl }

pub counts : (secret : ℕ) → number_at (run_after round (counter secret)).memory 0x8000_0100 4 ≡ 1
counts secret = (goes-round secret).count

pub begins-again : (secret : ℕ) → pc_of (run_after round (counter secret)) ≡ 0x8000_0000
begins-again secret = (goes-round secret).again

pub fetched-at : (secret k : ℕ) → k < 4 → fetched_at (run_after (take k round) (counter secret)) ≡ Some (0x8000_0000 + 4 * k)
fetched-at secret zero inside = (goes-round secret).first
fetched-at secret (suc zero) inside = (goes-round secret).second
fetched-at secret (suc (suc zero)) inside = (goes-round secret).third
fetched-at secret (suc (suc (suc zero))) inside = (goes-round secret).fourth
fetched-at secret (suc (suc (suc (suc k)))) inside = absurd (omega arith)
