-- What can be fetched: PCC passes the checks of the fetch, and RAM answers; so where a rule holds it lies in its ranges for fetches.
use Rattle.std.proofs.Common.{◌≡◌, ℕ, ◌+◌, ◌<◌, ◌≤◌, Bool, true, false, Option, None, Some, Result, Ok, Err, cond, refl, subst, arith}
use Rattle.std.proofs.Common.{inl, inr}
use Rattle.base.specs.declared.fault.Fault.{Fault}
use Rattle.base.specs.declared.cause.Cause.TheVariants as cause
use Rattle.base.specs.Fault.{fault}
use Rattle.base.specs.Ram.{ram_base}
use Rattle.cap_bounds.specs.CapValue.{CapValue}
use Rattle.cap_checks.specs.FirstFault.{fetch_fault}
use Rattle.tagged_memory.specs.Memory.{is_in_ram, number_at}
use Rattle.tagged_memory.specs.MemoryLaws.{in_ram}
use Rattle.devices.specs.Devices.{interrupts_of}
use Rattle.special_regs.specs.Interrupts.{pending}
use Rattle.special_regs.specs.declared.interrupts.Interrupt.{Interrupt}
use Rattle.steps.specs.AskedLaws.{fetch-fetched}
use Rattle.steps.specs.Outcome.{Plain, outcome_of, step_outcome_unless, step_outcome}
use Rattle.steps.specs.RowEffects.{fetched}
use Rattle.steps.specs.State.{State, pc_of}
use Rattle.steps.specs.Step.{fetch, fetched_effect, decided, step_effect}
use Rattle.authority.specs.Reachable.{IsReachable, from_root, in_pcc}
use Rattle.authority.specs.RowLaws.{IsFetched, fetched-pcc}
use Rattle.reach.specs.Ranges.{IsInOne}
use Rattle.policy.specs.Terms.{Terms}
use Rattle.policy.specs.declared.rule.Ban.TheVariants as ban
use Rattle.policy.specs.Rule.{Breaks}
use Rattle.policy.specs.Watch.{Applies, IsAbout, Holds, fetched_at, fetched_from}
use Rattle.policy.proofs.Covers.{in_or_out}

-- PCC passes the checks of the fetch, and the instruction lies in RAM
abbrev pub IsFetchedInRam : State → Type 0
IsFetchedInRam s = IsFetched s × (ram_base ≤ pc_of s)

module _ (s : State) where
  in-ram : (inside : Bool) → is_in_ram s.memory (pc_of s) 4 ≡ inside → (pc : ℕ)
      → fetched_from (cond inside (Ok (number_at s.memory (pc_of s) 4)) (Err (fault cause.FetchAccess (pc_of s)))) (pc_of s) ≡ Some pc
      → (ram_base ≤ pc_of s) × (pc_of s ≡ pc)
  in-ram true same pc is = ((in_ram s.memory (pc_of s) 4 same).0, cc)
  in-ram false same pc is = cc

  by-fault : (f : Option Fault) → fetch_fault s.scrs.pcc ≡ f → (pc : ℕ) → fetched_from (fetched f s) (pc_of s) ≡ Some pc
      → IsFetchedInRam s × (pc_of s ≡ pc)
  unfolding fetched
  by-fault (Some f) same pc is = cc
  by-fault None same pc is =
      let both = in-ram (is_in_ram s.memory (pc_of s) 4) refl pc is in
      ((fetched-pcc s same, both.0), both.1)

  pub fetched-is : (pc : ℕ) → fetched_at s ≡ Some pc → IsFetchedInRam s × (pc_of s ≡ pc)
  fetched-is pc is =
      by-fault (fetch_fault s.scrs.pcc) refl pc (subst (λ r. fetched_from r (pc_of s) ≡ Some pc) (fetch-fetched s) is)

  -- ---- a plain step

  from-fetch : (r : Result ℕ Fault) → outcome_of (fetched_effect r s) ≡ Plain → fetched_from r (pc_of s) ≡ Some (pc_of s)
  unfolding outcome_of
  from-fetch (Ok word) plain = refl
  from-fetch (Err f) plain = cc

  from-decided : (o : Option Interrupt) → outcome_of (decided o s) ≡ Plain → fetched_at s ≡ Some (pc_of s)
  unfolding outcome_of
  from-decided (Some interrupt) plain = cc
  from-decided None plain = from-fetch (fetch s) plain

  -- was fetched, where the machine runs
  pub plain-fetched : s.devices.halted ≡ None → step_outcome s ≡ Plain → IsFetchedInRam s
  unfolding step_effect step_outcome
  plain-fetched running plain =
      (fetched-is (pc_of s) (from-decided (pending s.csrs (interrupts_of s.devices))
      (subst (λ h. step_outcome_unless h s ≡ Plain) running plain))).0

-- ---- a rule that applies

about-from : (rule : Terms) (r : Result ℕ Fault) (pc : ℕ) → Applies rule (fetched_from r pc) → IsAbout rule pc
about-from rule (Ok word) pc about = about
about-from rule (Err f) pc about = absurd about

-- is about the code at PCC's address
pub about-fetched : (rule : Terms) (s : State) → Applies rule (fetched_at s) → IsAbout rule (pc_of s)
about-fetched rule s = about-from rule (fetch s) (pc_of s)

-- ---- where code is fetched

module _ (rule : Terms) (s : State) (keep : (v : CapValue) → IsReachable s v → Breaks rule ban.Execute v → ⊥) where
  pub in-execute : IsFetchedInRam s → (a : ℕ) → pc_of s ≤ a → a < pc_of s + 4 → IsInOne rule.execute a
  in-execute both a low high =
      let fetch = both.0 in
      let base = fetch.base in
      let top = fetch.top in
      let ram = both.1 in
      elim (in_or_out rule.execute a) [
        | inl one ↦ one
        | inr outside ↦ absurd (keep s.scrs.pcc (from_root fetch.tagged (in_pcc refl)) (record {
          byte = a;
          in_ram = omega arith;
          outside = outside;
          lets = record { unsealed = fetch.unsealed; permitted = fetch.executes };
          base = omega arith;
          top = omega arith;
        }))
      ]

  pub fetched-within : (pc a : ℕ) → fetched_at s ≡ Some pc → pc ≤ a → a < pc + 4 → IsInOne rule.execute a
  fetched-within pc a is low high =
      let both = fetched-is s pc is in
      let same : pc_of s ≡ pc = both.1 in
      in-execute both.0 a (omega arith) (omega arith)

pub executes : (rule : Terms) (s : State) → Holds rule s → (v : CapValue) → IsReachable s v → Breaks rule ban.Execute v → ⊥
executes rule s holds v reachable broken = holds v reachable (record { ban = ban.Execute; breaks = broken })
