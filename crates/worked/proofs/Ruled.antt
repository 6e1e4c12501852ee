-- The counter's rule holds, and its round keeps to it.
use Rattle.std.proofs.Common.{◌≡◌, ◌≢◌, ℕ, zero, suc, ◌+◌, ◌*◌, ◌-◌, ◌<◌, ◌≤◌, false, ◌⊎◌, inl, inr, List, [], ◌∷◌, length, take, refl, sym}
use Rattle.std.proofs.Common.{subst, arith}
use Rattle.std.proofs.lemmas.Bool.{both_ways}
use Rattle.std.specs.Prelude.{slice_index_or}
use Rattle.std.specs.List.{HoldsAt}
use Rattle.base.specs.Ram.{ram_base}
use Rattle.cap_bounds.specs.CapValue.{CapValue}
use Rattle.cap_rights.specs.Permission.{permits}
use Rattle.steps.specs.declared.event.Event.{Event}
use Rattle.steps.specs.declared.event.Event.TheVariants.{Step, Tick, Byte}
use Rattle.steps.specs.Event.{after, outcome}
use Rattle.steps.specs.EventLaws.{IsState-after}
use Rattle.steps.specs.IsState.{IsState}
use Rattle.steps.specs.Outcome.{Trap}
use Rattle.steps.specs.State.{State}
use Rattle.authority.specs.Reachable.{IsReachable}
use Rattle.machine.specs.Run.{run_after}
use Rattle.machine.specs.Stretch.{AreEvents, ArePlain}
use Rattle.reach.specs.Ranges.{IsInOne}
use Rattle.reach.proofs.Determined.{in-cases, none-in}
use Rattle.policy.specs.Known.{IsLasting}
use Rattle.policy.specs.Lending.{in_force_from}
use Rattle.policy.specs.Rule.{BreaksRule}
use Rattle.policy.specs.Run.{AppliesToEach, KeepToEach}
use Rattle.policy.specs.Terms.{Terms}
use Rattle.policy.specs.Tests.{breaks}
use Rattle.policy.specs.Watch.{Applies, DiffersOutside, Holds, IsAbout, KeepsTo, KeepsToEach}
use Rattle.policy.specs.declared.rule.Ban.{Ban}
use Rattle.policy.specs.declared.rule.Ban.TheVariants as ban
use Rattle.policy.proofs.Learning.{keeps-to}
use Rattle.policy.proofs.Rights.{holds-after}
use Rattle.policy.proofs.Tests.{is-break}
use Rattle.tagged_memory.specs.Memory.{data_written, capability_written}
use Rattle.worked.specs.Counter.{code_capability, code_range, counter, counter_rule, data_capability, data_range, round}
use Rattle.worked.proofs.Confining.{same-elsewhere, same-size}
use Rattle.worked.proofs.Counting.{fetched-at}

-- ---- it holds

code-keeps : (part : Ban) → breaks counter_rule part code_capability ≡ false
unfolding breaks permits
code-keeps ban.Store = refl
code-keeps ban.Load = refl
code-keeps ban.Execute = refl
code-keeps ban.Keep = refl
code-keeps ban.Enter = refl
code-keeps ban.Transmit = refl
code-keeps ban.Halt = refl
code-keeps ban.Timer = refl
code-keeps ban.System = refl
code-keeps ban.Seal = refl
code-keeps ban.Types = refl

data-keeps : (part : Ban) → breaks counter_rule part data_capability ≡ false
unfolding breaks permits
data-keeps ban.Store = refl
data-keeps ban.Load = refl
data-keeps ban.Execute = refl
data-keeps ban.Keep = refl
data-keeps ban.Enter = refl
data-keeps ban.Transmit = refl
data-keeps ban.Halt = refl
data-keeps ban.Timer = refl
data-keeps ban.System = refl
data-keeps ban.Seal = refl
data-keeps ban.Types = refl

pub none-breaks : (v : CapValue) → (v ≡ code_capability) ⊎ (v ≡ data_capability) → BreaksRule counter_rule v → ⊥
none-breaks v (inl same) broken =
    let it : BreaksRule counter_rule code_capability = subst (BreaksRule counter_rule) same broken in
    both_ways _ (code-keeps it.ban) ((is-break code_capability counter_rule it.ban).1 it.breaks)
none-breaks v (inr same) broken =
    let it : BreaksRule counter_rule data_capability = subst (BreaksRule counter_rule) same broken in
    both_ways _ (data-keeps it.ban) ((is-break data_capability counter_rule it.ban).1 it.breaks)

pub holds : (s : State) → ((v : CapValue) → IsReachable s v → (v ≡ code_capability) ⊎ (v ≡ data_capability)) → Holds counter_rule s
holds s reached v reachable broken = none-breaks v (reached v reachable) broken

-- ---- a plain run keeps to a lasting rule that holds

module _ (rule : Terms) (lasting : IsLasting rule) where
  keeps-along : (events : List Event) (s : State) → IsState s → AreEvents events → ArePlain events s → Holds rule s → (k : ℕ)
      → k < length events → HoldsAt (λ e. KeepsTo rule e (run_after (take k events) s)) events k
  keeps-along [] s is are plain hold k inside = absurd (omega arith)
  keeps-along (e ∷ es) s is are plain hold zero inside = λ d. keeps-to rule s hold e is
  keeps-along (e ∷ es) s is are plain hold (suc k) inside =
      keeps-along es (after e s) (IsState-after s is e are.0) are.1 plain.1 (holds-after rule s e is plain.0 lasting hold) k (omega arith)

pub none-traps : (events : List Event) (s : State) → ArePlain events s → (k : ℕ) → k < length events
    → HoldsAt (λ e. outcome e (run_after (take k events) s) ≢ Trap) events k
none-traps [] s plain k inside = absurd (omega arith)
none-traps (e ∷ es) s plain zero inside = λ d trap. absurd (cc (plain.0, trap))
none-traps (e ∷ es) s plain (suc k) inside = none-traps es (after e s) plain.1 k (omega arith)

-- a rule that lends nothing stays as it is said
in-force : (events : List Event) (s : State) → in_force_from (counter_rule ∷ []) (counter_rule ∷ []) events s ≡ counter_rule ∷ []
in-force [] s = refl
in-force (Step ∷ es) s = in-force es (after Step s)
in-force (Tick ∷ es) s = in-force es (after Tick s)
in-force (Byte b ∷ es) s = in-force es (after (Byte b) s)

pub alone : (rule : Terms) (k : ℕ) → k < 1 → slice_index_or (counter_rule ∷ []) k rule ≡ rule → counter_rule ≡ rule
alone rule zero inside same = same
alone rule (suc k) inside same = absurd (omega arith)

each-of-one : (e : Event) (s : State) → KeepsTo counter_rule e s → KeepsToEach (counter_rule ∷ []) e s
each-of-one e s keeps rule there about = subst (λ r. KeepsTo r e s) (alone rule there.0 there.1 there.2) keeps

pub keep-to-each : (events : List Event) (s : State) → IsState s → AreEvents events → ArePlain events s → Holds counter_rule s
    → KeepToEach (counter_rule ∷ []) events (length events) s
keep-to-each events s is are plain hold = λ k inside d.
    subst (λ rules. KeepsToEach rules (slice_index_or events k d) (run_after (take k events) s)) (sym (in-force (take k events) s))
    (each-of-one (slice_index_or events k d) (run_after (take k events) s)
    (keeps-along counter_rule (inl refl) events s is are plain hold k inside d))

-- ---- it applies, and what differs lies outside its ranges

about : (pc : ℕ) → 0x8000_0000 ≤ pc → pc < 0x8000_0100 → IsAbout counter_rule pc
about pc low high = record { range = code_range; is_one = (0, omega arith, refl); inside = record { low = low; high = high } }

pub applies-each : (secret : ℕ) → AppliesToEach counter_rule round 4 (counter secret)
applies-each secret k inside =
    subst (Applies counter_rule) (sym (fetched-at secret k inside)) (about (0x8000_0000 + 4 * k) (omega arith) (omega arith))

low-code : (a : ℕ) → IsInOne (code_range ∷ []) a → a - ram_base ≢ 0x400
low-code a one = elim (in-cases code_range [] a one) [ inl it ↦ omega (arith, it.high) | inr none ↦ absurd (none-in a none) ]

low-data : (a : ℕ) → IsInOne (data_range ∷ []) a → a - ram_base ≢ 0x400
low-data a one = elim (in-cases data_range [] a one) [ inl it ↦ omega (arith, it.high) | inr none ↦ absurd (none-in a none) ]

low-load : (a : ℕ) → IsInOne (code_range ∷ data_range ∷ []) a → a - ram_base ≢ 0x400
low-load a one = elim (in-cases code_range (data_range ∷ []) a one) [ inl it ↦ omega (arith, it.high) | inr rest ↦ low-data a rest ]

low-seen : (a : ℕ) → IsInOne counter_rule.load a ⊎ IsInOne counter_rule.execute a → a - ram_base ≢ 0x400
low-seen a (inl one) = low-load a one
low-seen a (inr one) = low-code a one

pub differs : (secret other : ℕ) → DiffersOutside counter_rule (counter secret) (counter other)
unfolding counter data_written capability_written
differs secret other = record {
  registers = refl;
  scrs = refl;
  csrs = refl;
  devices = refl;
  ram = same-size secret other;
  tags = λ granule. refl;
  inside = λ a low seen. same-elsewhere secret other (a - ram_base) (low-seen a seen);
}
