-- Steps one after the other, each of them plain, by code of which a lasting rule holds: the rule goes on holding, the code stays where the
-- rule lets it be fetched, and certificates are kept.
use Rattle.std.proofs.Common.{◌≡◌, ℕ, zero, suc, ◌<◌, ◌≤◌, Bool, Option, None, List, get_or}
use Rattle.std.proofs.Common.{replicate, sym, subst, arith, inl, inr}
use Rattle.std.proofs.lemmas.List.Elements.{Contains-get_or}
use Rattle.std.specs.List.{Contains}
use Rattle.base.specs.Ram.{ram_base}
use Rattle.cap_bounds.specs.CapValue.{CapValue}
use Rattle.tagged_memory.specs.AccessLaws.{in_ram-place_fault}
use Rattle.tagged_memory.specs.MemoryLaws.{in_ram}
use Rattle.steps.specs.declared.effect.Effect.{Effect}
use Rattle.steps.specs.declared.effect.Effect.TheVariants as effect
use Rattle.steps.specs.declared.event.Event.TheVariants.{Step}
use Rattle.steps.specs.AppliedLaws.{IsSoundEffect}
use Rattle.steps.specs.EventLaws.{step_effect-sound, IsState-after}
use Rattle.steps.specs.IsState.{IsState}
use Rattle.steps.specs.State.{State, pc_of}
use Rattle.steps.specs.Step.{step_effect}
use Rattle.steps.specs.Steps.{steps_after, GoesBy}
use Rattle.authority.specs.Authority.{IsWritable}
use Rattle.authority.specs.Grounded.{IsGrounded}
use Rattle.authority.specs.Derives.{Derives}
use Rattle.authority.specs.StepLaws.{step_effect-derives}
use Rattle.machine.specs.Run.{run_after}
use Rattle.machine.proofs.Steps.{run_after-steps}
use Rattle.reach.specs.Ranges.{IsInOne}
use Rattle.policy.specs.Terms.{Terms}
use Rattle.policy.specs.Watch.{Applies, Holds, HoldEach, fetched_at}
use Rattle.policy.specs.Cover.{ShareNone}
use Rattle.policy.specs.Known.{IsLasting, Applied, AreKnown, IsCertified, AreCertified, Puts, KeepsCertificate, IsGuarded, Spares, Stands}
use Rattle.policy.specs.Known.{Knows, rules_of}
use Rattle.policy.specs.declared.guard.Standing.TheVariants.{Guarded}
use Rattle.policy.specs.declared.watcher.Watcher.{Watcher}
use Rattle.policy.proofs.Certificates.{certified-step}
use Rattle.policy.proofs.Covers.{in_or_out}
use Rattle.policy.proofs.Fetching.{about-fetched, executes, in-execute, plain-fetched}
use Rattle.policy.proofs.Leaving.{not_stored}
use Rattle.policy.proofs.Rights.{keeps-grounded, holds-after}

-- ---- what a step puts into granules

puts-grounded : (e : Effect CapValue) (s : State) → Derives e s → (granule : ℕ) (v : CapValue) → Puts e granule v → IsGrounded s v
puts-grounded (effect.StoreCapability w) s derives granule v puts = subst (IsGrounded s) (sym puts.1) (derives.1 puts.2)
puts-grounded e s derives granule v puts = absurd puts

puts-writable : (e : Effect CapValue) (s : State) → IsSoundEffect e s → Derives e s → (granule : ℕ) (v : CapValue) → Puts e granule v
    → (ram_base ≤ granule) × IsWritable s granule
puts-writable (effect.StoreCapability w) s sound derives granule v puts =
    subst (λ a. (ram_base ≤ a) × IsWritable s a) (sym puts.0)
    ((in_ram s.memory w.address 16 (in_ram-place_fault s.memory w.address 16 sound.0)).0, derives.0 w.address (omega arith) (omega arith))
puts-writable e s sound derives granule v puts = absurd puts

module _ (rule : Terms) (s : State) (is : IsState s) (holds : Holds rule s) where
  -- by code of which the rule holds, nothing that breaks it
  keeps-own : IsLasting rule → KeepsCertificate (step_effect s) rule
  keeps-own lasting = λ granule v puts one.
      keeps-grounded rule s holds lasting v (puts-grounded (step_effect s) s (step_effect-derives s is) granule v puts)

  -- and nothing outside its ranges for stores
  keeps-apart : (other : Terms) → ShareNone other.load rule.store → KeepsCertificate (step_effect s) other
  keeps-apart other apart = λ granule v puts one.
      let place = puts-writable (step_effect s) s (step_effect-sound s is) (step_effect-derives s is) granule v puts in
      elim (in_or_out rule.store granule) [
        | inl stored ↦ absurd (apart granule one stored)
        | inr outside ↦ absurd (not_stored s rule holds granule place.0 outside place.1)
      ]

-- ---- steps

module _ (s : State) (is : IsState s) (n : ℕ) (goes : (k : ℕ) → k < n → GoesBy None (steps_after k s)) where
  is-at : (k : ℕ) → IsState (steps_after k s)
  is-at zero = is
  is-at (suc k) = IsState-after (steps_after k s) (is-at k) Step tt

  module _ (rule : Terms) (lasting : IsLasting rule) (holds : Holds rule s) where
    holds-at : (k : ℕ) → k ≤ n → Holds rule (steps_after k s)
    holds-at zero few = holds
    holds-at (suc k) few =
        holds-after rule (steps_after k s) Step (is-at k) (goes k (omega arith)).plain lasting (holds-at k (omega arith))

    own-at : IsCertified rule s.memory → (k : ℕ) → k ≤ n → IsCertified rule (steps_after k s).memory
    own-at certified zero few = certified
    own-at certified (suc k) few =
        certified-step rule (steps_after k s) (is-at k)
        (keeps-own rule (steps_after k s) (is-at k) (holds-at k (omega arith)) lasting) (own-at certified k (omega arith))

    apart-at : (other : Terms) → ShareNone other.load rule.store → IsCertified other s.memory → (k : ℕ) → k ≤ n
        → IsCertified other (steps_after k s).memory
    apart-at other apart certified zero few = certified
    apart-at other apart certified (suc k) few =
        certified-step other (steps_after k s) (is-at k)
        (keeps-apart rule (steps_after k s) (is-at k) (holds-at k (omega arith)) other apart)
        (apart-at other apart certified k (omega arith))

    fetched-at : (k : ℕ) → k < n → IsInOne rule.execute (pc_of (steps_after k s))
    fetched-at k below =
        let t = steps_after k s in
        let by = goes k below in
        in-execute rule t (executes rule t (holds-at k (omega arith))) (plain-fetched t by.running by.plain) (pc_of t) (omega arith)
        (omega arith)

  module _ (rules : List Terms) (hold : HoldEach rules s) (at : Option ℕ) (same_at : at ≡ fetched_at s) where
    holds-was : (rule : Terms) → Contains rules rule → Applied at rule → Holds rule s
    holds-was rule one about = hold rule one (subst (Applies rule) same_at about.1)

    known-at : AreKnown rules at (steps_after n s)
    known-at = λ rule one about. holds-at rule about.0 (holds-was rule one about) n (omega arith)

    hold-at : IsGuarded rules at → (k : ℕ) → k < n → HoldEach rules (steps_after k s)
    hold-at by k below = λ rule one about. elim (by.away rule one) [
      | inl also ↦ holds-at rule also.0 (holds-was rule one also) k (omega arith)
      | inr apart ↦ absurd (apart (pc_of (steps_after k s)) (about-fetched rule (steps_after k s) about)
          (fetched-at by.guard by.applied.0 (holds-was by.guard by.there by.applied) k below))
    ]

    certified-at : (certified now : List Bool) → AreCertified rules certified s.memory → Spares rules at certified now
        → AreCertified rules now (steps_after n s).memory
    certified-at certified now are spares = λ k below marked d.
        let kept = spares k below marked in
        let by = kept.1 in
        let one = are k below kept.0 d in
        elim (by.out d) [
          | inl also ↦ own-at (get_or rules k d) also.0 (holds-was (get_or rules k d) (Contains-get_or rules k d below) also) one n
              (omega arith)
          | inr apart ↦ apart-at by.guard by.applied.0 (holds-was by.guard by.there by.applied) (get_or rules k d) apart one n (omega arith)
        ]

-- ---- a run of as many steps from where a watcher stands under a guard

module _ (w : Watcher) (s : State) (knows : Knows w s) (under : w.standing ≡ Guarded) (n : ℕ)
    (goes : (k : ℕ) → k < n → GoesBy None (run_after (replicate k Step) s)) where
  stands : Stands Guarded (rules_of w) w.known s
  stands = rw under at knows.stands

  goes-at : (k : ℕ) → k < n → GoesBy None (steps_after k s)
  goes-at k below = subst (GoesBy None) (run_after-steps k s) (goes k below)

  pub known-run : AreKnown (rules_of w) w.known (run_after (replicate n Step) s)
  known-run =
      subst (AreKnown (rules_of w) w.known) (sym (run_after-steps n s))
      (known-at s knows.state n goes-at (rules_of w) stands.0 w.known stands.1)

  pub certified-run : (now : List Bool) → Spares (rules_of w) w.known w.certified.items now
      → AreCertified (rules_of w) now (run_after (replicate n Step) s).memory
  certified-run now spares =
      subst (λ t. AreCertified (rules_of w) now t.memory) (sym (run_after-steps n s))
      (certified-at s knows.state n goes-at (rules_of w) stands.0 w.known stands.1 w.certified.items now knows.remembers.certified spares)

  pub hold-run : (k : ℕ) → k < n → HoldEach (rules_of w) (run_after (replicate k Step) s)
  hold-run k below =
      subst (HoldEach (rules_of w)) (sym (run_after-steps k s))
      (hold-at s knows.state n goes-at (rules_of w) stands.0 w.known stands.1 stands.2 k below)
