-- A byte that comes and a tick change a device alone, and nothing of what a watcher knows.
use Rattle.std.proofs.Common.{◌≡◌, ◌⊎◌, ℕ, Option, None, Some, List, inl, inr, refl, ap, sym, ◌∙◌, subst}
use Rattle.base.specs.declared.fault.Fault.{Fault}
use Rattle.cap_bounds.specs.CapValue.{CapValue}
use Rattle.cap_checks.specs.Question.{first_false}
use Rattle.devices.specs.Devices.{Devices}
use Rattle.steps.specs.declared.event.Event.{Event}
use Rattle.steps.specs.declared.event.Event.TheVariants.{Tick, Byte}
use Rattle.steps.specs.Event.{after}
use Rattle.steps.specs.IsState.{IsState}
use Rattle.steps.specs.State.{State, pc_of}
use Rattle.steps.specs.Step.{fetch_asked, word_unless}
use Rattle.authority.specs.Reachable.{IsRoot, in_register, in_pcc, in_ddc, IsReachable, from_root, from_special, from_granule}
use Rattle.authority.specs.Reachable.{IsSpecial, in_mtcc, in_mtdc, in_mscratchc, in_mepcc}
use Rattle.policy.specs.declared.guard.Standing.{Standing}
use Rattle.policy.specs.declared.guard.Standing.TheVariants.{Open, Certain, Guarded}
use Rattle.policy.specs.declared.watcher.Watcher.{Watcher}
use Rattle.policy.specs.Terms.{Terms}
use Rattle.policy.specs.Watch.{Applies, Holds, HoldEach, fetched_at, fetched_from}
use Rattle.policy.specs.Known.{Knows, Remembers, Stands, rules_of}

module _ (s : State) (d : Devices) where
  abbrev other : State
  other = record s { devices = d }

  root-before : (v : CapValue) → IsRoot other v → IsRoot s v
  root-before v (in_register n same) = in_register n same
  root-before v (in_pcc same) = in_pcc same
  root-before v (in_ddc same) = in_ddc same

  special-before : (v : CapValue) → IsSpecial other v → IsSpecial s v
  special-before v (in_mtcc same) = in_mtcc same
  special-before v (in_mtdc same) = in_mtdc same
  special-before v (in_mscratchc same) = in_mscratchc same
  special-before v (in_mepcc same) = in_mepcc same

  reachable-before : (v : CapValue) → IsReachable other v → IsReachable s v
  reachable-before v (from_root tagged root) = from_root tagged (root-before v root)
  reachable-before v (from_special {c = c} before opens tagged special) =
      from_special (reachable-before c before) opens tagged (special-before v special)
  reachable-before v (from_granule {c = c} granule before opens here) = from_granule granule (reachable-before c before) opens here

  still-holds : (rule : Terms) → Holds rule s → Holds rule other
  still-holds rule holds = λ v reachable. holds v (reachable-before v reachable)

  fetched-as-before : fetched_at other ≡ fetched_at s
  fetched-as-before = go (first_false (fetch_asked s))
    where
      go : (f : Option Fault) → fetched_from (word_unless f other) (pc_of s) ≡ fetched_from (word_unless f s) (pc_of s)
      go None = refl
      go (Some f) = refl

  still-hold : (rules : List Terms) → HoldEach rules s → HoldEach rules other
  still-hold rules hold = λ rule there about. still-holds rule (hold rule there (subst (Applies rule) fetched-as-before about))

  still-stands : (standing : Standing) (rules : List Terms) (known : Option ℕ) → Stands standing rules known s
      → Stands standing rules known other
  still-stands Open rules known stands = tt
  still-stands Certain rules known hold = still-hold rules hold
  still-stands Guarded rules known stands = (still-hold rules stands.0, stands.1 ∙ sym fetched-as-before, stands.2)

  still-remembered : (w : Watcher) → Remembers w s → Remembers w other
  still-remembered w remembers = record {
    known = λ rule there was. still-holds rule (remembers.known rule there was);
    certified = remembers.certified;
  }

  pub still-known : (w : Watcher) → IsState other → Knows w s → Knows w other
  still-known w is knows = record {
    state = is;
    remembers = still-remembered w knows.remembers;
    stands = still-stands w.standing (rules_of w) w.known knows.stands;
  }

-- where each rule that applies holds
module _ (w : Watcher) (s next : State) (is : IsState next) (knows : Knows w s) (hold : HoldEach (rules_of w) s) where
  certain-at : (d : Devices) → next ≡ record s { devices = d } → Knows (record w { standing = Certain }) next
  certain-at d met =
      let still = still-remembered s d w knows.remembers in
      subst (Knows (record w { standing = Certain })) (sym met) (record {
        state = subst IsState met is;
        remembers = record { known = still.known; certified = still.certified };
        stands = still-hold s d (rules_of w) hold;
      })

  pub certain-after : (e : Event) → (e ≡ Tick) ⊎ ((b : ℕ) × (e ≡ Byte b)) → next ≡ after e s → Knows (record w { standing = Certain }) next
  certain-after e (inl same) met = certain-at (after Tick s).devices (met ∙ ap (λ x. after x s) same)
  certain-after e (inr some) met = certain-at (after (Byte some.0) s).devices (met ∙ ap (λ x. after x s) some.1)
