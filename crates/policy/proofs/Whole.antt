-- What a rule guards over each event of a run, it guards over the run.
use Rattle.std.proofs.Common.{◌≡◌, ℕ, ◌+◌, ◌-◌, ◌%◌, ◌<◌, ◌≤◌, zero, suc, true, false, List, [], ◌∷◌, ◌++◌, length, get_or, take, refl}
use Rattle.std.proofs.Common.{sym, ap, ◌∙◌, subst, inl, inr, ◌⊎◌, arith}
use Rattle.std.proofs.lemmas.Bool.{true≢false}
use Rattle.std.proofs.lemmas.List.{get_or_default, take_more}
use Rattle.std.specs.List.{HoldsAt}
use Rattle.std.specs.Prelude.{◌≢◌, Contains, Some, option_to_list}
use Rattle.base.specs.ObjectType.{is_reserved}
use Rattle.base.specs.Ram.{ram_base}
use Rattle.cap_bounds.specs.CapValue.{CapValue, is_sealed, value_otype}
use Rattle.cap_rights.specs.Permission.{permits}
use Rattle.cap_rights.specs.declared.permission.Permission.TheVariants.{Global}
use Rattle.tagged_memory.specs.Memory.{has_tag}
use Rattle.devices.specs.Devices.{control_register, mtimecmp}
use Rattle.steps.specs.declared.event.Event.{Event}
use Rattle.steps.specs.declared.event.Event.TheVariants.{Step}
use Rattle.steps.specs.Event.{after, outcome, sent}
use Rattle.steps.specs.Outcome.{Trap, Unseal}
use Rattle.steps.specs.State.{State, pc_of}
use Rattle.authority.specs.Reachable.{IsHeldAt, IsReachable}
use Rattle.machine.specs.Run.{run_after, run_sent}
use Rattle.reach.specs.Ranges.{IsInOne}
use Rattle.policy.specs.Terms.{Terms}
use Rattle.policy.specs.Lending.{in_force, in_force_after}
use Rattle.policy.specs.Watch.{AllowsType, KeepsTo, DiffersOutside, IsTrapEntry, fetched_at}
use Rattle.policy.specs.Run.{KeepToEach, AppliesToEach, NoneTraps, NoneUnseals}
use Rattle.policy.proofs.Fetching.{about-fetched}
use Rattle.policy.proofs.Forced.{in_force-append, stays-in-force}
use Rattle.policy.proofs.Leaving.{SameSystem}
use Rattle.policy.proofs.Tests.{about-it}
use Rattle.policy.proofs.Runs.{run_after-append, run_sent-append}

same-trans : (s t u : State) → SameSystem s t → SameSystem t u → SameSystem s u
same-trans s t u one two = (
  record {
    mtcc = two.0.mtcc ∙ one.0.mtcc;
    mtdc = two.0.mtdc ∙ one.0.mtdc;
    mscratchc = two.0.mscratchc ∙ one.0.mscratchc;
    mepcc = two.0.mepcc ∙ one.0.mepcc;
  },
  record {
    mstatus_mie = two.1.mstatus_mie ∙ one.1.mstatus_mie;
    mstatus_mpie = two.1.mstatus_mpie ∙ one.1.mstatus_mpie;
    mie = two.1.mie ∙ one.1.mie;
    kept = two.1.kept ∙ one.1.kept;
    mcause = two.1.mcause ∙ one.1.mcause;
    mtval = two.1.mtval ∙ one.1.mtval;
  },
)

module _ (rules : List Terms) (rule : Terms) (events : List Event) (there : Contains rules rule) where
  abbrev at : ℕ → Event
  at n = get_or events n Step

  abbrev state : State → ℕ → State
  state s n = run_after (take n events) s

  module _ (n : ℕ) (below : n < length events) where
    more : take (suc n) events ≡ take n events ++ at n ∷ []
    more = let next : suc n ≡ n + 1 = omega arith in ap (λ k. take k events) next ∙ take_more events n Step below

    state-more : (s : State) → state s (suc n) ≡ after (at n) (state s n)
    state-more s = ap (λ es. run_after es s) more ∙ run_after-append (take n events) (at n) s

    sent-more : (s : State) → run_sent (take (suc n) events) s ≡ run_sent (take n events) s ++ option_to_list (sent (at n) (state s n))
    sent-more s = ap (λ es. run_sent es s) more ∙ run_sent-append (take n events) (at n) s

  module _ (s : State) where
    -- the rule applies before each event, and each keeps to it
    record Guards (done : ℕ) : Type 0 where
      some : done ≤ length events
      keep : KeepToEach rules events done s
      about : AppliesToEach rule events done s

    fewer : (n : ℕ) → Guards (suc n) → Guards n
    fewer n g =
        let some = g.some in
        record {
          some = omega arith;
          keep = λ k few. g.keep k (omega arith);
          about = λ k few. g.about k (omega arith);
        }

    inside : (n : ℕ) → Guards (suc n) → n < length events
    inside n g = let some = g.some in omega arith

    -- its terms are in force as it says them
    forced : (n : ℕ) → Guards n → (length rules ≡ length (in_force rules (take n events) s))
        × (get_or (in_force rules (take n events) s) there.0 rule ≡ rule)
    forced zero g = (refl, there.2)
    forced (suc n) g =
        let before = forced n (fewer n g) in
        let now = in_force rules (take n events) s in
        let next : in_force rules (take (suc n) events) s ≡ in_force_after rules now (at n) (state s n) =
        ap (λ es. in_force rules es s) (more n (inside n g)) ∙ in_force-append rules rules (take n events) (at n) s in
        let kept = stays-in-force (at n) rules now there.0 rule (state s n) there.1 there.2 before.0 before.1
        ((about-it rule (pc_of (state s n))).1 (about-fetched rule (state s n) (g.about n (omega arith)))) in
        (kept.0 ∙ ap length (sym next), ap (λ ts. get_or ts there.0 rule) next ∙ kept.1)

    contains : (n : ℕ) → Guards n → Contains (in_force rules (take n events) s) rule
    contains n g =
        let both = forced n g in
        let inside = there.1 in
        (there.0, subst (λ k. there.0 < k) both.0 inside, both.1)

    last : (n : ℕ) → Guards (suc n) → KeepsTo rule (at n) (state s n)
    last n g = g.keep n (omega arith) Step rule (contains n (fewer n g)) (g.about n (omega arith))

    bytes : (done : ℕ) → Guards done → (a : ℕ) → ram_base ≤ a → (IsInOne rule.store a → ⊥)
        → get_or (state s done).memory.bytes (a - ram_base) 0 ≡ get_or s.memory.bytes (a - ram_base) 0
    bytes zero g a low outside = refl
    bytes (suc n) g a low outside =
        ap (λ x. get_or x.memory.bytes (a - ram_base) 0) (state-more n (inside n g) s)
        ∙ (last n g).leaves.bytes a low outside ∙ bytes n (fewer n g) a low outside

    tags : (done : ℕ) → Guards done → (granule : ℕ) → ram_base ≤ granule
        → ((a : ℕ) → granule ≤ a → a < granule + 16 → IsInOne rule.store a → ⊥)
        → has_tag (state s done).memory granule ≡ has_tag s.memory granule
    tags zero g granule low outside = refl
    tags (suc n) g granule low outside =
        ap (λ x. has_tag x.memory granule) (state-more n (inside n g) s)
        ∙ (last n g).leaves.tags granule low outside ∙ tags n (fewer n g) granule low outside

    kept : (done : ℕ) → Guards done → (granule a : ℕ) (v : CapValue) → granule % 16 ≡ 0 → ram_base ≤ granule → granule ≤ a
        → a < granule + 16 → (IsInOne rule.keep a → ⊥) → permits v Global ≡ false → IsHeldAt (state s done).memory granule v
        → IsHeldAt s.memory granule v
    kept zero g granule a v aligned low from to outside local here = here
    kept (suc n) g granule a v aligned low from to outside local here = elim ((last n g).leaves.kept granule a v aligned low from to outside
        (subst (λ x. IsHeldAt x.memory granule v) (state-more n (inside n g) s) here)) [
          | inl held ↦ kept n (fewer n g) granule a v aligned low from to outside local held
          | inr global ↦ absurd (true≢false (sym global.0 ∙ local))
        ]

    system : (done : ℕ) → Guards done → rule.system ≡ false → NoneTraps events done s → SameSystem s (state s done)
    system zero g banned none = (
      record { mtcc = refl; mtdc = refl; mscratchc = refl; mepcc = refl },
      record { mstatus_mie = refl; mstatus_mpie = refl; mie = refl; kept = refl; mcause = refl; mtval = refl },
    )
    system (suc n) g banned none =
        subst (SameSystem s) (sym (state-more n (inside n g) s))
        (same-trans s (state s n) (after (at n) (state s n)) (system n (fewer n g) banned (λ k few. none k (omega arith)))
        ((last n g).leaves.system (none n (omega arith) Step) banned))

    silent : (done : ℕ) → Guards done → rule.transmit ≡ false → run_sent (take done events) s ≡ []
    silent zero g banned = refl
    silent (suc n) g banned =
        sent-more n (inside n g) s ∙ ap (λ o. run_sent (take n events) s ++ option_to_list o) ((last n g).leaves.silent banned)
        ∙ ap (λ b. b ++ []) (silent n (fewer n g) banned)

    halt : (done : ℕ) → Guards done → rule.halt ≡ false → (state s done).devices.halted ≡ s.devices.halted
    halt zero g banned = refl
    halt (suc n) g banned =
        ap (λ x. x.devices.halted) (state-more n (inside n g) s) ∙ (last n g).leaves.halt banned ∙ halt n (fewer n g) banned

    timer : (done : ℕ) → Guards done → rule.timer ≡ false → mtimecmp (state s done).devices ≡ mtimecmp s.devices
    timer zero g banned = refl
    timer (suc n) g banned =
        ap (λ x. mtimecmp x.devices) (state-more n (inside n g) s) ∙ (last n g).leaves.timer banned ∙ timer n (fewer n g) banned

    module _ (done : ℕ) (g : Guards done) (k : ℕ) (below : k < done) where
      up-to : Guards (suc k)
      up-to = let some = g.some in record {
        some = omega arith;
        keep = λ n few. g.keep n (omega arith);
        about = λ n few. g.about n (omega arith);
      }

      at-step : KeepsTo rule (at k) (state s k)
      at-step = last k up-to

    console : (done : ℕ) → Guards done → (IsInOne rule.store control_register → ⊥) → (state s done).devices.control ≡ s.devices.control
    console zero g outside = refl
    console (suc n) g outside =
        ap (λ x. x.devices.control) (state-more n (inside n g) s) ∙ (last n g).leaves.console outside ∙ console n (fewer n g) outside

    module _ (t : State) (differs : DiffersOutside rule s t) where
      same_state : (done : ℕ) → Guards done → DiffersOutside rule (state s done) (state t done)
      same_state zero g = differs
      same_state (suc n) g =
          subst (λ u. DiffersOutside rule u (state t (suc n))) (sym (state-more n (inside n g) s))
          (subst (DiffersOutside rule (after (at n) (state s n))) (sym (state-more n (inside n g) t))
          ((last n g).learns.differ (state t n) (same_state n (fewer n g))))

      same_bytes : (done : ℕ) → Guards done → run_sent (take done events) t ≡ run_sent (take done events) s
      same_bytes zero g = refl
      same_bytes (suc n) g =
          sent-more n (inside n g) t
          ∙ ap (λ b. b ++ option_to_list (sent (at n) (state t n))) (same_bytes n (fewer n g))
          ∙ ap (λ o. run_sent (take n events) s ++ option_to_list o) ((last n g).learns.sends (state t n) (same_state n (fewer n g)))
          ∙ sym (sent-more n (inside n g) s)

    module _ (done : ℕ) (some : done ≤ length events) (keep : KeepToEach rules events done s)
        (about : AppliesToEach rule events done s) where
      guards : Guards done
      guards = record { some = some; keep = keep; about = about }

      pub bytes-stay : (a : ℕ) → ram_base ≤ a → (IsInOne rule.store a → ⊥)
          → get_or (state s done).memory.bytes (a - ram_base) 0 ≡ get_or s.memory.bytes (a - ram_base) 0
      bytes-stay = bytes done guards

      pub tags-stay : (granule : ℕ) → ram_base ≤ granule
          → ((a : ℕ) → granule ≤ a → a < granule + 16 → IsInOne rule.store a → ⊥)
          → has_tag (state s done).memory granule ≡ has_tag s.memory granule
      tags-stay = tags done guards

      pub nothing-kept : (granule a : ℕ) (v : CapValue) → granule % 16 ≡ 0 → ram_base ≤ granule → granule ≤ a → a < granule + 16
          → (IsInOne rule.keep a → ⊥) → permits v Global ≡ false → IsHeldAt (state s done).memory granule v → IsHeldAt s.memory granule v
      nothing-kept = kept done guards

      pub system-stays : rule.system ≡ false → NoneTraps events done s → SameSystem s (state s done)
      system-stays = system done guards

      pub nothing-sent : rule.transmit ≡ false → run_sent (take done events) s ≡ []
      nothing-sent = silent done guards

      pub halted-stays : rule.halt ≡ false → (state s done).devices.halted ≡ s.devices.halted
      halted-stays = halt done guards

      pub compare-stays : rule.timer ≡ false → mtimecmp (state s done).devices ≡ mtimecmp s.devices
      compare-stays = timer done guards

      pub console-stays : (IsInOne rule.store control_register → ⊥) → (state s done).devices.control ≡ s.devices.control
      console-stays = console done guards

      pub fetched-inside : (k pc a : ℕ) → k < done → fetched_at (state s k) ≡ Some pc → pc ≤ a → a < pc + 4 → IsInOne rule.execute a
      fetched-inside k pc a below = (at-step done guards k below).runs.fetched pc a

      next-state : (k : ℕ) → k < done → state s (k + 1) ≡ after (at k) (state s k)
      next-state k below =
          let next : k + 1 ≡ suc k = omega arith in
          ap (state s) next ∙ state-more k (omega (arith, some)) s

      pub leads-inside : (k pc : ℕ) → k < done → HoldsAt (λ e. outcome e (state s k) ≢ Trap) events k
          → fetched_at (state s (k + 1)) ≡ Some pc → IsInOne rule.execute pc ⊎ IsInOne rule.enter pc
      leads-inside k pc below other is =
          (at-step done guards k below).runs.leads (other Step) pc (subst (λ t. fetched_at t ≡ Some pc) (next-state k below) is)

      pub traps-enter : (k : ℕ) → k < done → HoldsAt (λ e. outcome e (state s k) ≡ Trap) events k
          → IsTrapEntry (state s k) (state s (k + 1))
      traps-enter k below trap =
          subst (IsTrapEntry (state s k)) (sym (next-state k below)) ((at-step done guards k below).runs.traps (trap Step))

      pub types-allowed : (k : ℕ) (v : CapValue) → k < done → IsReachable (state s k) v → is_sealed v ≡ true
          → is_reserved (value_otype v) ≡ false → AllowsType rule (value_otype v)
      types-allowed k v below = (at-step done guards k below).seals.types v

      pub none-unseals : rule.seal ≡ false → NoneUnseals events done s
      none-unseals banned k below = λ d.
          let inside : k < length events = omega (arith, some) in
          subst (λ e. outcome e (state s k) ≢ Unseal) (get_or_default events k Step d inside)
          ((at-step done guards k below).seals.unseals banned)

      pub sends-same : (t : State) → DiffersOutside rule s t → run_sent (take done events) t ≡ run_sent (take done events) s
      sends-same t differs = same_bytes t differs done guards

      pub ends-same : (t : State) → DiffersOutside rule s t → DiffersOutside rule (state s done) (state t done)
      ends-same t differs = same_state t differs done guards
