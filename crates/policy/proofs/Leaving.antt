-- What an event leaves as it is: memory and devices where they are not writable, whatever the event is, and the system registers where
-- they are not open, unless it traps.
use Rattle.std.proofs.Common.{◌≡◌, ℕ, ◌+◌, ◌%◌, ◌<◌, ◌≤◌, Option, None, Some, true, false, refl, inl, inr, ◌⊎◌, arith}
use Rattle.std.specs.Prelude.{◌≢◌}
use Rattle.base.specs.Ram.{ram_base}
use Rattle.cap_bounds.specs.CapValue.{CapValue}
use Rattle.cap_rights.specs.Permission.{permits}
use Rattle.cap_rights.specs.declared.permission.Permission.TheVariants.{Global}
use Rattle.devices.specs.Devices.{control_register, halt, timer_compare, transmit}
use Rattle.steps.specs.declared.effect.Effect.{Effect}
use Rattle.steps.specs.declared.effect.Effect.TheVariants as effect
use Rattle.steps.specs.declared.event.Event.{Event}
use Rattle.steps.specs.declared.event.Event.TheVariants.{Step, Tick, Byte}
use Rattle.steps.specs.AppliedLaws.{IsSoundEffect}
use Rattle.steps.specs.Effect.{applied}
use Rattle.steps.specs.Event.{after, outcome}
use Rattle.steps.specs.EventLaws.{step_effect-sound}
use Rattle.steps.specs.IsState.{IsState}
use Rattle.steps.specs.Outcome.{Trap, outcome_of, step_outcome_unless, step_outcome}
use Rattle.steps.specs.State.{State}
use Rattle.steps.specs.Step.{step_effect, stepped_unless, stepped}
use Rattle.authority.specs.Authority.{Not, IsWritable, HasSystem, LeavesMemory, LeavesDevices, SameScrs, SameCsrs}
use Rattle.authority.specs.Derives.{Derives}
use Rattle.authority.specs.GroundedLaws.{LeavesAlone-refl}
use Rattle.authority.specs.LeftLaws.{effect-leaves}
use Rattle.authority.specs.Lent.{before, given, lent, IsGivenBy}
use Rattle.authority.specs.LentLaws.{event-kept}
use Rattle.authority.specs.Reachable.{IsHeldAt, IsReachable}
use Rattle.authority.specs.RowLaws.{system-used}
use Rattle.authority.specs.StepLaws.{step_effect-derives, event-leaves, event-silent}
use Rattle.reach.specs.Ranges.{IsInOne}
use Rattle.policy.specs.Terms.{Terms}
use Rattle.policy.specs.declared.rule.Ban.TheVariants as ban
use Rattle.policy.specs.Watch.{Holds, LeavesBy}

pub record LeavesPlaces (s later : State) : Type 0 where
  pub memory : LeavesMemory s later.memory
  pub devices : LeavesDevices s later.devices

-- the system registers that are guarded are the same
abbrev pub SameSystem : State → State → Type 0
SameSystem s later = SameScrs s.scrs later.scrs × SameCsrs s.csrs later.csrs

-- ---- effects

module _ (s : State) where
  places-applied : (e : Effect CapValue) → IsSoundEffect e s → Derives e s → LeavesPlaces s (applied e s)
  unfolding applied outcome_of
  places-applied (effect.Trap fault) sound derives = record {
    memory = record { size = refl; bytes = λ a low none. refl; tags = λ granule none. refl };
    devices = record { halt = λ _. refl; kept = λ _ _. refl; control = λ _. refl };
  }
  places-applied (effect.Unseal w) sound derives = record {
    memory = record { size = refl; bytes = λ a low none. refl; tags = λ granule none. refl };
    devices = record { halt = λ _. refl; kept = λ _ _. refl; control = λ _. refl };
  }
  places-applied (effect.Enter e) sound derives = record {
    memory = record { size = refl; bytes = λ a low none. refl; tags = λ granule none. refl };
    devices = record { halt = λ _. refl; kept = λ _ _. refl; control = λ _. refl };
  }
  places-applied (effect.Return closed) sound derives = record {
    memory = record { size = refl; bytes = λ a low none. refl; tags = λ granule none. refl };
    devices = record { halt = λ _. refl; kept = λ _ _. refl; control = λ _. refl };
  }
  places-applied e sound derives =
      let all = effect-leaves e s sound derives refl in record { memory = all.memory; devices = all.devices }

  system-applied : (e : Effect CapValue) → IsSoundEffect e s → Derives e s → outcome_of e ≢ Trap → Not (HasSystem s)
      → SameSystem s (applied e s)
  unfolding applied outcome_of
  system-applied (effect.Trap fault) sound derives other none = absurd (other refl)
  system-applied (effect.Unseal w) sound derives other none = (
    record { mtcc = refl; mtdc = refl; mscratchc = refl; mepcc = refl },
    record { mstatus_mie = refl; mstatus_mpie = refl; mie = refl; kept = refl; mcause = refl; mtval = refl },
  )
  system-applied (effect.Enter e) sound derives other none = (
    record { mtcc = refl; mtdc = refl; mscratchc = refl; mepcc = refl },
    record { mstatus_mie = refl; mstatus_mpie = refl; mie = refl; kept = refl; mcause = refl; mtval = refl },
  )
  system-applied (effect.Return closed) sound derives other none = absurd (none (system-used s derives.0))
  system-applied e sound derives other none =
      let all = effect-leaves e s sound derives refl in (all.scrs none, all.csrs none)

  -- ---- events

  module _ (is : IsState s) where
    places-stepped : (halted : Option ℕ) → LeavesPlaces s (stepped_unless halted s)
    places-stepped None = places-applied (step_effect s) (step_effect-sound s is) (step_effect-derives s is)
    places-stepped (Some number) = let all = LeavesAlone-refl s in record { memory = all.memory; devices = all.devices }

    places-after : (e : Event) → LeavesPlaces s (after e s)
    unfolding stepped
    places-after Step = places-stepped s.devices.halted
    places-after Tick = let all = event-leaves s is Tick refl in record { memory = all.memory; devices = all.devices }
    places-after (Byte b) = let all = event-leaves s is (Byte b) refl in record { memory = all.memory; devices = all.devices }

    system-stepped : (halted : Option ℕ) → step_outcome_unless halted s ≢ Trap → Not (HasSystem s) → SameSystem s (stepped_unless halted s)
    system-stepped None other none = system-applied (step_effect s) (step_effect-sound s is) (step_effect-derives s is) other none
    system-stepped (Some number) other none = let all = LeavesAlone-refl s in (all.scrs none, all.csrs none)

    system-after : (e : Event) → outcome e s ≢ Trap → Not (HasSystem s) → SameSystem s (after e s)
    unfolding stepped step_outcome
    system-after Step other none = system-stepped s.devices.halted other none
    system-after Tick other none = let all = event-leaves s is Tick refl in (all.scrs none, all.csrs none)
    system-after (Byte b) other none = let all = event-leaves s is (Byte b) refl in (all.scrs none, all.csrs none)

  -- ---- a rule that holds

  module _ (rule : Terms) (holds : Holds rule s) where
    pub not_stored : (a : ℕ) → ram_base ≤ a → (IsInOne rule.store a → ⊥) → Not (IsWritable s a)
    not_stored a low outside = λ writable. holds writable.source writable.reachable (record {
      ban = ban.Store;
      breaks = inl (record {
        byte = a;
        in_ram = low;
        outside = outside;
        lets = record { unsealed = writable.opens.unsealed; permitted = writable.opens.stores };
        base = writable.opens.base;
        top = writable.opens.top;
      });
    })

    not_sent : rule.transmit ≡ false → Not (IsWritable s transmit)
    not_sent banned = λ writable.
        holds writable.source writable.reachable (record { ban = ban.Transmit; breaks = (banned, writable.opens) })

    not_halted : rule.halt ≡ false → Not (IsWritable s halt)
    not_halted banned = λ writable. holds writable.source writable.reachable (record { ban = ban.Halt; breaks = (banned, writable.opens) })

    not_set : rule.timer ≡ false → Not (IsWritable s timer_compare)
    not_set banned = λ writable. holds writable.source writable.reachable (record { ban = ban.Timer; breaks = (banned, writable.opens) })

    console_kept : (IsInOne rule.store control_register → ⊥) → Not (IsWritable s control_register)
    console_kept outside = λ writable. holds writable.source writable.reachable (record {
      ban = ban.Store;
      breaks = inr (record {
        register = control_register;
        answers = refl;
        outside = outside;
        lets = record { unsealed = writable.opens.unsealed; permitted = writable.opens.stores };
        base = writable.opens.base;
        top = writable.opens.top;
      });
    })

    no_system : rule.system ≡ false → Not (HasSystem s)
    no_system banned = λ has. holds has.source has.reachable (record { ban = ban.System; breaks = (banned, has.opens) })

    not_kept : (e : Event) → IsState s → (granule a : ℕ) (v : CapValue) → granule % 16 ≡ 0 → ram_base ≤ granule → granule ≤ a
        → a < granule + 16 → (IsInOne rule.keep a → ⊥) → IsHeldAt (after e s).memory granule v
        → IsHeldAt s.memory granule v ⊎ ((permits v Global ≡ true) × IsGivenBy (IsReachable s) v)
    not_kept e is granule a v aligned low from to outside here = elim (event-kept s is e granule v here) [
      | before held ↦ inl held
      | given global by c member opens ↦ inr (global, by)
      | lent local c member opens ↦
          absurd (holds c member (record {
            ban = ban.Keep;
            breaks = record {
              granule = granule;
              byte = a;
              aligned = aligned;
              in_ram = low;
              from = from;
              to = to;
              outside = outside;
              opens = opens;
            };
          }))
    ]

    pub leaves-by : (e : Event) → IsState s → LeavesBy rule e s
    leaves-by e is =
        let places = places-after is e in
        record {
          bytes = λ a low outside. places.memory.bytes a low (not_stored a low outside);
          tags = λ granule low outside. places.memory.tags granule
              (λ a from below. not_stored a (omega arith) (outside a from below));
          kept = not_kept e is;
          silent = λ banned. event-silent s is e (not_sent banned);
          halt = λ banned. places.devices.halt (not_halted banned);
          timer = λ banned. places.devices.kept 0 (not_set banned);
          console = λ outside. places.devices.control (console_kept outside);
          system = λ other banned. system-after is e other (no_system banned);
        }
