-- What code learns at an event while a rule holds: states that differ outside its ranges for loads and fetches alone agree.
use Rattle.std.proofs.Common.{◌≡◌, ℕ, ◌≤◌, Option, None, Some, List, refl, sym, ap, ◌∙◌, subst, inl, inr, ◌⊎◌}
use Rattle.base.specs.Ram.{ram_base}
use Rattle.base.specs.Size.{bytes_of}
use Rattle.cap_bounds.specs.CapValue.{CapValue, word_of, is_tagged}
use Rattle.tagged_memory.specs.AccessLaws.{in_ram-place_fault}
use Rattle.tagged_memory.specs.Memory.{Memory}
use Rattle.steps.specs.declared.effect.Effect.{Effect}
use Rattle.steps.specs.declared.effect.Effect.TheVariants as effect
use Rattle.steps.specs.declared.event.Event.{Event}
use Rattle.steps.specs.declared.event.Event.TheVariants.{Step, Tick, Byte}
use Rattle.steps.specs.AppliedLaws.{IsSoundEffect}
use Rattle.steps.specs.Effect.{applied}
use Rattle.steps.specs.Event.{after}
use Rattle.steps.specs.EventLaws.{step_effect-sound}
use Rattle.steps.specs.IsState.{IsState}
use Rattle.steps.specs.State.{State}
use Rattle.steps.specs.Step.{step_effect, stepped_unless, stepped}
use Rattle.authority.specs.AgreeLaws.{looks-agree}
use Rattle.authority.specs.SameEffectLaws.{step_effect-same}
use Rattle.authority.specs.TwoWorldsLaws.{event-agrees, outcome-same, sent-same}
use Rattle.authority.specs.Worlds.{IsReadable, Agree}
use Rattle.reach.specs.Ranges.{IsInOne}
use Rattle.policy.specs.Terms.{Terms}
use Rattle.policy.specs.declared.rule.Ban.TheVariants as ban
use Rattle.policy.specs.Watch.{Holds, HoldEach, DiffersOutside, LearnsBy, KeepsTo, KeepsToEach}
use Rattle.policy.proofs.Covers.{in_or_out}
use Rattle.policy.proofs.Entered.{runs-by}
use Rattle.policy.proofs.Sealing.{seals-by}
use Rattle.policy.proofs.Leaving.{leaves-by}
use Rattle.policy.proofs.Memories.{AreSameWhere, same-number, same-value}

module _ (rule : Terms) where
  -- ---- states with another memory

  -- the addresses whose bytes code may learn
  abbrev Seen : ℕ → Type 0
  Seen a = IsInOne rule.load a ⊎ IsInOne rule.execute a

  differs-by : (u v : State) → v.registers ≡ u.registers → v.scrs ≡ u.scrs → v.csrs ≡ u.csrs → v.devices ≡ u.devices
      → AreSameWhere Seen u.memory v.memory → DiffersOutside rule u v
  differs-by u v registers scrs csrs devices memory = record {
    registers = registers;
    scrs = scrs;
    csrs = csrs;
    devices = devices;
    ram = memory.size;
    tags = memory.tags;
    inside = memory.bytes;
  }

  memory-differs : (s t : State) → DiffersOutside rule s t → AreSameWhere Seen s.memory t.memory
  memory-differs s t differs = record { size = differs.ram; bytes = differs.inside; tags = differs.tags }

  abbrev swapped : State → Memory → State
  swapped s m = record s { memory = m }

  is_swapped : (s t : State) → DiffersOutside rule s t → t ≡ swapped s t.memory
  is_swapped s t differs =
      ap (λ r. record t { registers = r }) differs.registers
      ∙ ap (λ x. record t { registers = s.registers; scrs = x }) differs.scrs
      ∙ ap (λ c. record t { registers = s.registers; scrs = s.scrs; csrs = c }) differs.csrs
      ∙ ap (λ d. record t { registers = s.registers; scrs = s.scrs; csrs = s.csrs; devices = d }) differs.devices

  module _ (s : State) (m : Memory) (same : AreSameWhere Seen s.memory m) where
    differs-applied : (e : Effect CapValue) → IsSoundEffect e s → DiffersOutside rule (applied e s) (applied e (swapped s m))
    unfolding applied
    differs-applied (effect.Store w) sound =
        differs-by (applied (effect.Store w) s) (applied (effect.Store w) (swapped s m)) refl refl refl refl
        (same-number Seen s.memory m same w.address (bytes_of w.size) w.number sound)
    differs-applied (effect.StoreCapability w) sound =
        differs-by (applied (effect.StoreCapability w) s) (applied (effect.StoreCapability w) (swapped s m)) refl refl refl refl
        (same-value Seen s.memory m same w.address (word_of w.value) (is_tagged w.value)
        (in_ram-place_fault s.memory w.address 16 sound.0))
    differs-applied e sound = differs-by (applied e s) (applied e (swapped s m)) refl refl refl refl same

    differs-stepped : (halted : Option ℕ) → step_effect (swapped s m) ≡ step_effect s → IsState s
        → DiffersOutside rule (stepped_unless halted s) (stepped_unless halted (swapped s m))
    differs-stepped None effects is =
        subst (λ e. DiffersOutside rule (applied (step_effect s) s) (applied e (swapped s m))) (sym effects)
        (differs-applied (step_effect s) (step_effect-sound s is))
    differs-stepped (Some number) effects is = differs-by s (swapped s m) refl refl refl refl same

    differs-swapped : (e : Event) → step_effect (swapped s m) ≡ step_effect s → IsState s
        → DiffersOutside rule (after e s) (after e (swapped s m))
    unfolding stepped
    differs-swapped Step effects is = differs-stepped s.devices.halted effects is
    differs-swapped Tick effects is = differs-by (after Tick s) (after Tick (swapped s m)) refl refl refl refl same
    differs-swapped (Byte b) effects is = differs-by (after (Byte b) s) (after (Byte b) (swapped s m)) refl refl refl refl same

  differs-after : (s t : State) (e : Event) → step_effect t ≡ step_effect s → IsState s → DiffersOutside rule s t
      → DiffersOutside rule (after e s) (after e t)
  differs-after s t e effects is differs =
      let path : t ≡ swapped s t.memory = is_swapped s t differs in
      subst (λ u. DiffersOutside rule (after e s) (after e u)) (sym path)
      (differs-swapped s t.memory (memory-differs s t differs) e
      (subst (λ u. step_effect u ≡ step_effect s) path effects) is)

  -- ---- a rule that holds

  module _ (s : State) (holds : Holds rule s) where
    in-loads : (a : ℕ) → ram_base ≤ a → IsReadable s a → IsInOne rule.load a ⊎ IsInOne rule.execute a
    in-loads a low readable = elim readable.opens.reads [
      | inl loads ↦ elim (in_or_out rule.load a) [
        | inl one ↦ inl one
        | inr outside ↦ absurd (holds readable.source readable.reachable (record {
          ban = ban.Load;
          breaks = inl (record {
            byte = a;
            in_ram = low;
            outside = outside;
            lets = record { unsealed = readable.opens.unsealed; permitted = loads };
            base = readable.opens.base;
            top = readable.opens.top;
          });
        }))
      ]
      | inr fetches ↦ elim (in_or_out rule.execute a) [
        | inl one ↦ inr one
        | inr outside ↦ absurd (holds readable.source readable.reachable (record {
          ban = ban.Execute;
          breaks = record {
            byte = a;
            in_ram = low;
            outside = outside;
            lets = record { unsealed = readable.opens.unsealed; permitted = fetches };
            base = readable.opens.base;
            top = readable.opens.top;
          };
        }))
      ]
    ]

    agrees : (t : State) → DiffersOutside rule s t → Agree s t
    agrees t differs = record {
      registers = differs.registers;
      pcc = ap (λ x. x.pcc) differs.scrs;
      ddc = ap (λ x. x.ddc) differs.scrs;
      csrs = differs.csrs;
      devices = differs.devices;
      memory = record {
        size = differs.ram;
        bytes = λ a low readable. differs.inside a low (in-loads a low readable);
        tags = λ granule _. differs.tags granule;
      };
      scrs = λ _. record {
        mtcc = ap (λ x. x.mtcc) differs.scrs;
        mtdc = ap (λ x. x.mtdc) differs.scrs;
        mscratchc = ap (λ x. x.mscratchc) differs.scrs;
        mepcc = ap (λ x. x.mepcc) differs.scrs;
      };
    }

    learns-by : (e : Event) → IsState s → LearnsBy rule e s
    learns-by e is = record {
      comes_to = λ t differs. outcome-same s t (agrees t differs) e;
      sends = λ t differs. sent-same s t (agrees t differs) e;
      agree = λ t differs plain. event-agrees e s t is plain (agrees t differs);
      differ = λ t differs. differs-after s t e (step_effect-same s t (looks-agree s t (agrees t differs))) is differs;
    }

    pub keeps-to : (e : Event) → IsState s → KeepsTo rule e s
    keeps-to e is = record {
      holds = holds;
      leaves = leaves-by s rule holds e is;
      learns = learns-by e is;
      runs = runs-by rule s holds e is;
      seals = seals-by rule s holds e is;
    }

-- ---- the rules that apply

-- where each of them holds, every event keeps to each
pub keeps-to-each : (rules : List Terms) (e : Event) (s : State) → IsState s → HoldEach rules s → KeepsToEach rules e s
keeps-to-each rules e s is hold = λ rule there about. keeps-to rule s (hold rule there about) e is
