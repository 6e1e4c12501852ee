-- Two worlds over a set: what agrees over a set that bounds the first state steps alike, and does so over a whole turn.
use Rattle.std.proofs.Common.{◌≡◌, ℕ, ◌+◌, ◌-◌, ◌≤◌, false, List, [], ◌∷◌, ◌++◌, inl, inr, refl, sym, ap, subst, ◌∙◌, arith}
use Rattle.std.proofs.lemmas.Bool.{cases_eq}
use Rattle.std.proofs.lemmas.List.{get_or-set_other, length-set}
use Rattle.std.specs.Prelude.{slice_index, slice_set, option_to_list}
use Rattle.base.specs.Ram.{ram_base}
use Rattle.cap_bounds.specs.CapValue.{CapValue}
use Rattle.cap_rights.specs.RightsLaws.{OpensByte-outer, OpensGranule-outer}
use Rattle.devices.specs.Devices.{Devices, ticked, received}
use Rattle.steps.specs.declared.event.Event.{Event}
use Rattle.steps.specs.declared.event.Event.TheVariants.{Step, Tick, Byte}
use Rattle.steps.specs.Event.{after, sent, outcome}
use Rattle.steps.specs.EventLaws.{IsState-after}
use Rattle.steps.specs.IsState.{IsState}
use Rattle.steps.specs.Outcome.{is_trap}
use Rattle.steps.specs.State.{State}
use Rattle.steps.specs.Step.{stepped}
use Rattle.authority.specs.AgreeLaws.{looks-agree}
use Rattle.authority.specs.Authority.{Not}
use Rattle.authority.specs.Changes.{IsChangedAlike, ChangesAlike}
use Rattle.authority.specs.ChangesLaws.{step-changes}
use Rattle.authority.specs.Reachable.{IsReachable}
use Rattle.authority.specs.TwoWorldsLaws.{outcome-same, sent-same}
use Rattle.authority.specs.Worlds.{IsReadable, IsTagReadable, Agree}
use Rattle.machine.specs.Run.{run_after, run_sent}
use Rattle.machine.specs.Stretch.{AreEvents}
use Rattle.doors.specs.Closed.{Bounds, HasDoors}
use Rattle.doors.specs.Doors.{IsReachableThroughDoors}
use Rattle.doors.specs.DoorsLaws.{doors-have, doors-bound}
use Rattle.doors.specs.SetLaws.{Bounds-closed, bounded, system-bounded}
use Rattle.doors.specs.Turn.{IsPlainOrJump, ArePlainOrJumps, IsTurn}
use Rattle.doors.specs.Worlds.{IsReadableBy, IsTagReadableBy, AgreeBy, AgreeThroughDoors, IsTwinThroughDoors}
use Rattle.doors.proofs.Turns.{Bounds-after}
use Rattle.doors.proofs.Words.{reachable-closed}

-- a part that is changed alike is shared afterwards where it was shared before
shared : {A : Type 0} {before later other other_later : A} → IsChangedAlike before later other other_later → other ≡ before
    → other_later ≡ later
shared (inl same) was = same
shared (inr stays) was = stays.1 ∙ was ∙ sym stays.0

-- ---- what an event comes to

pub no_trap : (s : State) (e : Event) → IsPlainOrJump e s → is_trap (outcome e s) ≡ false
no_trap s e (inl plain) = ap is_trap plain
no_trap s e (inr jump) = ap is_trap jump

pub goes_on-same : (s t : State) (e : Event) → outcome e t ≡ outcome e s → IsPlainOrJump e s → IsPlainOrJump e t
goes_on-same s t e same (inl plain) = inl (same ∙ plain)
goes_on-same s t e same (inr jump) = inr (same ∙ jump)

module _ (P : CapValue → Type 0) where
  -- ---- agreement over a set that bounds the first state

  module _ (s t : State) (bounds : Bounds P s) (agree : AgreeBy P s t) where
    readable-bounded : (a : ℕ) → IsReadable s a → IsReadableBy P a
    readable-bounded a read =
        let g = (bounded P s bounds read.source read.reachable).covered in
        record { source = g.source; member = g.member; opens = OpensByte-outer read.source g.source a g.within read.opens }

    tag-bounded : (granule : ℕ) → IsTagReadable s granule → IsTagReadableBy P granule
    tag-bounded granule read =
        let g = (bounded P s bounds read.source read.reachable).covered in
        record { source = g.source; member = g.member; opens = OpensGranule-outer read.source g.source granule g.within read.opens }

    pub agree-bounded : Agree s t
    agree-bounded = record {
      registers = agree.registers;
      pcc = agree.pcc;
      ddc = agree.ddc;
      csrs = agree.csrs;
      devices = agree.devices;
      memory = record {
        size = agree.memory.size;
        bytes = λ a low read. agree.memory.bytes a low (readable-bounded a read);
        tags = λ granule read. agree.memory.tags granule (tag-bounded granule read);
      };
      scrs = λ has. agree.scrs (system-bounded P s bounds has);
    }

  -- ---- one event

  agree-changed : (s later t other : State) → AgreeBy P s t → ChangesAlike s later t other → AgreeBy P later other
  agree-changed s later t other agree changes = record {
    registers = changes.registers;
    pcc = changes.pcc;
    ddc = changes.ddc;
    csrs = changes.csrs;
    devices = changes.devices;
    memory = record {
      size = changes.size;
      bytes = λ a low read. shared (changes.bytes a low) (agree.memory.bytes a low read);
      tags = λ granule read. shared (changes.tags granule) (agree.memory.tags granule read);
    };
    scrs = λ has.
        let same = agree.scrs has in
        record {
          mtcc = shared changes.mtcc same.mtcc;
          mtdc = shared changes.mtdc same.mtdc;
          mscratchc = shared changes.mscratchc same.mscratchc;
          mepcc = shared changes.mepcc same.mepcc;
        };
  }

  agree-devices : (s t : State) (make : Devices → Devices) → AgreeBy P s t
      → AgreeBy P (record s { devices = make s.devices }) (record t { devices = make t.devices })
  agree-devices s t make agree = record {
    registers = agree.registers;
    pcc = agree.pcc;
    ddc = agree.ddc;
    csrs = agree.csrs;
    devices = ap make agree.devices;
    memory = agree.memory;
    scrs = agree.scrs;
  }

  pub agree-after : (s t : State) (e : Event) → IsState s → Bounds P s → AgreeBy P s t → is_trap (outcome e s) ≡ false
      → AgreeBy P (after e s) (after e t)
  agree-after s t Step is bounds agree none =
      agree-changed s (stepped s) t (stepped t) agree (step-changes s t is (looks-agree s t (agree-bounded s t bounds agree)) none)
  agree-after s t Tick is bounds agree none = agree-devices s t ticked agree
  agree-after s t (Byte b) is bounds agree none = agree-devices s t (received b) agree

  -- ---- several events

  -- over the same events the second goes on as the first does, the two send the same bytes, and they come to states that agree
  pub record AreTwins (events : List Event) (s t : State) : Type 0 where
    pub goes_on : ArePlainOrJumps events t
    pub bytes : run_sent events t ≡ run_sent events s
    pub agree : AgreeBy P (run_after events s) (run_after events t)

  pub twins : HasDoors P → (events : List Event) (s t : State) → IsState s → Bounds P s → AreEvents events → ArePlainOrJumps events s
      → AgreeBy P s t → AreTwins events s t
  twins doors [] s t is bounds are all agree = record { goes_on = tt; bytes = refl; agree = agree }
  twins doors (e ∷ es) s t is bounds are all agree =
      let same : Agree s t = agree-bounded s t bounds agree in
      let rest : AreTwins es (after e s) (after e t) =
      twins doors es (after e s) (after e t) (IsState-after s is e are.0) (Bounds-after P doors s e is bounds all.0) are.1 all.1
      (agree-after s t e is bounds agree (no_trap s e all.0)) in
      record {
        goes_on = (goes_on-same s t e (outcome-same s t same e) all.0, rest.goes_on);
        bytes = ap (λ byte. option_to_list byte ++ run_sent es (after e t)) (sent-same s t same e)
            ∙ ap (λ bytes. option_to_list (sent e s) ++ bytes) rest.bytes;
        agree = rest.agree;
      }

  -- ---- what is hidden

  other-byte : (bytes : List ℕ) (k b : ℕ) → Not (IsReadableBy P (ram_base + k)) → (a : ℕ) → ram_base ≤ a → IsReadableBy P a
      → slice_index (slice_set bytes k b) (a - ram_base) ≡ slice_index bytes (a - ram_base)
  other-byte bytes k b hidden a low read = elim (cases_eq (a - ram_base) k) [
    | inl same ↦
        let here : a ≡ ram_base + k = omega arith in
        absurd (hidden (subst (IsReadableBy P) here read))
    | inr apart ↦ get_or-set_other bytes k (a - ram_base) b 0 apart
  ]

  pub hidden-byte : (s : State) (k b : ℕ) → Not (IsReadableBy P (ram_base + k))
      → AgreeBy P s (record s { memory = record s.memory { bytes = slice_set s.memory.bytes k b } })
  hidden-byte s k b hidden = record {
    registers = refl;
    pcc = refl;
    ddc = refl;
    csrs = refl;
    devices = refl;
    memory = record {
      size = length-set s.memory.bytes k b;
      bytes = other-byte s.memory.bytes k b hidden;
      tags = λ granule read. refl;
    };
    scrs = λ has. record { mtcc = refl; mtdc = refl; mscratchc = refl; mepcc = refl };
  }

-- ---- over what is reachable

module _ (s t : State) where
  pub agree-there : AgreeBy (IsReachable s) s t → Agree s t
  agree-there agree = agree-bounded (IsReachable s) s t (Bounds-closed (IsReachable s) s (reachable-closed s)) agree

  pub agree-back : Agree s t → AgreeBy (IsReachable s) s t
  agree-back agree = record {
    registers = agree.registers;
    pcc = agree.pcc;
    ddc = agree.ddc;
    csrs = agree.csrs;
    devices = agree.devices;
    memory = record {
      size = agree.memory.size;
      bytes = λ a low read. agree.memory.bytes a low (record { source = read.source; reachable = read.member; opens = read.opens });
      tags = λ granule read.
          agree.memory.tags granule (record { source = read.source; reachable = read.member; opens = read.opens });
    };
    scrs = λ has. agree.scrs (record { source = has.source; reachable = has.member; opens = has.opens });
  }

-- ---- through doors

module _ (events : List Event) (s t : State) (turn : IsTurn events s) (agree : AgreeThroughDoors s t) where
  twins-doors : AreTwins (IsReachableThroughDoors s) events s t
  twins-doors =
      twins (IsReachableThroughDoors s) (doors-have s) events s t turn.state (doors-bound s) turn.are_events turn.are_plain_or_jumps agree

  pub turn-same : IsState t → IsTurn events t
  turn-same is = record { state = is; are_events = turn.are_events; are_plain_or_jumps = twins-doors.goes_on }

  pub turn-goes_on : ArePlainOrJumps events t
  turn-goes_on = twins-doors.goes_on

  pub turn-twin : IsTwinThroughDoors events s t
  turn-twin = record { bytes = twins-doors.bytes; agree = twins-doors.agree }
