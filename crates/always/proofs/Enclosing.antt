-- Code that a set encloses stays enclosed, and keeps to the rules that nothing within the set's rights breaks.
use Rattle.std.proofs.Common.{◌≡◌, ℕ, Bool, true, false, List, [], ◌∷◌, length, refl, sym, ap, ◌∙◌, subst, inl, inr, ◌⊎◌, cond}
use Rattle.std.proofs.lemmas.Bool.{and_parts, eqb-true}
use Rattle.std.specs.Prelude.{◌==◌, ◌&&◌}
use Rattle.base.specs.declared.fault.Fault.{Fault}
use Rattle.base.specs.ObjectType.{sentry_type}
use Rattle.cap_bounds.specs.CapValue.{CapValue, is_tagged, value_address, value_otype}
use Rattle.cap_bounds.specs.SetAddress.{at_address}
use Rattle.cap_rights.specs.DerivedLaws.{derived-at_address}
use Rattle.cap_rights.specs.Opened.{opened}
use Rattle.special_regs.specs.Traps.{sentry_opened, is_sentry, placed_at, trap_target, entry_address}
use Rattle.registers.specs.Registers.{register}
use Rattle.steps.specs.declared.event.Event.{Event}
use Rattle.steps.specs.Event.{after}
use Rattle.steps.specs.EventLaws.{IsState-after}
use Rattle.steps.specs.IsEvent.{IsEvent}
use Rattle.steps.specs.IsState.{IsState}
use Rattle.steps.specs.State.{State}
use Rattle.authority.specs.Authority.{SameScrs}
use Rattle.authority.specs.Reachable.{IsRoot, IsSpecial, IsHeldAt, in_register, in_pcc, in_ddc, in_mtcc, in_mtdc, in_mscratchc, in_mepcc}
use Rattle.machine.specs.Run.{run_after}
use Rattle.machine.specs.Stretch.{AreEvents}
use Rattle.doors.specs.Closed.{Bounds, IsGroundedBy}
use Rattle.doors.specs.DoorsLaws.{behind-sentry}
use Rattle.doors.specs.SetLaws.{IsGroundedIfTaggedBy, grounded_by-derived, left-refl, bounded}
use Rattle.doors.specs.Sets.{LeavesMemoryBeyond, LeavesDevicesBeyond}
use Rattle.policy.specs.Terms.{Terms}
use Rattle.policy.specs.Run.{KeepToEach}
use Rattle.always.specs.Enclosed.{GoesOn, IsEntered, Encloses, IsEnclosedBy, LeavesPlacesBeyond, KeepsRules}
use Rattle.always.specs.Kept.{LendsNothing}
use Rattle.always.proofs.Runs.{keep-always}

-- ---- where a trap leads

module _ (P : CapValue → Type 0) (encloses : Encloses P) where
  opened-by : (b : Bool) (v : CapValue) → (is_tagged v && (value_otype v == sentry_type)) ≡ b → IsGroundedIfTaggedBy P v
      → IsGroundedIfTaggedBy P (cond b (opened v) v)
  opened-by true v is earned =
      behind-sentry P encloses.doors v (eqb-true (value_otype v) sentry_type (and_parts (is_tagged v) _ is).1) earned
  opened-by false v is earned = earned

  sentry-grounded : (v : CapValue) → IsGroundedIfTaggedBy P v → IsGroundedIfTaggedBy P (sentry_opened v)
  unfolding sentry_opened is_sentry
  sentry-grounded v earned = opened-by (is_tagged v && (value_otype v == sentry_type)) v refl earned

  placed-by : (b : Bool) (address : ℕ) (v : CapValue) → IsGroundedIfTaggedBy P v → IsGroundedIfTaggedBy P (cond b v (at_address v address))
  placed-by true address v earned = earned
  placed-by false address v earned = grounded_by-derived P (at_address v address) v earned (derived-at_address v address)

  placed-grounded : (address : ℕ) (v : CapValue) → IsGroundedIfTaggedBy P v → IsGroundedIfTaggedBy P (placed_at address v)
  unfolding placed_at
  placed-grounded address v earned = placed-by (value_address v == address) address v earned

  entry-grounded : (f : Fault) (v : CapValue) → IsGroundedIfTaggedBy P v → IsGroundedIfTaggedBy P (trap_target f v)
  entry-grounded f v earned = placed-grounded (entry_address f (value_address v)) (sentry_opened v) (sentry-grounded v earned)

  -- ---- an event

  module _ (s : State) (enclosed : IsEnclosedBy P s) where
    special-same : (later : State) → SameScrs s.scrs later.scrs → (v : CapValue) → IsSpecial later v → IsSpecial s v
    special-same later same v (in_mtcc at) = in_mtcc (at ∙ same.mtcc)
    special-same later same v (in_mtdc at) = in_mtdc (at ∙ same.mtdc)
    special-same later same v (in_mscratchc at) = in_mscratchc (at ∙ same.mscratchc)
    special-same later same v (in_mepcc at) = in_mepcc (at ∙ same.mepcc)

    goes-on : (later : State) → GoesOn P s later → IsEnclosedBy P later
    goes-on later goes = record {
      bounds = goes.bounds;
      specials = λ v tagged special. enclosed.specials v tagged (special-same later (goes.left.scrs encloses.system) v special);
    }

    module _ (later : State) (trap : IsEntered s later) where
      root-entered : (v : CapValue) → is_tagged v ≡ true → IsRoot later v → IsGroundedBy P v
      root-entered v tagged (in_register n at) =
          enclosed.bounds.roots v tagged (in_register n (at ∙ ap (λ rs. register rs n) trap.registers))
      root-entered v tagged (in_pcc at) =
          let is : v ≡ trap_target trap.fault s.scrs.mtcc = at ∙ ap (λ x. x.pcc) trap.scrs in
          subst (IsGroundedBy P) (sym is)
          (entry-grounded trap.fault s.scrs.mtcc (λ t. enclosed.specials s.scrs.mtcc t (in_mtcc refl))
          (subst (λ x. is_tagged x ≡ true) is tagged))
      root-entered v tagged (in_ddc at) = enclosed.bounds.roots v tagged (in_ddc (at ∙ ap (λ x. x.ddc) trap.scrs))

      special-entered : (v : CapValue) → is_tagged v ≡ true → IsSpecial later v → IsGroundedBy P v
      special-entered v tagged (in_mtcc at) = enclosed.specials v tagged (in_mtcc (at ∙ ap (λ x. x.mtcc) trap.scrs))
      special-entered v tagged (in_mtdc at) = enclosed.specials v tagged (in_mtdc (at ∙ ap (λ x. x.mtdc) trap.scrs))
      special-entered v tagged (in_mscratchc at) = enclosed.specials v tagged (in_mscratchc (at ∙ ap (λ x. x.mscratchc) trap.scrs))
      special-entered v tagged (in_mepcc at) = enclosed.bounds.roots v tagged (in_pcc (at ∙ ap (λ x. x.mepcc) trap.scrs))

      entered-enclosed : IsEnclosedBy P later
      entered-enclosed = record {
        bounds = record {
          roots = root-entered;
          specials = λ c v member opens tagged special.
              absurd (encloses.system (record { source = c; member = member; opens = opens }));
          granules = λ c v granule member opens here.
              enclosed.bounds.granules c v granule member opens (subst (λ m. IsHeldAt m granule v) trap.memory here);
        };
        specials = special-entered;
      }

    pub still-enclosed : (later : State) → GoesOn P s later ⊎ IsEntered s later → IsEnclosedBy P later
    still-enclosed later (inl goes) = goes-on later goes
    still-enclosed later (inr trap) = entered-enclosed later trap

    pub places-left : (later : State) → GoesOn P s later ⊎ IsEntered s later → LeavesPlacesBeyond P s later
    places-left later (inl goes) = record { memory = goes.left.memory; devices = goes.left.devices }
    places-left later (inr trap) =
        let all = left-refl P s in
        record {
          memory = subst (LeavesMemoryBeyond P s.memory) (sym trap.memory) all.memory;
          devices = subst (LeavesDevicesBeyond P s.devices) (sym trap.devices) all.devices;
        }

-- ---- runs

module _ (P : CapValue → Type 0) where
  places-refl : (s : State) → LeavesPlacesBeyond P s s
  places-refl s = let all = left-refl P s in record { memory = all.memory; devices = all.devices }

  places-trans : (s t u : State) → LeavesPlacesBeyond P s t → LeavesPlacesBeyond P t u → LeavesPlacesBeyond P s u
  places-trans s t u one two = record {
    memory = record {
      size = two.memory.size ∙ one.memory.size;
      bytes = λ a low alone. two.memory.bytes a low alone ∙ one.memory.bytes a low alone;
      tags = λ granule alone. two.memory.tags granule alone ∙ one.memory.tags granule alone;
    };
    devices = record {
      halt = λ alone. two.devices.halt alone ∙ one.devices.halt alone;
      kept = λ k alone. two.devices.kept k alone ∙ one.devices.kept k alone;
      control = λ alone. two.devices.control alone ∙ one.devices.control alone;
    };
  }

  module _ (encloses : Encloses P)
      (any_code : (e : Event) (s : State) → IsEvent e → IsState s → Bounds P s → GoesOn P s (after e s) ⊎ IsEntered s (after e s)) where
    stays : (e : Event) (s : State) → IsEvent e → IsState s → IsEnclosedBy P s → IsEnclosedBy P (after e s)
    stays e s event is enclosed = still-enclosed P encloses s enclosed (after e s) (any_code e s event is enclosed.bounds)

    pub run-enclosed : (events : List Event) (s : State) → AreEvents events → IsState s → IsEnclosedBy P s
        → IsEnclosedBy P (run_after events s) × LeavesPlacesBeyond P s (run_after events s)
    run-enclosed [] s are is enclosed = (enclosed, places-refl s)
    run-enclosed (e ∷ es) s are is enclosed =
        let t = after e s in
        let rest = run-enclosed es t are.1 (IsState-after s is e are.0) (stays e s are.0 is enclosed) in (
          rest.0,
          places-trans s t (run_after es t)
              (places-left P encloses s enclosed t (any_code e s are.0 is enclosed.bounds)) rest.1,
        )

    pub rules-kept : (rules : List Terms) (events : List Event) (s : State) → LendsNothing rules → KeepsRules P rules → AreEvents events
        → IsState s → IsEnclosedBy P s → KeepToEach rules events (length events) s
    rules-kept rules events s lends keeps are is enclosed =
        keep-always rules lends (IsEnclosedBy P) stays
        (λ t state there rule contains about v reachable broken.
        keeps rule contains v (bounded P t there.bounds v reachable) broken)
        events s are is enclosed
