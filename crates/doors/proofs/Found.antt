-- Where a lent value may be after a turn, and when a trap ends it; and what is left of it when the kernel has cleared it away.
use Rattle.std.proofs.Common.{◌≡◌, ℕ, Bool, true, false, cond, Option, None, Some, refl, sym, ap, ◌∙◌}
use Rattle.base.specs.declared.fault.Fault.{Fault}
use Rattle.cap_bounds.specs.CapValue.{CapValue, is_tagged}
use Rattle.special_regs.specs.Traps.{trapped_scrs}
use Rattle.steps.specs.declared.effect.Effect.{Effect}
use Rattle.steps.specs.declared.effect.Effect.TheVariants as effect
use Rattle.steps.specs.declared.event.Event.{Event}
use Rattle.steps.specs.declared.event.Event.TheVariants.{Step, Tick, Byte}
use Rattle.steps.specs.Effect.{applied}
use Rattle.steps.specs.Event.{after, outcome}
use Rattle.steps.specs.Outcome.{Plain, Trap, Unseal, SealedJump, outcome_of, step_outcome, step_outcome_unless}
use Rattle.steps.specs.State.{State}
use Rattle.steps.specs.Step.{step_effect, stepped, stepped_unless}
use Rattle.authority.specs.Authority.{SameScrs}
use Rattle.authority.specs.Lent.{IsKeptBy, before, given, lent, KeepsNothingLentBeyond}
use Rattle.authority.specs.Reachable.{IsReachable, from_root, from_special, from_granule, IsHeldAt, IsSpecial, in_mtcc, in_mtdc}
use Rattle.authority.specs.Reachable.{in_mscratchc, in_mepcc as saved}
use Rattle.doors.specs.Lent.{IsLent, IsIn, at_root, at_special, at_granule, IsLeftBehind, lay, kept, IsFoundIn, in_root, in_mepcc}
use Rattle.doors.specs.Lent.{in_special, left, IsClearedOf}

-- ---- a trap

-- a trap was entered
pub record IsEntered (s later : State) : Type 0 where
  pub fault : Fault
  pub scrs : later.scrs ≡ trapped_scrs fault s.scrs

unseals-no-trap : (tagged : Bool) → cond tagged Unseal Plain ≡ Trap → ⊥
unseals-no-trap true is = cc
unseals-no-trap false is = cc

jumps-no-trap : (closed : Bool) → cond closed SealedJump Plain ≡ Trap → ⊥
jumps-no-trap true is = cc
jumps-no-trap false is = cc

entered-by : (x : Effect CapValue) (s : State) → outcome_of x ≡ Trap → IsEntered s (applied x s)
unfolding applied outcome_of
entered-by (effect.Trap f) s is = record { fault = f; scrs = refl }
entered-by (effect.Unseal w) s is = absurd (unseals-no-trap (is_tagged w.value) is)
entered-by (effect.Enter e) s is = absurd (jumps-no-trap e.sealed is)
entered-by (effect.Return closed) s is = absurd (jumps-no-trap closed is)
entered-by _ s is = cc

entered-unless : (halted : Option ℕ) (s : State) → step_outcome_unless halted s ≡ Trap → IsEntered s (stepped_unless halted s)
entered-unless None s is = entered-by (step_effect s) s is
entered-unless (Some number) s is = cc

pub entered : (e : Event) (s : State) → outcome e s ≡ Trap → IsEntered s (after e s)
unfolding stepped step_outcome
entered Step s is = entered-unless s.devices.halted s is
entered Tick s is = cc
entered (Byte b) s is = cc

-- ---- where a lent value is

module _ (P : CapValue → Type 0) (s : State) (v : CapValue) (is : IsLent v) where
  left-kept : (later : State) (granule : ℕ) → IsHeldAt later.memory granule v → IsKeptBy P s.memory granule v
      → IsLeftBehind P s.memory later.memory v
  left-kept later granule here (before held) = lay granule here held
  left-kept later granule here (given global by c member opens) = let never : true ≡ false = sym global ∙ is.local in cc
  left-kept later granule here (lent local c member opens) = kept granule here c member opens

  special-before : (later : State) → SameScrs s.scrs later.scrs → IsSpecial later v → IsSpecial s v
  special-before later same (in_mtcc at) = in_mtcc (at ∙ same.mtcc)
  special-before later same (in_mtdc at) = in_mtdc (at ∙ same.mtdc)
  special-before later same (in_mscratchc at) = in_mscratchc (at ∙ same.mscratchc)
  special-before later same (saved at) = saved (at ∙ same.mepcc)

  pub found-turn : (later : State) → SameScrs s.scrs later.scrs → KeepsNothingLentBeyond P s.memory later.memory → IsIn later v
      → IsFoundIn P s later v
  found-turn later same keeps (at_root root) = in_root root
  found-turn later same keeps (at_special special) = in_special special (special-before later same special)
  found-turn later same keeps (at_granule granule here) = left (left-kept later granule here (keeps granule v here))

  module _ (t later : State) (same : SameScrs s.scrs t.scrs) (trap : IsEntered t later) where
    special-trap : IsSpecial later v → IsFoundIn P s later v
    special-trap (in_mtcc at) = in_special (in_mtcc at) (in_mtcc (at ∙ ap (λ x. x.mtcc) trap.scrs ∙ same.mtcc))
    special-trap (in_mtdc at) = in_special (in_mtdc at) (in_mtdc (at ∙ ap (λ x. x.mtdc) trap.scrs ∙ same.mtdc))
    special-trap (in_mscratchc at) =
        in_special (in_mscratchc at) (in_mscratchc (at ∙ ap (λ x. x.mscratchc) trap.scrs ∙ same.mscratchc))
    special-trap (saved at) = in_mepcc at

    pub found-trap : KeepsNothingLentBeyond P s.memory later.memory → IsIn later v → IsFoundIn P s later v
    found-trap keeps (at_root root) = in_root root
    found-trap keeps (at_special special) = special-trap special
    found-trap keeps (at_granule granule here) = left (left-kept later granule here (keeps granule v here))

  -- ---- when the kernel has cleared it away

  module _ (later cleared : State) (clear : IsClearedOf v later cleared) (keeps : KeepsNothingLentBeyond P s.memory later.memory) where
    pub left-cleared : IsReachable cleared v → IsLeftBehind P s.memory later.memory v
    left-cleared (from_root tagged root) = absurd (clear.roots root)
    left-cleared (from_special {c = c} reachable opens tagged special) =
        absurd (clear.system (record { source = c; reachable = reachable; opens = opens }))
    left-cleared (from_granule {c = c} granule reachable opens here) =
        let held = clear.granules c granule reachable opens here in
        left-kept later granule held (keeps granule v held)
