-- What is derived of grounded values is grounded; a framed state's authority doesn't grow; and that holds over several states.
use Rattle.std.proofs.Common.{◌≡◌, ℕ, true, ◌⊎◌, inl, inr, refl, sym, ap, ◌∙◌, subst}
use Rattle.base.specs.ObjectType.{sentry_type}
use Rattle.cap_bounds.specs.CapValue.{CapValue, is_tagged, is_sealed, value_otype}
use Rattle.cap_rights.specs.Rights.{IsInRightsOf, OpensSystem, OpensGranule}
use Rattle.cap_rights.specs.RightsLaws.{IsInRightsOf-refl, IsInRightsOf-trans, OpensSystem-outer, OpensGranule-outer, OpensStore-outer}
use Rattle.cap_rights.specs.RightsLaws.{OpensType-outer}
use Rattle.cap_rights.specs.Derived.{IsDerivedIfTagged, IsMadeOf}
use Rattle.steps.specs.State.{State}
use Rattle.authority.specs.Reachable.{IsSpecial, IsHeldAt, IsReachable, from_root, from_special, from_granule}
use Rattle.authority.specs.Authority.{Not, IsCovered, NoNewRights, IsSealAllowed, held, sentry, sealed_by, NewSealsAllowed, IsWritable}
use Rattle.authority.specs.Authority.{HasSystem, LeavesMemory, LeavesDevices, SameScrs, SameCsrs, LeavesAlone}
use Rattle.authority.specs.Grounded.{IsGrounded, IsGroundedIfTagged, GrowsNot, IsFramed}

-- ---- values

pub grounded-reachable : (s : State) (v : CapValue) → IsReachable s v → IsGrounded s v
grounded-reachable s v reachable = record {
  covered = record { source = v; reachable = reachable; within = IsInRightsOf-refl v };
  seal = λ _. held reachable;
}

covered-within : (s : State) (v c : CapValue) → IsInRightsOf v c → IsCovered s c → IsCovered s v
covered-within s v c within covered = record {
  source = covered.source;
  reachable = covered.reachable;
  within = IsInRightsOf-trans v c covered.source within covered.within;
}

seal-derived : (s : State) (v c : CapValue) → (is_sealed c ≡ true → IsSealAllowed s c) → is_sealed v ≡ true
    → (v ≡ c) ⊎ (value_otype v ≡ sentry_type) → IsSealAllowed s v
seal-derived s v c allowed closed (inl same) = subst (IsSealAllowed s) (sym same) (allowed (sym (ap is_sealed same) ∙ closed))
seal-derived s v c allowed closed (inr entry) = sentry entry

pub grounded-derived : (s : State) (v c : CapValue) → IsGroundedIfTagged s c → IsDerivedIfTagged v c → IsGroundedIfTagged s v
grounded-derived s v c earned derived = λ tagged.
    let d = derived tagged in
    let g = earned d.tagged in
    record {
      covered = covered-within s v c d.within g.covered;
      seal = λ closed. seal-derived s v c g.seal closed (d.seal closed);
    }

pub grounded-made : (s : State) (v c authority : CapValue) → IsGroundedIfTagged s c → IsGroundedIfTagged s authority
    → IsMadeOf v c authority → IsGrounded s v
grounded-made s v c authority earned by (inl d) =
    let g = earned d.tagged in
    record {
      covered = covered-within s v c d.within g.covered;
      seal = λ closed. seal-derived s v c g.seal closed (d.seal closed);
    }
grounded-made s v c authority earned by (inr d) =
    let a = (by d.by).covered in
    record {
      covered = covered-within s v c d.within (earned d.tagged).covered;
      seal = λ _. sealed_by a.source a.reachable (OpensType-outer authority a.source (value_otype v) a.within d.opens);
    }

-- ---- a frame

grounded-special : (s : State) (c v : CapValue) → IsGrounded s c → OpensSystem c → is_tagged v ≡ true → IsSpecial s v ⊎ IsGrounded s v
    → IsGrounded s v
grounded-special s c v earned opens tagged (inl special) =
    let source = earned.covered in
    grounded-reachable s v
    (from_special source.reachable (OpensSystem-outer c source.source source.within opens) tagged special)
grounded-special s c v earned opens tagged (inr grounded) = grounded

grounded-granule : (s : State) (c v : CapValue) (granule : ℕ) → IsGrounded s c → OpensGranule c granule
    → IsHeldAt s.memory granule v ⊎ IsGrounded s v → IsGrounded s v
grounded-granule s c v granule earned opens (inl here) =
    let source = earned.covered in
    grounded-reachable s v
    (from_granule granule source.reachable (OpensGranule-outer c source.source granule source.within opens) here)
grounded-granule s c v granule earned opens (inr grounded) = grounded

framed : (s later : State) → IsFramed s later → (v : CapValue) → IsReachable later v → IsGrounded s v
framed s later frame v (from_root tagged root) = frame.roots v tagged root
framed s later frame v (from_special {c = c} reachable opens tagged special) =
    grounded-special s c v (framed s later frame c reachable) opens tagged (frame.specials v tagged special)
framed s later frame v (from_granule {c = c} granule reachable opens here) =
    grounded-granule s c v granule (framed s later frame c reachable) opens (frame.granules granule v here)

pub GrowsNot-framed : (s later : State) → IsFramed s later → GrowsNot s later
GrowsNot-framed s later frame = record { grounded = framed s later frame }

-- ---- several states

pub GrowsNot-refl : (s : State) → GrowsNot s s
GrowsNot-refl s = record { grounded = grounded-reachable s }

covered-trans : (s t : State) (v : CapValue) → GrowsNot s t → IsCovered t v → IsCovered s v
covered-trans s t v grows covered =
    covered-within s v covered.source covered.within (grows.grounded covered.source covered.reachable).covered

seal-trans : (s t : State) (v : CapValue) → GrowsNot s t → is_sealed v ≡ true → IsSealAllowed t v → IsSealAllowed s v
seal-trans s t v grows closed (held reachable) = (grows.grounded v reachable).seal closed
seal-trans s t v grows closed (sentry entry) = sentry entry
seal-trans s t v grows closed (sealed_by c reachable opens) =
    let g = (grows.grounded c reachable).covered in
    sealed_by g.source g.reachable (OpensType-outer c g.source (value_otype v) g.within opens)

pub GrowsNot-trans : (s t u : State) → GrowsNot s t → GrowsNot t u → GrowsNot s u
GrowsNot-trans s t u first then = record {
  grounded = λ v reachable.
      let g = then.grounded v reachable in
      record { covered = covered-trans s t v first g.covered; seal = λ closed. seal-trans s t v first closed (g.seal closed) };
}

pub NoNewRights-grows : (s later : State) → GrowsNot s later → NoNewRights s later
NoNewRights-grows s later grows = λ v reachable. (grows.grounded v reachable).covered

pub NewSealsAllowed-grows : (s later : State) → GrowsNot s later → NewSealsAllowed s later
NewSealsAllowed-grows s later grows = λ v reachable. (grows.grounded v reachable).seal

pub IsWritable-before : (s t : State) (address : ℕ) → GrowsNot s t → IsWritable t address → IsWritable s address
IsWritable-before s t address grows writable =
    let g = (grows.grounded writable.source writable.reachable).covered in
    record {
      source = g.source;
      reachable = g.reachable;
      opens = OpensStore-outer writable.source g.source address g.within writable.opens;
    }

pub HasSystem-before : (s t : State) → GrowsNot s t → HasSystem t → HasSystem s
HasSystem-before s t grows has =
    let g = (grows.grounded has.source has.reachable).covered in
    record {
      source = g.source;
      reachable = g.reachable;
      opens = OpensSystem-outer has.source g.source g.within has.opens;
    }

-- ---- what several states leave alone

pub LeavesAlone-refl : (s : State) → LeavesAlone s s
LeavesAlone-refl s = record {
  memory = record { size = refl; bytes = λ a low not. refl; tags = λ granule not. refl };
  devices = record { halt = λ _. refl; kept = λ _ _. refl; control = λ _. refl };
  scrs = λ _. record { mtcc = refl; mtdc = refl; mscratchc = refl; mepcc = refl };
  csrs = λ _. record { mstatus_mie = refl; mstatus_mpie = refl; mie = refl; kept = refl; mcause = refl; mtval = refl };
}

module _ (s t u : State) (grows : GrowsNot s t) (first : LeavesAlone s t) (then : LeavesAlone t u) where
  unwritable : (address : ℕ) → Not (IsWritable s address) → Not (IsWritable t address)
  unwritable address none = λ writable. none (IsWritable-before s t address grows writable)

  no_system : Not (HasSystem s) → Not (HasSystem t)
  no_system none = λ has. none (HasSystem-before s t grows has)

  memory-trans : LeavesMemory s u.memory
  memory-trans = record {
    size = then.memory.size ∙ first.memory.size;
    bytes = λ a low none. then.memory.bytes a low (unwritable a none) ∙ first.memory.bytes a low none;
    tags =
        λ granule none. then.memory.tags granule (λ a low high. unwritable a (none a low high)) ∙ first.memory.tags granule none;
  }

  devices-trans : LeavesDevices s u.devices
  devices-trans = record {
    halt = λ none. then.devices.halt (unwritable _ none) ∙ first.devices.halt none;
    kept = λ k none. then.devices.kept k (unwritable _ none) ∙ first.devices.kept k none;
    control = λ none. then.devices.control (unwritable _ none) ∙ first.devices.control none;
  }

  scrs-trans : Not (HasSystem s) → SameScrs s.scrs u.scrs
  scrs-trans none =
      let one = first.scrs none in
      let two = then.scrs (no_system none) in
      record {
        mtcc = two.mtcc ∙ one.mtcc;
        mtdc = two.mtdc ∙ one.mtdc;
        mscratchc = two.mscratchc ∙ one.mscratchc;
        mepcc = two.mepcc ∙ one.mepcc;
      }

  csrs-trans : Not (HasSystem s) → SameCsrs s.csrs u.csrs
  csrs-trans none =
      let one = first.csrs none in
      let two = then.csrs (no_system none) in
      record {
        mstatus_mie = two.mstatus_mie ∙ one.mstatus_mie;
        mstatus_mpie = two.mstatus_mpie ∙ one.mstatus_mpie;
        mie = two.mie ∙ one.mie;
        kept = two.kept ∙ one.kept;
        mcause = two.mcause ∙ one.mcause;
        mtval = two.mtval ∙ one.mtval;
      }

  pub LeavesAlone-trans : LeavesAlone s u
  LeavesAlone-trans = record { memory = memory-trans; devices = devices-trans; scrs = scrs-trans; csrs = csrs-trans }
