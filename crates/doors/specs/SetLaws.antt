-- What a set bounds: what is reachable, what a frame leaves, and what its doors lead to; and what is left alone beyond it.
use Rattle.std.proofs.Common.{◌≡◌, ℕ, true, false, ◌⊎◌, inl, inr, refl, sym, ap, ◌∙◌, subst}
use Rattle.std.proofs.lemmas.Bool.{cases_Bool, false≢true}
use Rattle.base.specs.ObjectType.{sentry_type}
use Rattle.cap_bounds.specs.CapValue.{CapValue, Cap, Data, is_tagged, is_sealed, value_otype}
use Rattle.cap_rights.specs.Derived.{IsDerivedIfTagged}
use Rattle.cap_rights.specs.Opened.{opened}
use Rattle.cap_rights.specs.Rights.{IsInRightsOf}
use Rattle.cap_rights.specs.RightsLaws.{IsInRightsOf-refl, IsInRightsOf-trans, OpensSystem-outer, OpensGranule-outer, OpensStore-outer}
use Rattle.cap_rights.specs.RightsLaws.{OpensType-outer}
use Rattle.cap_rights.specs.Within.{IsWithin}
use Rattle.steps.specs.State.{State}
use Rattle.authority.specs.Authority.{IsSealAllowed, held, sentry, sealed_by, IsWritable, HasSystem, LeavesAlone}
use Rattle.authority.specs.Reachable.{IsReachable, from_root, from_special, from_granule}
use Rattle.authority.specs.Grounded.{IsGrounded, IsFramed}
use Rattle.doors.specs.Sets.{IsCoveredBy, NoRightsBeyond, IsSealAllowedBy, as_member, as_sentry, by_member, NoSealsBeyond}
use Rattle.doors.specs.Sets.{IsWritableBy, HasSystemBy, LeavesMemoryBeyond, LeavesDevicesBeyond, LeavesAloneBeyond}
use Rattle.doors.specs.Closed.{IsClosed, IsGroundedBy, Bounds}

-- tagged, the value is grounded
abbrev pub IsGroundedIfTaggedBy : (CapValue → Type 0) → CapValue → Type 0
IsGroundedIfTaggedBy P v = is_tagged v ≡ true → IsGroundedBy P v

-- ---- without a seal

opened-unsealed : (v : CapValue) → is_tagged (opened v) ≡ true → is_sealed (opened v) ≡ false
unfolding opened
opened-unsealed (Cap r) tagged = refl
opened-unsealed (Data n) tagged = cc

opened-within : (v c : CapValue) → is_tagged (opened v) ≡ true → IsWithin v c → IsWithin (opened v) c
unfolding opened
opened-within (Cap r) c tagged within = record { base = within.base; top = within.top; perms = within.perms }
opened-within (Data n) c tagged within = cc

opened-tagged : (v : CapValue) → is_tagged (opened v) ≡ true → is_tagged v ≡ true
unfolding opened
opened-tagged (Cap r) tagged = refl
opened-tagged (Data n) tagged = cc

pub tagged-opened : (v : CapValue) → is_tagged v ≡ true → is_tagged (opened v) ≡ true
unfolding opened
tagged-opened (Cap r) tagged = refl
tagged-opened (Data n) tagged = cc

module _ (P : CapValue → Type 0) where
  -- ---- values

  pub grounded-member : (v : CapValue) → P v → IsGroundedBy P v
  grounded-member v member = record {
    covered = record { source = v; member = member; within = IsInRightsOf-refl v };
    seal = λ _. as_member member;
  }

  covered-within : (v c : CapValue) → IsInRightsOf v c → IsCoveredBy P c → IsCoveredBy P v
  covered-within v c within covered = record {
    source = covered.source;
    member = covered.member;
    within = IsInRightsOf-trans v c covered.source within covered.within;
  }

  seal-derived : (v c : CapValue) → (is_sealed c ≡ true → IsSealAllowedBy P c) → is_sealed v ≡ true
      → (v ≡ c) ⊎ (value_otype v ≡ sentry_type) → IsSealAllowedBy P v
  seal-derived v c allowed closed (inl same) = subst (IsSealAllowedBy P) (sym same) (allowed (sym (ap is_sealed same) ∙ closed))
  seal-derived v c allowed closed (inr entry) = as_sentry entry

  pub grounded_by-derived : (v c : CapValue) → IsGroundedIfTaggedBy P c → IsDerivedIfTagged v c → IsGroundedIfTaggedBy P v
  grounded_by-derived v c earned derived = λ tagged.
      let d = derived tagged in
      let g = earned d.tagged in
      record {
        covered = covered-within v c d.within g.covered;
        seal = λ closed. seal-derived v c g.seal closed (d.seal closed);
      }

  -- ---- doors

  -- without its seal a value is within the rights of whichever unsealed member it was within the rights of; and a value within the
  -- rights of a sealed member is that member
  opened-covered : (v : CapValue) → is_tagged (opened v) ≡ true → IsCoveredBy P v → (P v → P (opened v)) → IsCoveredBy P (opened v)
  opened-covered v tagged covered door = elim (cases_Bool (is_sealed covered.source)) [
    | inl closed ↦
        let member : P v = subst P (sym (covered.within.of_sealed closed)) covered.member in
        record { source = opened v; member = door member; within = IsInRightsOf-refl (opened v) }
    | inr unsealed ↦ record {
      source = covered.source;
      member = covered.member;
      within = record {
        of_unsealed = λ e. opened-within v covered.source tagged (covered.within.of_unsealed e);
        of_sealed = λ e. absurd (false≢true (sym unsealed ∙ e));
      };
    }
  ]

  pub grounded_by-opened : (v : CapValue) → IsGroundedIfTaggedBy P v → (P v → P (opened v)) → IsGroundedIfTaggedBy P (opened v)
  grounded_by-opened v earned door = λ tagged. record {
    covered = opened-covered v tagged (earned (opened-tagged v tagged)).covered door;
    seal = λ closed. absurd (false≢true (sym (opened-unsealed v tagged) ∙ closed));
  }

  -- ---- what is reachable

  -- a set that is closed under links bounds its state
  pub Bounds-closed : (s : State) → IsClosed P s → Bounds P s
  Bounds-closed s closed = record {
    roots = λ v tagged root. grounded-member v (closed.roots v tagged root);
    specials = λ c v member opens tagged special. grounded-member v (closed.specials c v member opens tagged special);
    granules = λ c v granule member opens here. grounded-member v (closed.granules c v granule member opens here);
  }

  pub closed-reachable : (s : State) → IsClosed P s → (v : CapValue) → IsReachable s v → P v
  closed-reachable s closed v (from_root tagged root) = closed.roots v tagged root
  closed-reachable s closed v (from_special {c = c} before opens tagged special) =
      closed.specials c v (closed-reachable s closed c before) opens tagged special
  closed-reachable s closed v (from_granule {c = c} granule before opens here) =
      closed.granules c v granule (closed-reachable s closed c before) opens here

  module _ (s : State) (bounds : Bounds P s) where
    pub bounded : (v : CapValue) → IsReachable s v → IsGroundedBy P v
    bounded v (from_root tagged root) = bounds.roots v tagged root
    bounded v (from_special {c = c} before opens tagged special) =
        let g = (bounded c before).covered in
        bounds.specials g.source v g.member (OpensSystem-outer c g.source g.within opens) tagged special
    bounded v (from_granule {c = c} granule before opens here) =
        let g = (bounded c before).covered in
        bounds.granules g.source v granule g.member (OpensGranule-outer c g.source granule g.within opens) here

    pub rights-bounded : NoRightsBeyond P s
    rights-bounded = λ v reachable. (bounded v reachable).covered

    pub seals-bounded : NoSealsBeyond P s
    seals-bounded = λ v reachable. (bounded v reachable).seal

    seal-bounded : (v : CapValue) → is_sealed v ≡ true → IsSealAllowed s v → IsSealAllowedBy P v
    seal-bounded v closed (held reachable) = (bounded v reachable).seal closed
    seal-bounded v closed (sentry entry) = as_sentry entry
    seal-bounded v closed (sealed_by c reachable opens) =
        let g = (bounded c reachable).covered in
        by_member g.source g.member (OpensType-outer c g.source (value_otype v) g.within opens)

    pub grounded-bounded : (v : CapValue) → IsGrounded s v → IsGroundedBy P v
    grounded-bounded v grounded = record {
      covered = covered-within v grounded.covered.source grounded.covered.within
          (bounded grounded.covered.source grounded.covered.reachable).covered;
      seal = λ closed. seal-bounded v closed (grounded.seal closed);
    }

    -- a frame of the state stays bounded
    pub Bounds-framed : (later : State) → IsFramed s later → Bounds P later
    Bounds-framed later frame = record {
      roots = λ v tagged root. grounded-bounded v (frame.roots v tagged root);
      specials = λ c v member opens tagged special. elim (frame.specials v tagged special) [
        | inl before ↦ bounds.specials c v member opens tagged before
        | inr grounded ↦ grounded-bounded v grounded
      ];
      granules = λ c v granule member opens here. elim (frame.granules granule v here) [
        | inl before ↦ bounds.granules c v granule member opens before
        | inr grounded ↦ grounded-bounded v grounded
      ];
    }

    -- ---- what is left alone

    pub writable-bounded : (a : ℕ) → IsWritable s a → IsWritableBy P a
    writable-bounded a writable =
        let g = (bounded writable.source writable.reachable).covered in
        record {
          source = g.source;
          member = g.member;
          opens = OpensStore-outer writable.source g.source a g.within writable.opens;
        }

    pub system-bounded : HasSystem s → HasSystemBy P
    system-bounded has =
        let g = (bounded has.source has.reachable).covered in
        record {
          source = g.source;
          member = g.member;
          opens = OpensSystem-outer has.source g.source g.within has.opens;
        }

    pub left-bounded : (later : State) → LeavesAlone s later → LeavesAloneBeyond P s later
    left-bounded later left = record {
      memory = record {
        size = left.memory.size;
        bytes = λ a low none. left.memory.bytes a low (λ writable. none (writable-bounded a writable));
        tags = λ granule none. left.memory.tags granule (λ a low high. λ writable. none a low high (writable-bounded a writable));
      };
      devices = record {
        halt = λ none. left.devices.halt (λ writable. none (writable-bounded _ writable));
        kept = λ k none. left.devices.kept k (λ writable. none (writable-bounded _ writable));
        control = λ none. left.devices.control (λ writable. none (writable-bounded _ writable));
      };
      scrs = λ none. left.scrs (λ has. none (system-bounded has));
      csrs = λ none. left.csrs (λ has. none (system-bounded has));
    }

  -- ---- several states

  pub left-refl : (s : State) → LeavesAloneBeyond P s s
  left-refl s = record {
    memory = record { size = refl; bytes = λ a low none. refl; tags = λ granule none. refl };
    devices = record { halt = λ _. refl; kept = λ _ _. refl; control = λ _. refl };
    scrs = λ _. record { mtcc = refl; mtdc = refl; mscratchc = refl; mepcc = refl };
    csrs = λ _. record { mstatus_mie = refl; mstatus_mpie = refl; mie = refl; kept = refl; mcause = refl; mtval = refl };
  }

  module _ (s t u : State) (first : LeavesAloneBeyond P s t) (then : LeavesAloneBeyond P t u) where
    memory-trans : LeavesMemoryBeyond P s.memory u.memory
    memory-trans = record {
      size = then.memory.size ∙ first.memory.size;
      bytes = λ a low none. then.memory.bytes a low none ∙ first.memory.bytes a low none;
      tags = λ granule none. then.memory.tags granule none ∙ first.memory.tags granule none;
    }

    devices-trans : LeavesDevicesBeyond P s.devices u.devices
    devices-trans = record {
      halt = λ none. then.devices.halt none ∙ first.devices.halt none;
      kept = λ k none. then.devices.kept k none ∙ first.devices.kept k none;
      control = λ none. then.devices.control none ∙ first.devices.control none;
    }

    pub left-trans : LeavesAloneBeyond P s u
    left-trans = record {
      memory = memory-trans;
      devices = devices-trans;
      scrs = λ none.
          let one = first.scrs none in
          let two = then.scrs none in
          record {
            mtcc = two.mtcc ∙ one.mtcc;
            mtdc = two.mtdc ∙ one.mtdc;
            mscratchc = two.mscratchc ∙ one.mscratchc;
            mepcc = two.mepcc ∙ one.mepcc;
          };
      csrs = λ none.
          let one = first.csrs none in
          let two = then.csrs none in
          record {
            mstatus_mie = two.mstatus_mie ∙ one.mstatus_mie;
            mstatus_mpie = two.mstatus_mpie ∙ one.mstatus_mpie;
            mie = two.mie ∙ one.mie;
            kept = two.kept ∙ one.kept;
            mcause = two.mcause ∙ one.mcause;
            mtval = two.mtval ∙ one.mtval;
          };
    }
