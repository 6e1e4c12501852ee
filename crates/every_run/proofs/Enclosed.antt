-- Members that hold all, harm nothing and keep the rules: they enclose each state that a known one stands for.
use Rattle.std.proofs.Common.{◌≡◌, ℕ, ◌≤◌, true, false, List, [], ◌∷◌, ◌++◌, sym, ap, ◌∙◌, subst, inl, inr, None, arith}
use Rattle.std.proofs.lemmas.Bool.{true≢false}
use Rattle.std.proofs.lemmas.List.Elements.{Contains-append_left, Contains-append_right}
use Rattle.std.specs.List.{Contains}
use Rattle.base.specs.ObjectType.{is_reserved}
use Rattle.base.specs.Ram.{ram_base}
use Rattle.cap_bounds.specs.CapValue.{CapValue, value_of, value_otype}
use Rattle.cap_rights.specs.Rights.{OpensSystem}
use Rattle.tagged_memory.specs.Memory.{Memory, has_tag, word_at}
use Rattle.tagged_memory.specs.MemoryLaws.{in_ram}
use Rattle.steps.specs.IsState.{IsState}
use Rattle.steps.specs.State.{State}
use Rattle.authority.specs.Reachable.{IsHeldAt}
use Rattle.authority.specs.SameBytesLaws.{word_at-same}
use Rattle.doors.specs.Closed.{Bounds, HasDoors, IsGroundedBy}
use Rattle.doors.specs.Roots.{roots_of, specials_of}
use Rattle.doors.specs.RootsLaws.{there_root, there_special}
use Rattle.doors.specs.SetLaws.{grounded-member}
use Rattle.doors.specs.Sets.{IsSealAllowedBy, as_member, as_sentry, by_member}
use Rattle.policy.specs.Rule.{Breaks, BreaksRule}
use Rattle.policy.specs.Terms.{Terms}
use Rattle.policy.specs.declared.rule.Ban.{Ban}
use Rattle.policy.specs.declared.rule.Ban.TheVariants as ban
use Rattle.policy.proofs.Rights.{beyond-sealed, breaks-outer}
use Rattle.reach.specs.declared.range.Range.{Range}
use Rattle.always.specs.Enclosed.{Encloses, IsEnclosedBy, KeepsRules}
use Rattle.every_run.specs.Handled.{BeginsAt, HandlesTraps, IsAmongCode, IsDirect, IsHandled, IsKept, entry_marks}
use Rattle.every_run.specs.Known.{IsOutside}
use Rattle.every_run.specs.Lasting.{AlwaysHold, AlwaysHoldFrom}
use Rattle.every_run.specs.Members.{HoldAll, MaySeal, AreHarmless, KeepEach, AreTagsKnown}
use Rattle.every_run.specs.Stands.{IsSameWhere, StandsFor}

-- ---- the set

-- the value opens no system register, and seals or unseals nothing
pub record IsHarmless (v : CapValue) : Type 0 where
  pub system : OpensSystem v → ⊥
  pub seal : MaySeal v → ⊥

pub encloses : (vs : List CapValue) → HasDoors (Contains vs) → AreHarmless vs → Encloses (Contains vs)
encloses vs doors harmless = record {
  doors = doors;
  unseals = λ c otype member opens.
      let low = opens.base in
      let high = opens.top in
      harmless.seal c member (record { unsealed = opens.unsealed; permitted = inr opens.unseals; some = omega arith });
  system = λ has. harmless.system has.source has.member has.opens;
}

module _ (vs : List CapValue) (harmless : AreHarmless vs) (rules : List Terms) (keep : KeepEach rules vs) (rule : Terms)
    (there : Contains rules rule) (v : CapValue) where
  breaks-none : (part : Ban) → (c : CapValue) → Contains vs c → Breaks rule part c → ⊥
  breaks-none part c member broken = keep rule there c member (record { ban = part; breaks = broken })

  sealed-none : Breaks rule ban.Types v → is_reserved (value_otype v) ≡ false → IsSealAllowedBy (Contains vs) v → ⊥
  sealed-none broken free (as_member member) = breaks-none ban.Types v member broken
  sealed-none broken free (as_sentry sentry) = true≢false (subst (λ o. is_reserved o ≡ false) sentry free)
  sealed-none broken free (by_member c member opens) =
      let low = opens.base in
      let high = opens.top in
      harmless.seal c member (record { unsealed = opens.unsealed; permitted = inl opens.seals; some = omega arith })

  types-none : IsGroundedBy (Contains vs) v → Breaks rule ban.Types v → ⊥
  types-none grounded broken =
      let both = beyond-sealed v rule.types broken in
      sealed-none broken both.1 (grounded.seal both.0)

  none-breaks : IsGroundedBy (Contains vs) v → BreaksRule rule v → ⊥
  none-breaks grounded broken =
      let covered = grounded.covered in
      elim (breaks-outer v covered.source covered.within rule broken.ban broken.breaks) [
        | inl outer ↦ keep rule there covered.source covered.member outer
        | inr is ↦ types-none grounded (subst (λ part. Breaks rule part v) is broken.breaks)
      ]

keeps-rules : (vs : List CapValue) (rules : List Terms) → AreHarmless vs → KeepEach rules vs → KeepsRules (Contains vs) rules
keeps-rules vs rules harmless keep rule there v = none-breaks vs harmless rules keep rule there v

-- ---- the state

module _ (Known : ℕ → Type 0) (a : State) (is : IsState a) (tags : AreTagsKnown Known a.memory) where
  -- what a tagged granule holds is known
  held-known : (other : Memory) → IsSameWhere Known a.memory other → (granule : ℕ) (v : CapValue) → IsHeldAt other granule v
      → IsHeldAt a.memory granule v
  held-known other same granule v here =
      let tagged : has_tag a.memory granule ≡ true = sym (same.tags granule) ∙ here.tagged in
      let inside = is.memory.granules_in_ram granule tagged in
      let base : ram_base ≤ granule = (in_ram a.memory granule 16 inside).0 in
      let word : word_at other granule ≡ word_at a.memory granule =
      word_at-same a.memory other granule (record {
        inside = inside;
        length = same.size;
        bytes = λ b low high. same.bytes b (omega arith) (tags granule tagged b low high);
      }) in
      record { tagged = tagged; value = here.value ∙ ap (λ w. value_of w true) word }

  -- the set bounds the state, where it has all that its registers lead to
  module _ (vs begin : List CapValue) (all : HoldAll vs begin a.memory) (harmless : AreHarmless vs)
      (within : (v : CapValue) → Contains (roots_of a) v → Contains begin v) (s : State) (stands : StandsFor Known a s) where
    roots-same : roots_of s ≡ roots_of a
    roots-same =
        ap (λ r. r ++ (s.scrs.pcc ∷ s.scrs.ddc ∷ [])) stands.registers
        ∙ ap (λ x. a.registers ++ (x.pcc ∷ x.ddc ∷ [])) stands.scrs

    is-bounded : Bounds (Contains vs) s
    is-bounded = record {
      roots = λ v tagged root.
          grounded-member (Contains vs) v
          (all.roots v tagged (within v (subst (λ xs. Contains xs v) roots-same (there_root s v tagged root))));
      specials = λ c v member opens tagged special. absurd (harmless.system c member opens);
      granules = λ c v granule member opens here.
          grounded-member (Contains vs) v (all.granules c v granule member opens (held-known s.memory stands.memory granule v here));
    }

  module _ (vs : List CapValue) (all : HoldAll vs (roots_of a ++ specials_of a.scrs) a.memory) (harmless : AreHarmless vs)
      (rules : List Terms) (keep : KeepEach rules vs) where
    is-enclosed : (s : State) → StandsFor Known a s → IsEnclosedBy (Contains vs) s
    is-enclosed s stands = record {
      bounds = is-bounded vs (roots_of a ++ specials_of a.scrs) all harmless
          (λ v there. Contains-append_left (roots_of a) (specials_of a.scrs) v there) s stands;
      specials = λ v tagged special.
          grounded-member (Contains vs) v (all.roots v tagged (Contains-append_right (roots_of a) (specials_of a.scrs) v
          (subst (λ x. Contains (specials_of x) v) stands.scrs (there_special s v special))));
    }

    pub holds-from : ((us : List CapValue) (rs : List Terms) (s : State) → Encloses (Contains us) → KeepsRules (Contains us) rs → IsState s
        → IsEnclosedBy (Contains us) s → AlwaysHold rs s)
        → AlwaysHoldFrom Known rules a
    holds-from law s state stands =
        law vs rules s (encloses vs all.doors harmless) (keeps-rules vs rules harmless keep) state (is-enclosed s stands)

-- where a trap enters the kernel's own code, and it returns to the set
module _ (any : List Range) (a : State) (is : IsState a) (tags : AreTagsKnown (IsOutside any) a.memory) (vs : List CapValue)
    (all : HoldAll vs (roots_of a) a.memory) (harmless : AreHarmless vs) (rules : List Terms) (keep : KeepEach rules vs) where
  among-code : (s : State) → StandsFor (IsOutside any) a s → IsAmongCode (Contains vs) (IsKept vs any) a s
  among-code s stands = record {
    bounds = is-bounded (IsOutside any) a is tags vs (roots_of a) all harmless (λ v there. there) s stands;
    mtcc = ap (λ x. x.mtcc) stands.scrs;
    mtdc = ap (λ x. x.mtdc) stands.scrs;
    mscratchc = ap (λ x. x.mscratchc) stands.scrs;
    memory = record {
      size = stands.memory.size;
      bytes = λ b low kept. stands.memory.bytes b low kept.outside;
      tags = λ granule kept. stands.memory.tags granule;
    };
  }

  pub guards-from : a.devices.halted ≡ None → HandlesTraps rules (Contains vs) (IsKept vs any) a
      → ((us : List CapValue) (any : List Range) (rs : List Terms) (o entry s : State) → Encloses (Contains us)
      → KeepsRules (Contains us) rs → IsState o → IsDirect o → o.devices.halted ≡ None → BeginsAt o entry
      → IsHandled rs (Contains us) (IsKept us any) o entry_marks entry → IsState s → IsAmongCode (Contains us) (IsKept us any) o s
      → AlwaysHold rs s)
      → AlwaysHoldFrom (IsOutside any) rules a
  guards-from running handles law s state stands =
      law vs any rules a handles.entry s (encloses vs all.doors harmless) (keeps-rules vs rules harmless keep) is handles.direct running
      handles.begins handles.handled state (among-code s stands)
