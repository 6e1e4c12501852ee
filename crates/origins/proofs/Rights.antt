-- What is made in a way is within the rights of its source.
use Rattle.std.proofs.Common.{◌≡◌, ℕ, Bool, true, false, not, ◌&&◌, eqb, Option, Some, None, refl, sym, ap, ◌∙◌, arith, lit<, if◌then◌else◌}
use Rattle.std.specs.Prelude.{IfSome}
use Rattle.std.specs.Option.{unwrap_or}
use Rattle.std.specs.Int.Bits.{and_self}
use Rattle.std.proofs.lemmas.Bool.{both_ways, cond_both}
use Rattle.cap_bounds.specs.CapValue.{CapValue, Cap, Data, IsSound, is_sealed, is_tagged, value_address, value_of}
use Rattle.base.specs.ObjectType.{sentry_type, unsealed_type}
use Rattle.cap_bounds.specs.Record.{Record, window_holds}
use Rattle.cap_bounds.specs.SetAddress.{at_address, data_at}
use Rattle.cap_bounds.specs.SoundLaws.{IsSound-integer, IsSound-value_of}
use Rattle.tagged_memory.specs.ReadLaws.{word_at-below}
use Rattle.cap_rights.specs.DerivationLaws.{IsWithin-unseal, IsWithin-with_type}
use Rattle.cap_rights.specs.DerivedLaws.{in_rights-unsealed}
use Rattle.cap_rights.specs.Derivations.{may_unseal}
use Rattle.origins.proofs.Tagged.{opened-if}
use Rattle.cap_bounds.specs.SetBounds.{bounds_exact, with_bounds}
use Rattle.cap_insns.specs.CapabilityRows.{with_exact_bounds}
use Rattle.cap_rights.specs.Derivations.{seal_entry, unseal}
use Rattle.cap_rights.specs.Derived.{IsDerivedIfTagged}
use Rattle.cap_rights.specs.DerivedLaws.{derived-and_perms, derived-at_address, derived-seal_entry, derived-set_flags}
use Rattle.cap_rights.specs.DerivedLaws.{derived-tagged_if, derived-with_bounds, sealed-seal}
use Rattle.cap_rights.specs.Opened.{opened}
use Rattle.cap_rights.specs.Permission.{permits}
use Rattle.cap_rights.specs.declared.permission.Permission.TheVariants.{LoadCapability}
use Rattle.cap_rights.specs.Rights.{IsInRightsOf}
use Rattle.cap_rights.specs.RightsLaws.{IsInRightsOf-refl, IsInRightsOf-trans}
use Rattle.cap_rights.specs.Within.{IsWithin}
use Rattle.origins.specs.declared.place.Place.{Place}
use Rattle.origins.specs.declared.place.Place.TheVariants as place
use Rattle.tagged_memory.specs.Memory.{has_tag, word_at}
use Rattle.special_regs.specs.Scrs.{scr_value}
use Rattle.special_regs.specs.SoundLaws.{IsSound-scr_value}
use Rattle.special_regs.specs.Traps.{is_sentry, placed_at, sentry_opened}
use Rattle.steps.specs.IsState.{IsState}
use Rattle.steps.specs.State.{State}
use Rattle.registers.specs.Registers.{null}
use Rattle.origins.specs.Making.{IsMade, IsWithinSource, loaded, rights_of, source}
use Rattle.origins.specs.Places.{held, pcc}
use Rattle.origins.specs.declared.making.Making.{Making}
use Rattle.origins.specs.declared.making.Making.TheVariants.{Number, Copied, Cleared, Loaded, Moved, Bounded, BoundedExactly, Restricted}
use Rattle.origins.specs.declared.making.Making.TheVariants.{Flagged, Sealed, Unsealed, SealedEntry, Linked, Opened, Entered, Resumed}

derived-with_exact_bounds : (v : CapValue) (length : ℕ) → IsSound v → IsDerivedIfTagged (with_exact_bounds v length) v
unfolding with_exact_bounds
derived-with_exact_bounds v length sound =
    derived-tagged_if (bounds_exact v length) (with_bounds v length) v (λ _. derived-with_bounds v length sound)

-- a value that is derived from another
in_rights : (v w c : CapValue) → v ≡ w → IsDerivedIfTagged w c → is_tagged v ≡ true → IsInRightsOf v c
in_rights v w c same derived tagged = rw same ((derived (sym (ap is_tagged same) ∙ tagged)).within)

-- one that is derived from one that is derived from another
derived-twice : (w x c : CapValue) → IsDerivedIfTagged w x → IsDerivedIfTagged x c → is_tagged w ≡ true → IsInRightsOf w c
derived-twice w x c last first tagged =
    let one = last tagged in
    IsInRightsOf-trans w x c one.within ((first one.tagged).within)

-- ---- where a seal may be opened

abbrev opened_rights : CapValue → CapValue
opened_rights v = if is_sealed v then opened v else v

within-opened : (w : CapValue) (r : Record) → IsWithin w (Cap r) → IsWithin w (opened (Cap r))
unfolding opened
within-opened w r within = record { base = within.base; top = within.top; perms = within.perms }

unsealed-opened : (r : Record) → is_sealed (opened (Cap r)) ≡ false
unfolding opened
unsealed-opened r = refl

rights-opened : (w : CapValue) (r : Record) → IsWithin w (Cap r) → IsInRightsOf w (opened_rights (Cap r))
rights-opened w r within =
    cond_both (is_sealed (Cap r)) (opened (Cap r)) (Cap r) (λ c. IsInRightsOf w c)
    (λ _. in_rights-unsealed w (opened (Cap r)) (unsealed-opened r) (within-opened w r within))
    (λ open_. in_rights-unsealed w (Cap r) open_ within)

untagged-unseal : (n : ℕ) (a : CapValue) → is_tagged (unseal (Data n) a) ≡ false
unfolding unseal may_unseal
untagged-unseal n a = refl

unsealed-rights : (v a : CapValue) → is_tagged (unseal v a) ≡ true → IsInRightsOf (unseal v a) (opened_rights v)
unsealed-rights (Cap r) a tagged = rights-opened (unseal (Cap r) a) r (IsWithin-unseal (Cap r) a tagged)
unsealed-rights (Data n) a tagged = absurd (both_ways _ (untagged-unseal n a) tagged)

opened-rights : (v : CapValue) → is_tagged (opened v) ≡ true → IsInRightsOf (opened v) (opened_rights v)
unfolding opened
opened-rights (Cap r) tagged = rights-opened (opened (Cap r)) r (IsWithin-with_type (Cap r) unsealed_type refl)
opened-rights (Data n) tagged = cc

within-at_address : (r : Record) (address : ℕ)
    → is_tagged (at_address (Cap r) address) ≡ true → IsWithin (at_address (Cap r) address) (Cap r)
unfolding at_address
within-at_address r address =
    cond_both (not (is_sealed (Cap r)) && window_holds r address) (Cap (record r { address = address })) (data_at (Cap r) address)
    (λ w. is_tagged w ≡ true → IsWithin w (Cap r))
    (λ _ _. record { base = omega arith; top = omega arith; perms = and_self r.perms }) (λ _ tagged. cc)

untagged-at_address : (n address : ℕ) → is_tagged (at_address (Data n) address) ≡ false
unfolding at_address
untagged-at_address n address = refl

entered-rights : (v : CapValue) (address : ℕ) → is_tagged (at_address (opened v) address) ≡ true
    → IsInRightsOf (at_address (opened v) address) (opened_rights v)
unfolding opened
entered-rights (Cap r) address tagged =
    let within = within-at_address (record r { otype = unsealed_type }) address tagged in
    rights-opened _ r (record { base = within.base; top = within.top; perms = within.perms })
entered-rights (Data n) address tagged = absurd (both_ways _ (untagged-at_address _ address) tagged)

-- a capability with the fields of another but its address and its type
resumed-within : (r : Record) (address : ℕ) (b here : Bool)
    → is_tagged (if here then opened-if b r else at_address (opened-if b r) address) ≡ true
    → IsWithin (if here then opened-if b r else at_address (opened-if b r) address) (Cap r)
unfolding opened-if opened
resumed-within r address true true tagged = record { base = omega arith; top = omega arith; perms = and_self r.perms }
resumed-within r address false true tagged = record { base = omega arith; top = omega arith; perms = and_self r.perms }
resumed-within r address true false tagged =
    let within = within-at_address (record r { otype = unsealed_type }) address tagged in
    record { base = within.base; top = within.top; perms = within.perms }
resumed-within r address false false tagged = within-at_address r address tagged

resumed-rights : (v : CapValue) (address : ℕ) → is_tagged (placed_at address (sentry_opened v)) ≡ true
    → IsInRightsOf (placed_at address (sentry_opened v)) (opened_rights v)
unfolding placed_at sentry_opened is_sentry opened-if
resumed-rights (Cap r) address tagged =
    let b : Bool = eqb r.otype sentry_type in
    rights-opened _ r (resumed-within r address b (eqb (value_address (opened-if b r)) address) tagged)
resumed-rights (Data n) address tagged =
    cond_both (eqb (value_address (Data n)) address) (Data n) (at_address (Data n) address)
    (λ w. is_tagged w ≡ true → IsInRightsOf w (opened_rights (Data n)))
    (λ _ tagged. cc) (λ _ tagged. absurd (both_ways _ (untagged-at_address n address) tagged)) tagged

-- ---- a granule, and soundness

loaded-rights : (word : ℕ) (tag may : Bool) → is_tagged (value_of word (tag && may)) ≡ true
    → IsInRightsOf (value_of word (tag && may)) (value_of word tag)
loaded-rights word true true tagged = IsInRightsOf-refl _
loaded-rights word true false tagged = cc
loaded-rights word false may tagged = cc

special-sound : (o : Option CapValue) → IfSome o IsSound → IsSound (unwrap_or o null)
special-sound None sound = IsSound-integer 0 (lit< tt)
special-sound (Some v) sound = sound

pub held-sound : (s : State) → IsState s → (p : Place) → IsSound (held p s)
unfolding held
held-sound s is (place.Register n) = is.values n
held-sound s is (place.Special n) = special-sound (scr_value s.scrs n) (IsSound-scr_value s.scrs n is.scrs)
held-sound s is (place.Granule address) =
    IsSound-value_of (word_at s.memory address)
    (has_tag s.memory address) (word_at-below s.memory address is.memory) (is.capabilities address)

loaded-from : (s : State) (address : ℕ) (a : CapValue) → is_tagged (loaded address a s) ≡ true
    → IsInRightsOf (loaded address a s) (held (place.Granule address) s)
unfolding held
loaded-from s address a = loaded-rights (word_at s.memory address) (has_tag s.memory address) (permits a LoadCapability)

-- ---- all ways

within : (making : Making) (s : State) (v w : CapValue) (from : Place) → v ≡ w
    → (is_tagged w ≡ true → IsInRightsOf w (rights_of making (held from s))) → IsWithinSource making (Some from) s v
within making s v w from same rights tagged = rw same (rights (sym (ap is_tagged same) ∙ tagged))

pub made-within : (s : State) → IsState s → (making : Making) (v : CapValue) → IsMade making s v
    → IsWithinSource making (source making) s v
made-within s is Number v made = made
made-within s is (Copied from) v made = within (Copied from) s v _ from made (λ _. IsInRightsOf-refl (held from s))
made-within s is (Cleared from) v made = within (Cleared from) s v _ from made (λ tagged. cc)
made-within s is (Loaded address authority) v made =
    within (Loaded address authority) s v _ (place.Granule address) made (loaded-from s address (held authority s))
made-within s is (Moved from address) v made =
    within (Moved from address) s v _ from made (λ t. (derived-at_address (held from s) address t).within)
made-within s is (Bounded from length) v made =
    within (Bounded from length) s v _ from made (λ t. (derived-with_bounds (held from s) length (held-sound s is from) t).within)
made-within s is (BoundedExactly from length) v made =
    within (BoundedExactly from length) s v _ from made
    (λ t. (derived-with_exact_bounds (held from s) length (held-sound s is from) t).within)
made-within s is (Restricted from mask) v made =
    within (Restricted from mask) s v _ from made (λ t. (derived-and_perms (held from s) mask t).within)
made-within s is (Flagged from flag) v made =
    within (Flagged from flag) s v _ from made (λ t. (derived-set_flags (held from s) flag t).within)
made-within s is (Sealed from authority) v made =
    within (Sealed from authority) s v _ from made (λ t. (sealed-seal (held from s) (held authority s) t).within)
made-within s is (Unsealed from authority) v made =
    within (Unsealed from authority) s v _ from made (unsealed-rights (held from s) (held authority s))
made-within s is (SealedEntry from) v made =
    within (SealedEntry from) s v _ from made (λ t. (derived-seal_entry (held from s) t).within)
made-within s is (Linked address) v made =
    within (Linked address) s v _ pcc made
    (derived-twice (seal_entry (at_address (held pcc s) address)) (at_address (held pcc s) address) (held pcc s)
    (derived-seal_entry (at_address (held pcc s) address)) (derived-at_address (held pcc s) address))
made-within s is (Opened from) v made = within (Opened from) s v _ from made (opened-rights (held from s))
made-within s is (Entered from address) v made = within (Entered from address) s v _ from made (entered-rights (held from s) address)
made-within s is (Resumed from address) v made = within (Resumed from address) s v _ from made (resumed-rights (held from s) address)
