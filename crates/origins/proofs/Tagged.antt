-- When what is made in a way is tagged.
use Rattle.std.proofs.Common.{◌≡◌, ℕ, ◌+◌, ◌%◌, ◌^◌, arith, [], ◌∷◌, Bool, true, false, eqb, not, ◌&&◌, ◌||◌, refl, ap, ◌∙◌, if◌then◌else◌}
use Rattle.std.specs.Prelude.{bit_and, nat_le, nat_lt}
use Rattle.std.proofs.lemmas.Bool.{cond_both}
use Rattle.std.proofs.lemmas.Bool.Decides.{nat_tests}
use Rattle.base.specs.ObjectType.{sentry_type}
use Rattle.cap_bounds.specs.CapValue.{CapValue, Cap, Data, is_sealed, is_tagged, value_address, value_base, value_otype, value_perms}
use Rattle.cap_bounds.specs.CapValue.{value_top}
use Rattle.cap_bounds.specs.Record.{Record, window_holds}
use Rattle.cap_bounds.specs.SetAddress.{at_address, data_at}
use Rattle.cap_bounds.specs.SetBounds.{bounds_exact, may_bound, with_bounds}
use Rattle.cap_checks.specs.FirstFault.{holds}
use Rattle.cap_insns.specs.CapabilityRows.{with_exact_bounds}
use Rattle.cap_rights.specs.Derivations.{and_perms, may_seal, may_unseal, seal, seal_entry, set_flags, tagged_if, unseal, with_flag}
use Rattle.cap_rights.specs.Derivations.{with_perms}
use Rattle.cap_rights.specs.Derivations.{unsealed_perms}
use Rattle.cap_rights.specs.ObjectType.{greatest_sealing_type}
use Rattle.cap_rights.specs.Opened.{opened, with_type}
use Rattle.cap_rights.specs.Permission.{permits}
use Rattle.cap_rights.specs.declared.permission.Permission.TheVariants.{Execute, Seal, Unseal}
use Rattle.origins.specs.declared.place.Place.{Place}
use Rattle.steps.specs.State.{State}
use Rattle.special_regs.specs.Traps.{is_sentry, placed_at, sentry_opened}
use Rattle.origins.specs.Making.{IsMade}
use Rattle.origins.specs.Places.{held, pcc}
use Rattle.origins.specs.Tags as spec
use Rattle.origins.specs.Tags.{all_hold, tag_asked}
use Rattle.origins.specs.declared.making.Making.{Making}
use Rattle.origins.specs.declared.making.Making.TheVariants.{Number, Copied, Cleared, Loaded, Moved, Bounded, BoundedExactly, Restricted}
use Rattle.origins.specs.declared.making.Making.TheVariants.{Flagged, Sealed, Unsealed, SealedEntry, Linked, Opened, Entered, Resumed}
use Rattle.origins.specs.declared.tag_question.TagQuestion.TheVariants as asks
use Rattle.origins.proofs.Values.{tagged-value_of}

and-true : (b : Bool) → b ≡ (b && true)
and-true true = refl
and-true false = refl

and-assoc : (a b c : Bool) → ((a && b) && c) ≡ (a && (b && c))
and-assoc true b c = refl
and-assoc false b c = refl

tagged-cond : (b : Bool) (r : Record) (n : ℕ) → is_tagged (if b then Cap r else Data n) ≡ b
tagged-cond true r n = refl
tagged-cond false r n = refl

tagged-tagged_if : (b : Bool) (v : CapValue) → is_tagged (tagged_if b v) ≡ (b && is_tagged v)
tagged-tagged_if true v = refl
tagged-tagged_if false v = refl

tagged-at_address : (v : CapValue) (address : ℕ) → is_tagged (at_address v address)
    ≡ (is_tagged v && (not (is_sealed v) && spec.in_window v address))
unfolding at_address
tagged-at_address (Cap r) address = tagged-cond (not (is_sealed (Cap r)) && window_holds r address) _ _
tagged-at_address (Data n) address = refl

moved : (place : Place) (v : CapValue) (address : ℕ) → is_tagged (at_address v address) ≡ all_hold (spec.moved_asked place v address)
moved place v address =
    tagged-at_address v address
    ∙ ap (λ b. is_tagged v && (not (is_sealed v) && b)) (and-true (spec.in_window v address))

with_bounds-tagged : (v : CapValue) (length : ℕ) → is_tagged (with_bounds v length) ≡ may_bound v length
unfolding with_bounds
with_bounds-tagged v length = tagged-cond (may_bound v length) _ _

bounded : (place : Place) (v : CapValue) (length : ℕ) → is_tagged (with_bounds v length) ≡ all_hold (spec.bounded_asked place v length)
unfolding may_bound holds
bounded place v length =
    with_bounds-tagged v length ∙ ap (λ b. is_tagged v && (not (is_sealed v) && b)) (and-true _)

and-comm : (a b : Bool) → (a && b) ≡ (b && a)
and-comm true true = refl
and-comm true false = refl
and-comm false true = refl
and-comm false false = refl

exact-last : (t u b e : Bool) → (e && (t && (u && b))) ≡ (t && (u && (b && (e && true))))
exact-last true true true true = refl
exact-last true true true false = refl
exact-last true true false true = refl
exact-last true true false false = refl
exact-last true false b true = refl
exact-last true false b false = refl
exact-last false u b true = refl
exact-last false u b false = refl

bounded_exactly : (place : Place) (v : CapValue) (length : ℕ)
    → is_tagged (with_exact_bounds v length) ≡ all_hold (spec.bounded_exactly_asked place v length)
unfolding with_exact_bounds may_bound holds
bounded_exactly place v length =
    tagged-tagged_if (bounds_exact v length) (with_bounds v length)
    ∙ ap (λ b. bounds_exact v length && b) (with_bounds-tagged v length)
    ∙ exact-last (is_tagged v) (not (is_sealed v)) _ (bounds_exact v length)

same-perms : (v : CapValue) (perms : ℕ) → is_tagged (with_perms v perms) ≡ is_tagged v
same-perms (Cap r) perms = refl
same-perms (Data n) perms = refl

same-flag : (v : CapValue) (flag : Bool) → is_tagged (with_flag v flag) ≡ is_tagged v
same-flag (Cap r) flag = refl
same-flag (Data n) flag = refl

same-type : (v : CapValue) (otype : ℕ) → is_tagged (with_type v otype) ≡ is_tagged v
same-type (Cap r) otype = refl
same-type (Data n) otype = refl

kept : (place : Place) (v w : CapValue) → is_tagged w ≡ is_tagged v
    → is_tagged (tagged_if (not (is_sealed v)) w) ≡ all_hold (spec.kept_asked place v)
kept place v w same =
    tagged-tagged_if (not (is_sealed v)) w
    ∙ ap (λ b. not (is_sealed v) && b) same
    ∙ and-comm (not (is_sealed v)) (is_tagged v)
    ∙ ap (λ b. is_tagged v && b) (and-true (not (is_sealed v)))

restricted : (place : Place) (v : CapValue) (mask : ℕ) → is_tagged (and_perms v mask) ≡ all_hold (spec.kept_asked place v)
unfolding and_perms
restricted place v mask = kept place v _ (same-perms v (bit_and (value_perms v) mask))

flagged : (place : Place) (v : CapValue) (flag : Bool) → is_tagged (set_flags v flag) ≡ all_hold (spec.kept_asked place v)
unfolding set_flags
flagged place v flag = kept place v _ (same-flag v flag)

-- a conjunction that begins with the tag says nothing new where it is tagged
and-first : (t r : Bool) → ((t && r) && t) ≡ (t && r)
and-first true r = and-comm r true
and-first false r = refl

two : (f g : Bool) → (f && g) ≡ (f && (g && true))
two true g = and-true g
two false g = refl

three : (e f g : Bool) → ((e && f) && g) ≡ (e && (f && (g && true)))
three true f g = two f g
three false f g = refl

four : (d e f g : Bool) → (((d && e) && f) && g) ≡ (d && (e && (f && (g && true))))
four true e f g = three e f g
four false e f g = refl

five : (c d e f g : Bool) → ((((c && d) && e) && f) && g) ≡ (c && (d && (e && (f && (g && true)))))
five true d e f g = four d e f g
five false d e f g = refl

six : (b c d e f g : Bool) → (((((b && c) && d) && e) && f) && g) ≡ (b && (c && (d && (e && (f && (g && true))))))
six true c d e f g = five c d e f g
six false c d e f g = refl

seven : (a b c d e f g : Bool) → ((((((a && b) && c) && d) && e) && f) && g) ≡ (a && (b && (c && (d && (e && (f && (g && true)))))))
seven true b c d e f g = six b c d e f g
seven false b c d e f g = refl

-- the tag is asked first, so that it need not be asked again
again : (a r x : Bool) → x ≡ (a && r) → (x && a) ≡ (a && r)
again a r x same = ap (λ b. b && a) same ∙ and-first a r

less-at_most : (a b : ℕ) → nat_lt a b ≡ nat_le (a + 1) b
less-at_most a b = grind (arith, nat_tests)

byte-held : (v : CapValue) → (nat_le (value_base v) (value_address v) && nat_lt (value_address v) (value_top v))
    ≡ holds v (value_address v) 1
unfolding holds
byte-held v = ap (λ b. nat_le (value_base v) (value_address v) && b) (less-at_most (value_address v) (value_top v))

sealed : (place by : Place) (v a : CapValue) → is_tagged (seal v a) ≡ all_hold (spec.sealed_asked place v by a)
unfolding seal may_seal
sealed place by v a =
    tagged-tagged_if (may_seal v a) (with_type v (value_address a % 2 ^ 18))
    ∙ ap (λ b. may_seal v a && b) (same-type v (value_address a % 2 ^ 18))
    ∙ again (is_tagged v) _ (may_seal v a)
    (seven (is_tagged v) (is_tagged a) (not (is_sealed v)) (not (is_sealed a)) _ _ _
    ∙ ap (λ b. is_tagged v && (is_tagged a && (not (is_sealed v) && (not (is_sealed a)
    && (permits a Seal && (b && (nat_le (value_address a) greatest_sealing_type && true))))))) (byte-held a))

unsealed : (place by : Place) (v a : CapValue) → is_tagged (unseal v a) ≡ all_hold (spec.unsealed_asked place v by a)
unfolding unseal may_unseal
unsealed place by v a =
    tagged-tagged_if (may_unseal v a) _
    ∙ ap (λ b. may_unseal v a && b) (same-type (with_perms v (unsealed_perms v a)) _ ∙ same-perms v (unsealed_perms v a))
    ∙ again (is_tagged v) _ (may_unseal v a)
    (seven (is_tagged v) (is_tagged a) _ (not (is_sealed a)) _ _ _
    ∙ ap (λ b. is_tagged v && (is_tagged a && (nat_le (value_otype v) greatest_sealing_type && (not (is_sealed a)
    && (permits a Unseal && (b && (eqb (value_address a) (value_otype v) && true))))))) (byte-held a))

entry-tagged : (v : CapValue) → is_tagged (seal_entry v) ≡ (is_tagged v && (not (is_sealed v) && (permits v Execute && true)))
unfolding seal_entry
entry-tagged v =
    tagged-tagged_if (is_tagged v && not (is_sealed v) && permits v Execute) (with_type v sentry_type)
    ∙ ap (λ b. (is_tagged v && not (is_sealed v) && permits v Execute) && b) (same-type v sentry_type)
    ∙ again (is_tagged v) _ _ (three (is_tagged v) (not (is_sealed v)) (permits v Execute))

entered : (place : Place) (v : CapValue) (address : ℕ) → is_tagged (at_address (opened v) address)
    ≡ all_hold (spec.entered_asked place v address)
unfolding at_address opened
entered place (Cap r) address = tagged-cond (window_holds r address) _ _ ∙ and-true (window_holds r address)
entered place (Data n) address = refl

-- a link: where the window doesn't hold the address, nothing is left to seal
both-true : (u w p : Bool) → (u && w) ≡ true → (u && (p && true)) ≡ (u && (w && (p && true)))
both-true true true p h = refl
both-true true false p h = cc
both-true false w p h = refl

both-false : (u w p : Bool) → (u && w) ≡ false → false ≡ (u && (w && (p && true)))
both-false true true p h = cc
both-false true false p h = refl
both-false false w p h = refl

linked : (v : CapValue) (address : ℕ) → is_tagged (seal_entry (at_address v address)) ≡ all_hold (spec.linked_asked v address)
unfolding at_address permits
linked (Cap r) address =
    let u : Bool = not (is_sealed (Cap r)) in
    let w : Bool = window_holds r address in
    entry-tagged (at_address (Cap r) address)
    ∙ cond_both (u && w) (Cap (record r { address = address })) (data_at (Cap r) address)
    (λ x. (is_tagged x && (not (is_sealed x) && (permits x Execute && true))) ≡ (u && (w && (permits (Cap r) Execute && true))))
    (λ h. both-true u w (permits (Cap r) Execute) h) (λ h. both-false u w (permits (Cap r) Execute) h)
linked (Data n) address = entry-tagged (data_at (Data n) address)

opened-tagged : (v : CapValue) → is_tagged (opened v) ≡ is_tagged v
unfolding opened
opened-tagged v = same-type v _

-- PCC after a trap or a return
or-true : (u : Bool) → true ≡ (u || true)
or-true true = refl
or-true false = refl

or-false : (u : Bool) → u ≡ (u || false)
or-false true = refl
or-false false = refl

unfoldable pub opened-if : Bool → Record → CapValue
opened-if b r = if b then opened (Cap r) else Cap r

resumed-cap : (r : Record) (address : ℕ) (b : Bool)
    → (is_tagged (opened-if b r) && (not (is_sealed (opened-if b r)) && spec.in_window (opened-if b r) address))
    ≡ ((not (is_sealed (Cap r)) || b) && (window_holds r address && true))
unfolding opened opened-if
resumed-cap r address true =
    and-true (window_holds r address) ∙ ap (λ b. b && (window_holds r address && true)) (or-true (not (is_sealed (Cap r))))
resumed-cap r address false =
    ap (λ b. not (is_sealed (Cap r)) && b) (and-true (window_holds r address))
    ∙ ap (λ b. b && (window_holds r address && true)) (or-false (not (is_sealed (Cap r))))

resumed-moved : (v : CapValue) (address : ℕ)
    → (is_tagged (sentry_opened v) && (not (is_sealed (sentry_opened v)) && spec.in_window (sentry_opened v) address))
    ≡ (is_tagged v && ((not (is_sealed v) || is_sentry v) && (spec.in_window v address && true)))
unfolding sentry_opened is_sentry opened-if
resumed-moved (Cap r) address = resumed-cap r address (eqb r.otype sentry_type)
resumed-moved (Data n) address = refl

same-opened-if : (r : Record) (b : Bool) → (is_tagged (opened-if b r) ≡ true) × (value_address (opened-if b r) ≡ r.address)
unfolding opened opened-if
same-opened-if r true = (refl, refl)
same-opened-if r false = (refl, refl)

pub same-sentry_opened : (v : CapValue) → (is_tagged (sentry_opened v) ≡ is_tagged v) × (value_address (sentry_opened v) ≡ value_address v)
unfolding sentry_opened is_sentry opened-if
same-sentry_opened (Cap r) = same-opened-if r (eqb r.otype sentry_type)
same-sentry_opened (Data n) = (refl, refl)

resumed : (place : Place) (v : CapValue) (address : ℕ)
    → is_tagged (placed_at address (sentry_opened v)) ≡ all_hold (spec.resumed_asked place v address)
unfolding placed_at
resumed place v address =
    let w : CapValue = sentry_opened v in
    ap (λ x. is_tagged (if eqb x address then w else at_address w address)) ((same-sentry_opened v).1)
    ∙ elim (eqb (value_address v) address) as
    (λ b. is_tagged (if b then w else at_address w address)
    ≡ all_hold (if b then spec.tag_of place v ∷ []
    else (spec.tag_of place v
    ∷ spec.if_so (asks.Seal place) (not (is_sealed v) || is_sentry v) ∷ spec.window_of place v address ∷ []))) [
      | true ↦ (same-sentry_opened v).0 ∙ and-true (is_tagged v)
      | false ↦ tagged-at_address w address ∙ resumed-moved v address
    ]

-- ---- all ways

pub made-tagged : (making : Making) (s : State) (v : CapValue) → IsMade making s v → is_tagged v ≡ all_hold (tag_asked making s)
unfolding tag_asked
made-tagged Number s v made = made
made-tagged (Copied from) s v made = ap is_tagged made ∙ and-true _
made-tagged (Cleared from) s v made = ap is_tagged made
made-tagged (Loaded address authority) s v made = ap is_tagged made ∙ tagged-value_of _ _ ∙ two _ _
made-tagged (Moved from address) s v made = ap is_tagged made ∙ moved from (held from s) address
made-tagged (Bounded from length) s v made = ap is_tagged made ∙ bounded from (held from s) length
made-tagged (BoundedExactly from length) s v made = ap is_tagged made ∙ bounded_exactly from (held from s) length
made-tagged (Restricted from mask) s v made = ap is_tagged made ∙ restricted from (held from s) mask
made-tagged (Flagged from flag) s v made = ap is_tagged made ∙ flagged from (held from s) flag
made-tagged (Sealed from authority) s v made = ap is_tagged made ∙ sealed from authority (held from s) (held authority s)
made-tagged (Unsealed from authority) s v made = ap is_tagged made ∙ unsealed from authority (held from s) (held authority s)
made-tagged (SealedEntry from) s v made = ap is_tagged made ∙ entry-tagged (held from s)
made-tagged (Linked address) s v made = ap is_tagged made ∙ linked (held pcc s) address
made-tagged (Opened from) s v made = ap is_tagged made ∙ opened-tagged (held from s) ∙ and-true _
made-tagged (Entered from address) s v made = ap is_tagged made ∙ entered from (held from s) address
made-tagged (Resumed from address) s v made = ap is_tagged made ∙ resumed from (held from s) address
