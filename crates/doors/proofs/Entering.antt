-- A set with doors that bounds a state bounds what a sealed jump leaves; and a sealed jump leaves alone what it may not change.
use Rattle.std.proofs.Common.{◌≡◌, ℕ, zero, suc, ◌%◌, ◌*◌, ◌/◌, Bool, true, false, eqb, cond, List, [], ◌∷◌, set}
use Rattle.std.proofs.Common.{refl, sym, ap, ◌∙◌, subst, inl, inr, ◌⊎◌}
use Rattle.std.proofs.lemmas.Bool.{and_parts, cond_both, eqb-true}
use Rattle.base.specs.ObjectType.{sentry_type}
use Rattle.cap_bounds.specs.CapValue.{CapValue, is_tagged, value_otype, value_address}
use Rattle.cap_bounds.specs.SetAddress.{at_address}
use Rattle.cap_rights.specs.Derived.{IsDerivedIfTagged}
use Rattle.cap_rights.specs.DerivedLaws.{derived-self, derived-at_address, derived-seal_entry}
use Rattle.cap_rights.specs.Opened.{opened}
use Rattle.special_regs.specs.Traps.{is_sentry, sentry_opened, aligned, target}
use Rattle.registers.specs.Registers.{register, with_register}
use Rattle.steps.specs.declared.effect.Effect.{Effect}
use Rattle.steps.specs.declared.effect.Effect.TheVariants as effect
use Rattle.steps.specs.declared.effect.Enter.{Enter}
use Rattle.steps.specs.Effect.{applied}
use Rattle.steps.specs.JumpRows.{sentry_link}
use Rattle.steps.specs.Looks.{next_of}
use Rattle.steps.specs.Outcome.{Plain, Unseal, SealedJump, sealed_jump_if, outcome_of}
use Rattle.steps.specs.State.{State}
use Rattle.authority.specs.Authority.{HasSystem, SameScrs, LeavesAlone}
use Rattle.authority.specs.Derives.{Derives}
use Rattle.authority.specs.Reachable.{IsRoot, in_register, in_pcc, in_ddc, IsSpecial, in_mtcc, in_mtdc, in_mscratchc, in_mepcc, IsHeldAt}
use Rattle.authority.specs.RowLaws.{system-used}
use Rattle.doors.specs.Closed.{IsGroundedBy, Bounds, HasDoors}
use Rattle.doors.specs.DoorsLaws.{behind-sentry, behind-code, behind-data}
use Rattle.doors.specs.SetLaws.{IsGroundedIfTaggedBy, grounded_by-derived, system-bounded}
use Rattle.doors.proofs.Jumps.{IsEntry, IsInvocation, JumpsThrough}

-- ---- outcomes

unseal-jump : (tagged : Bool) → cond tagged Unseal Plain ≡ SealedJump → ⊥
unseal-jump true jump = cc
unseal-jump false jump = cc

through-seal : (sealed : Bool) → sealed_jump_if sealed ≡ SealedJump → sealed ≡ true
through-seal true jump = refl
through-seal false jump = cc

-- ---- PCC after a return

derived-aligned : (v : CapValue) → IsDerivedIfTagged (aligned v) v
unfolding aligned
derived-aligned v =
    cond_both (eqb (value_address v % 4) 0) v (at_address v (value_address v / 4 * 4)) (λ x. IsDerivedIfTagged x v)
    (λ _. derived-self v) (λ _. derived-at_address v (value_address v / 4 * 4))

-- a tagged sentry
record IsTaggedSentry (v : CapValue) : Type 0 where
  tagged : is_tagged v ≡ true
  sentry : value_otype v ≡ sentry_type

tagged-sentry : (v : CapValue) → is_sentry v ≡ true → IsTaggedSentry v
unfolding is_sentry
tagged-sentry v is =
    let both = and_parts _ _ is in
    record { tagged = both.0; sentry = eqb-true (value_otype v) sentry_type both.1 }

opened-sentry : (v : CapValue) → is_sentry v ≡ true → sentry_opened v ≡ opened v
unfolding sentry_opened
opened-sentry v is = ap (λ b. cond b (opened v) v) is

module _ (P : CapValue → Type 0) where
  -- ---- registers

  each-set : (registers : List CapValue) (n : ℕ) (v : CapValue) → IsGroundedIfTaggedBy P v
      → ((k : ℕ) → IsGroundedIfTaggedBy P (register registers k)) → (k : ℕ) → IsGroundedIfTaggedBy P (register (set registers n v) k)
  each-set [] n v new each k = each k
  each-set (r ∷ rs) zero v new each zero = new
  each-set (r ∷ rs) zero v new each (suc k) = each (suc k)
  each-set (r ∷ rs) (suc n) v new each zero = each 0
  each-set (r ∷ rs) (suc n) v new each (suc k) = each-set rs n v new (λ k. each (suc k)) k

  each-written : (registers : List CapValue) (n : ℕ) (v : CapValue) → IsGroundedIfTaggedBy P v
      → ((k : ℕ) → IsGroundedIfTaggedBy P (register registers k))
      → (k : ℕ) → IsGroundedIfTaggedBy P (register (with_register registers n v) k)
  unfolding with_register
  each-written registers n v new each =
      cond_both (eqb n 0) registers (set registers n v) (λ rs. (k : ℕ) → IsGroundedIfTaggedBy P (register rs k)) (λ _. each)
      (λ _. each-set registers n v new each)

  module _ (s : State) (bounds : Bounds P s) where
    by-register : (n : ℕ) → IsGroundedIfTaggedBy P (register s.registers n)
    by-register n = λ tagged. bounds.roots (register s.registers n) tagged (in_register n refl)

    by-pcc : IsGroundedIfTaggedBy P s.scrs.pcc
    by-pcc = λ tagged. bounds.roots s.scrs.pcc tagged (in_pcc refl)

    by-link : IsGroundedIfTaggedBy P (sentry_link s)
    by-link =
        let next : CapValue = at_address s.scrs.pcc (next_of s) in
        grounded_by-derived P (sentry_link s) next
        (grounded_by-derived P next s.scrs.pcc by-pcc (derived-at_address s.scrs.pcc (next_of s))) (derived-seal_entry next)

    by-mepcc : HasSystem s → IsGroundedIfTaggedBy P s.scrs.mepcc
    by-mepcc has = λ tagged.
        let by = system-bounded P s bounds has in
        bounds.specials by.source s.scrs.mepcc by.member by.opens tagged (in_mepcc refl)

    -- ---- a state with another PCC and other registers, all else as it was

    module _ (later : State) (each : (n : ℕ) → IsGroundedIfTaggedBy P (register later.registers n))
        (code : IsGroundedIfTaggedBy P later.scrs.pcc) (ddc : later.scrs.ddc ≡ s.scrs.ddc) (same : SameScrs s.scrs later.scrs)
        (memory : later.memory ≡ s.memory) where
      roots-moved : (v : CapValue) → is_tagged v ≡ true → IsRoot later v → IsGroundedBy P v
      roots-moved v tagged (in_register n is) = subst (IsGroundedBy P) (sym is) (each n (sym (ap is_tagged is) ∙ tagged))
      roots-moved v tagged (in_pcc is) = subst (IsGroundedBy P) (sym is) (code (sym (ap is_tagged is) ∙ tagged))
      roots-moved v tagged (in_ddc is) = bounds.roots v tagged (in_ddc (is ∙ ddc))

      special-before : (v : CapValue) → IsSpecial later v → IsSpecial s v
      special-before v (in_mtcc is) = in_mtcc (is ∙ same.mtcc)
      special-before v (in_mtdc is) = in_mtdc (is ∙ same.mtdc)
      special-before v (in_mscratchc is) = in_mscratchc (is ∙ same.mscratchc)
      special-before v (in_mepcc is) = in_mepcc (is ∙ same.mepcc)

      Bounds-moved : Bounds P later
      Bounds-moved = record {
        roots = roots-moved;
        specials = λ c v member opens tagged special. bounds.specials c v member opens tagged (special-before v special);
        granules = λ c v granule member opens here.
            bounds.granules c v granule member opens (subst (λ m. IsHeldAt m granule v) memory here);
      }

    -- ---- the three doors

    module _ (doors : HasDoors P) where
      code-entered : (e : Enter CapValue) → IsEntry s e ⊎ IsInvocation s e → IsGroundedIfTaggedBy P e.code
      code-entered e (inl entry) =
          subst (IsGroundedIfTaggedBy P) (sym entry.code)
          (behind-sentry P doors (register s.registers entry.number) entry.sentry (by-register entry.number))
      code-entered e (inr both) =
          subst (IsGroundedIfTaggedBy P) (sym both.code)
          (behind-code P doors (register s.registers both.code_number) (register s.registers both.data_number) both.pair
          (by-register both.code_number) (by-register both.data_number))

      link-entered : (e : Enter CapValue) → IsEntry s e ⊎ IsInvocation s e → IsGroundedIfTaggedBy P e.link
      link-entered e (inl entry) = subst (IsGroundedIfTaggedBy P) (sym entry.link) by-link
      link-entered e (inr both) =
          subst (IsGroundedIfTaggedBy P) (sym both.link)
          (behind-data P doors (register s.registers both.code_number) (register s.registers both.data_number) both.pair
          (by-register both.code_number) (by-register both.data_number))

      code-returned : HasSystem s → is_sentry s.scrs.mepcc ≡ true → IsGroundedIfTaggedBy P (target s.scrs.mepcc)
      code-returned has is =
          let v : CapValue = s.scrs.mepcc in
          let entry = tagged-sentry v is in
          grounded_by-derived P (target v) (sentry_opened v)
          (subst (IsGroundedIfTaggedBy P) (sym (opened-sentry v is)) (behind-sentry P doors v entry.sentry (by-mepcc has)))
          (derived-aligned (sentry_opened v))

      pub Bounds-jumped : (e : Effect CapValue) → JumpsThrough e s → Derives e s → outcome_of e ≡ SealedJump → Bounds P (applied e s)
      unfolding applied outcome_of JumpsThrough
      Bounds-jumped (effect.Enter e) through derives jump =
          let way = through (through-seal e.sealed jump) in
          Bounds-moved (applied (effect.Enter e) s)
          (each-written s.registers e.rd e.link (link-entered e way) by-register)
          (grounded_by-derived P (at_address e.code e.target) e.code (code-entered e way) (derived-at_address e.code e.target))
          refl (record { mtcc = refl; mtdc = refl; mscratchc = refl; mepcc = refl }) refl
      Bounds-jumped (effect.Return sealed) through derives jump =
          Bounds-moved (applied (effect.Return sealed) s) by-register
          (code-returned (system-used s derives.0) (sym derives.1 ∙ through-seal sealed jump))
          refl (record { mtcc = refl; mtdc = refl; mscratchc = refl; mepcc = refl }) refl
      Bounds-jumped (effect.Unseal w) through derives jump = absurd (unseal-jump (is_tagged w.value) jump)
      Bounds-jumped _ through derives jump = cc

-- ---- what a sealed jump leaves alone

pub jump-leaves : (e : Effect CapValue) (s : State) → Derives e s → outcome_of e ≡ SealedJump → LeavesAlone s (applied e s)
unfolding applied outcome_of
jump-leaves (effect.Enter e) s derives jump = record {
  memory = record { size = refl; bytes = λ a low none. refl; tags = λ granule none. refl };
  devices = record { halt = λ _. refl; kept = λ _ _. refl; control = λ _. refl };
  scrs = λ _. record { mtcc = refl; mtdc = refl; mscratchc = refl; mepcc = refl };
  csrs = λ _. record { mstatus_mie = refl; mstatus_mpie = refl; mie = refl; kept = refl; mcause = refl; mtval = refl };
}
jump-leaves (effect.Return sealed) s derives jump = record {
  memory = record { size = refl; bytes = λ a low none. refl; tags = λ granule none. refl };
  devices = record { halt = λ _. refl; kept = λ _ _. refl; control = λ _. refl };
  scrs = λ none. absurd (none (system-used s derives.0));
  csrs = λ none. absurd (none (system-used s derives.0));
}
jump-leaves (effect.Unseal w) s derives jump = absurd (unseal-jump (is_tagged w.value) jump)
jump-leaves _ s derives jump = cc
