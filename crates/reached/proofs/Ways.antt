-- The way down from a member to a root, which is turned round in the end.
use Rattle.std.proofs.Common.{◌≡◌, ℕ, ◌+◌, ◌-◌, ◌<◌, ◌++◌, true, List, [], ◌∷◌, length, get_or, refl, sym, ap, ◌∙◌, subst, arith, inl, inr}
use Rattle.std.proofs.Common.{reverse, suc, ◌≤◌, false, Some, None, append_assoc, append-nil}
use Rattle.std.specs.Prelude.{Option, option_map, unwrap_or}
use Rattle.std.proofs.lemmas.Bool.{cases_lt, true≢false}
use Rattle.std.proofs.lemmas.List.{length_push, get_or_push, get_or_append_left, length-reverse, get_or-reverse}
use Rattle.std.proofs.lemmas.Option.{slice_get-get_or}
use Rattle.std.proofs.lemmas.List.{length-map, get_or-map}
use Rattle.cap_bounds.specs.CapValue.{CapValue}
use Rattle.reached.specs.declared.member.Member.{Member}
use Rattle.reached.specs.declared.member.Place.{Place}
use Rattle.reached.specs.declared.member.Place.TheVariants.{Root, Special, Granule}
use Rattle.reached.specs.Order.{Found, seen_member, seen_members, leads_from, above, above_in, way_up, chain_of}
use Rattle.reached.specs.Chain.{is_root, IsFrom, IsChain}

-- The numbers of members from one down: each was found through the next, and the last is this one.
pub record IsWayDown {X : Type 0} (ms : List (Member X)) (index : ℕ) (way : List ℕ) (last : ℕ) : Type 0 where
  pub some : 0 < length way
  pub members : (j : ℕ) → j < length way → get_or way j 0 < length ms
  pub first : get_or way 0 0 ≡ index
  pub links : (j : ℕ) (d : Member X) → j + 1 < length way → IsFrom (get_or ms (get_or way j 0) d) (get_or way (j + 1) 0)
  pub last_is : get_or way (length way - 1) 0 ≡ last

module _ {X : Type 0} (ms : List (Member X)) (index : ℕ) where
  pub IsWayDown-begun : index < length ms → IsWayDown ms index (index ∷ []) index
  IsWayDown-begun inside = record {
    some = omega arith;
    members = λ j below. subst (λ k. get_or (index ∷ []) k 0 < length ms) (sym (first_place j below)) inside;
    first = refl;
    links = λ j d below. absurd (omega arith);
    last_is = refl;
  }
    where
      first_place : (j : ℕ) → j < length (index ∷ []) → j ≡ 0
      first_place j below = omega arith

  pub IsWayDown-inside : (way : List ℕ) (last : ℕ) → IsWayDown ms index way last → last < length ms
  IsWayDown-inside way last w = subst (λ k. k < length ms) w.last_is (w.members (length way - 1) (omega (arith, w.some)))

  module _ (way : List ℕ) (last from : ℕ) (w : IsWayDown ms index way last) where
    before : (j : ℕ) → j < length way → get_or (way ++ from ∷ []) j 0 ≡ get_or way j 0
    before j below = get_or_append_left way (from ∷ []) 0 j below

    at_end : (j : ℕ) → j ≡ length way → get_or (way ++ from ∷ []) j 0 ≡ from
    at_end j same = get_or_push way from 0 j (sym same)

    -- one member more
    pub IsWayDown-more : from < length ms → ((d : Member X) → IsFrom (get_or ms last d) from) → IsWayDown ms index (way ++ from ∷ []) from
    IsWayDown-more inside link =
        let some : 0 < length way = w.some in
        let long : length (way ++ from ∷ []) ≡ length way + 1 = length_push way from in
        record {
          some = omega arith;
          members = λ j below. elim (cases_lt j (length way)) [
            | inl old ↦ subst (λ k. k < length ms) (sym (before j old)) (w.members j old)
            | inr new ↦ subst (λ k. k < length ms) (sym (at_end j (omega arith))) inside
          ];
          first = before 0 some ∙ w.first;
          links = λ j d below. elim (cases_lt (j + 1) (length way)) [
            | inl old ↦ subst (λ k. IsFrom (get_or ms k d) (get_or (way ++ from ∷ []) (j + 1) 0)) (sym (before j (omega arith)))
                (subst (IsFrom (get_or ms (get_or way j 0) d)) (sym (before (j + 1) old)) (w.links j d old))
            | inr new ↦
                let at : j ≡ length way - 1 = omega arith in
                subst (λ k. IsFrom (get_or ms k d) (get_or (way ++ from ∷ []) (j + 1) 0))
                (sym (before j (omega arith) ∙ ap (λ k. get_or way k 0) at ∙ w.last_is))
                (subst (IsFrom (get_or ms last d)) (sym (at_end (j + 1) (omega arith))) (link d))
          ];
          last_is = at_end (length (way ++ from ∷ []) - 1) (omega arith);
        }

  -- a way down to a root is a chain, turned round
  pub IsChain-reversed : (way : List ℕ) (last : ℕ) → IsWayDown ms index way last
      → ((d : Member X) → is_root (get_or ms last d).place ≡ true) → IsChain ms index (reverse way)
  IsChain-reversed way last w root =
      let some : 0 < length way = w.some in
      let same : length (reverse way) ≡ length way = length-reverse way in
      let at : (j : ℕ) → j < length way → get_or (reverse way) j 0 ≡ get_or way (length way - 1 - j) 0 =
      λ j below. get_or-reverse way j 0 below in
      record {
        some = omega arith;
        members = λ j below. subst (λ k. k < length ms) (sym (at j (omega arith))) (w.members (length way - 1 - j) (omega arith));
        root = λ d.
            let place : length way - 1 - 0 ≡ length way - 1 = omega arith in
            subst (λ k. is_root (get_or ms k d).place ≡ true) (sym (at 0 some ∙ ap (λ k. get_or way k 0) place ∙ w.last_is)) (root d);
        links = λ j d below.
            let next : length way - 1 - (j + 1) + 1 ≡ length way - 1 - j = omega arith in
            subst (λ k. IsFrom (get_or ms k d) (get_or (reverse way) j 0)) (sym (at (j + 1) (omega arith)))
            (subst (IsFrom (get_or ms (get_or way (length way - 1 - (j + 1)) 0) d))
            (ap (λ k. get_or way k 0) next ∙ sym (at j (omega arith)))
            (w.links (length way - 1 - (j + 1)) d (omega arith)));
        last =
            let place : length way - 1 - (length (reverse way) - 1) ≡ 0 = omega arith in
            at (length (reverse way) - 1) (omega arith) ∙ ap (λ k. get_or way k 0) place ∙ w.first;
      }

-- ---- the way up, number by number

leads_on : (place : Place) (from : ℕ) → is_root place ≡ false → leads_from place from ≡ Some from
leads_on (Root n) from other = absurd (true≢false other)
leads_on (Special n) from other = refl
leads_on (Granule a) from other = refl

leads_no_further : (place : Place) (from : ℕ) → is_root place ≡ true → leads_from place from ≡ None
leads_no_further (Root n) from root = refl
leads_no_further (Special n) from root = absurd (true≢false (sym root))
leads_no_further (Granule a) from root = absurd (true≢false (sym root))

abbrev pub way_after : ℕ → List Found → Option ℕ → List ℕ
way_after n members o = unwrap_or (option_map (λ j. way_up n members j) o) []

-- the way up from one of the members, with the members before on the way down
pub record IsWayUp (members : List Found) (index : ℕ) (way : List ℕ) (last : ℕ) : Type 0 where
  pub rest : way ++ way_after (index + 1 - length way) members (above members last) ≡ way_up (index + 1) members index
  pub enough : last + length way ≤ index + 1

pub IsWayUp-begun : (members : List Found) (index : ℕ) → IsWayUp members index (index ∷ []) index
IsWayUp-begun members index = record {
  rest = ap (λ n. index ∷ way_after n members (above members index)) less ∙ sym (ap (λ n. way_up n members index) more);
  enough = omega arith;
}
  where
    less : index + 1 - length (index ∷ []) ≡ index
    less = omega arith

    more : index + 1 ≡ suc index
    more = omega arith

module _ {X : Type 0} (value : X → CapValue) (ms : List (Member X)) (index : ℕ) where
  seen_at : (k : ℕ) (d : Member X) → k < length ms
      → above (seen_members value ms) k ≡ leads_from (get_or ms k d).place (get_or ms k d).from
  seen_at k d below =
      ap above_in (slice_get-get_or (seen_members value ms) k (seen_member value d) (omega (arith, length-map ms (seen_member value)))
      ∙ ap Some (get_or-map (seen_member value) ms k d (seen_member value d) below))

  pub IsWayUp-more : (way : List ℕ) (last from : ℕ) (d : Member X) → IsWayUp (seen_members value ms) index way last → last < length ms
      → IsFrom (get_or ms last d) from → from < last → IsWayUp (seen_members value ms) index (way ++ from ∷ []) from
  IsWayUp-more way last from d w below link earlier =
      let members = seen_members value ms in
      let enough = w.enough in
      let long : length (way ++ from ∷ []) ≡ length way + 1 = length_push way from in
      let n = index + 1 - length (way ++ from ∷ []) in
      let fuel : index + 1 - length way ≡ suc n = omega arith in
      let next : above members last ≡ Some from =
      seen_at last d below ∙ leads_on (get_or ms last d).place (get_or ms last d).from link.no_root ∙ ap Some link.from_is in
      record {
        rest = append_assoc way (from ∷ []) (way_after n members (above members from))
            ∙ sym (ap (λ o. way ++ way_after (suc n) members o) next)
            ∙ sym (ap (λ k. way ++ way_after k members (above members last)) fuel) ∙ w.rest;
        enough = omega arith;
      }

  pub way-reversed : (way : List ℕ) (last : ℕ) (d : Member X) → IsWayUp (seen_members value ms) index way last → last < length ms
      → is_root (get_or ms last d).place ≡ true → reverse way ≡ chain_of (seen_members value ms) index
  unfolding chain_of
  way-reversed way last d w below root =
      let members = seen_members value ms in
      ap reverse (sym (append-nil way)
      ∙ sym (ap (λ o. way ++ way_after (index + 1 - length way) members o)
      (seen_at last d below ∙ leads_no_further (get_or ms last d).place (get_or ms last d).from root)) ∙ w.rest)
