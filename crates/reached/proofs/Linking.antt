-- Members stay linked while others come after them.
use Rattle.std.proofs.Common.{◌≡◌, ℕ, ◌+◌, ◌-◌, ◌<◌, ◌≤◌, ◌++◌, true, false, List, [], ◌∷◌, length, get_or, map, take, drop, refl, sym}
use Rattle.std.proofs.Common.{ap, ◌∙◌, cond, subst, arith, inl, inr}
use Rattle.std.proofs.lemmas.Bool.{cases_lt}
use Rattle.std.proofs.lemmas.List.{length-append, length-map, length-take, map-append, get_or_append_left, get_or-append_right}
use Rattle.std.proofs.lemmas.List.{take-append-drop, take_more}
use Rattle.std.proofs.lemmas.List.Elements.{All-get_or, filter-append}
use Rattle.std.specs.List.{All, filter}
use Rattle.cap_bounds.specs.CapValue.{CapValue, is_tagged}
use Rattle.cap_rights.specs.Rights.{OpensSystem, OpensGranule}
use Rattle.tagged_memory.specs.Memory.{Memory}
use Rattle.reached.specs.declared.member.Member.{Member}
use Rattle.reached.specs.Links.{IsLinked, in_root, in_special, in_granule, values, AreLinked, IsMemberThrough, IsAmong}

module _ {X : Type 0} (value : X → CapValue) (roots specials : List CapValue) (m : Memory) where
  IsLinked-grown : (vs ws : List CapValue) (k : ℕ) (x : Member X) → k ≤ length vs → IsLinked value roots specials m vs k x
      → IsLinked value roots specials m (vs ++ ws) k x
  IsLinked-grown vs ws k x within (in_root n place some is_it) = in_root n place some is_it
  IsLinked-grown vs ws k x within (in_special n place some is_it before opens) =
      in_special n place some is_it before
      (subst OpensSystem (sym (get_or_append_left vs ws (value x.cap) x.from (omega arith))) opens)
  IsLinked-grown vs ws k x within (in_granule granule place here before opens) =
      in_granule granule place here before
      (subst (λ v. OpensGranule v granule) (sym (get_or_append_left vs ws (value x.cap) x.from (omega arith))) opens)

  -- what was found through the capability at a place has its link
  abbrev pub HasLink : ℕ → CapValue → Member X → Type 0
  HasLink from c x =
      (vs : List CapValue) (k : ℕ) → from < k → ((d : CapValue) → get_or vs from d ≡ c) → IsLinked value roots specials m vs k x

  pub linked-through : (c : CapValue) (from : ℕ) (x : Member X) → IsMemberThrough value m c from x → HasLink from c x
  linked-through c from x b vs k before at =
      in_granule b.granule b.place_is b.here (omega (arith, b.from_is))
      (subst (λ v. OpensGranule v b.granule) (sym (ap (λ i. get_or vs i (value x.cap)) b.from_is ∙ at (value x.cap))) b.opens)

  pub linked-special : (c : CapValue) (from : ℕ) (x : Member X) → OpensSystem c × IsAmong value specials true from x → HasLink from c x
  linked-special c from x (opens, a) vs k before at =
      in_special a.number a.place_is a.some a.is_it (omega (arith, a.from_is))
      (subst OpensSystem (sym (ap (λ i. get_or vs i (value x.cap)) a.from_is ∙ at (value x.cap))) opens)

  pub linked-root : (from : ℕ) (x : Member X) → IsAmong value roots false from x → (vs : List CapValue) (k : ℕ)
      → IsLinked value roots specials m vs k x
  linked-root from x a vs k = in_root a.number a.place_is a.some a.is_it

  -- the members before stay linked, and those that come after them are
  AreLinked-after : (ms more : List (Member X)) → AreLinked value roots specials m ms
      → ((k : ℕ) (x : Member X) → length ms ≤ k → (j : ℕ) → j < length more → x ≡ get_or more j x
      → IsLinked value roots specials m (values value (ms ++ more)) k x)
      → AreLinked value roots specials m (ms ++ more)
  AreLinked-after ms more linked new k d below = elim (cases_lt k (length ms)) [
    | inl before ↦
        let vs = values value ms in
        let grown : IsLinked value roots specials m (vs ++ values value more) k (get_or ms k d) =
        IsLinked-grown vs (values value more) k (get_or ms k d) (omega (arith, length-map ms (λ x. value x.cap))) (linked k d before) in
        subst (λ us. IsLinked value roots specials m us k (get_or (ms ++ more) k d)) (sym (map-append (λ x. value x.cap) ms more))
        (subst (λ x. IsLinked value roots specials m (vs ++ values value more) k x) (sym (get_or_append_left ms more d k before)) grown)
    | inr after ↦
        let j : ℕ = k - length ms in
        let inside : j < length more = omega (arith, length-append ms more) in
        let there : get_or (ms ++ more) k d ≡ get_or more j d = get_or-append_right ms more (length ms) k d refl after in
        new k (get_or (ms ++ more) k d) after j inside (there ∙ default more j d (get_or (ms ++ more) k d) inside)
  ]
    where
      default : (xs : List (Member X)) (i : ℕ) (a b : Member X) → i < length xs → get_or xs i a ≡ get_or xs i b
      default xs i a b within = Rattle.std.proofs.lemmas.List.get_or_default xs i a b within

  pub AreLinked-added : (P : Member X → Type 0) (ms ns : List (Member X)) (from : ℕ) (c : CapValue) → AreLinked value roots specials m ms
      → take (length ms) ns ≡ ms → from < length ms → ((d : CapValue) → get_or (values value ms) from d ≡ c)
      → All P (drop (length ms) ns) → ((x : Member X) → P x → HasLink from c x)
      → AreLinked value roots specials m ns
  AreLinked-added P ms ns from c linked kept inside at added link =
      let more = drop (length ms) ns in
      let whole : ms ++ more ≡ ns = ap (λ xs. xs ++ more) (sym kept) ∙ take-append-drop (length ms) ns in
      let here : (d : CapValue) → get_or (values value (ms ++ more)) from d ≡ c =
      λ d. ap (λ us. get_or us from d) (map-append (λ x. value x.cap) ms more)
      ∙ get_or_append_left (values value ms) (values value more) d from (omega (arith, length-map ms (λ x. value x.cap)))
      ∙ at d in
      subst (AreLinked value roots specials m) whole
      (AreLinked-after ms more linked (λ k x past j within read.
      link x (subst P (sym read) (All-get_or P more j x within added)) (values value (ms ++ more)) k (omega arith) here))

  -- a list of roots alone
  pub AreLinked-roots : (from : ℕ) (ms : List (Member X)) → All (IsAmong value roots false from) ms → AreLinked value roots specials m ms
  AreLinked-roots from ms all k d below =
      linked-root from (get_or ms k d) (All-get_or (IsAmong value roots false from) ms k d below all) (values value ms) k

  pub at_kept : (ms ns : List (Member X)) → take (length ms) ns ≡ ms → (k : ℕ) → k < length ms → (c : CapValue)
      → ((d : CapValue) → get_or (values value ms) k d ≡ c) → (d : CapValue) → get_or (values value ns) k d ≡ c
  at_kept ms ns kept k below c at d =
      let more = drop (length ms) ns in
      let whole : ms ++ more ≡ ns = ap (λ xs. xs ++ more) (sym kept) ∙ take-append-drop (length ms) ns in
      subst (λ xs. get_or (values value xs) k d ≡ c) whole
      (ap (λ us. get_or us k d) (map-append (λ x. value x.cap) ms more)
      ∙ get_or_append_left (values value ms) (values value more) d k (omega (arith, length-map ms (λ x. value x.cap))) ∙ at d)

  pub not_fewer : (ms ns : List (Member X)) → take (length ms) ns ≡ ms → length ms ≤ length ns
  not_fewer ms ns kept = let e = ap length kept in omega (arith, length-take (length ms) ns)

-- one capability more that is tagged
pub filtered_more : {X : Type 0} (value : X → CapValue) (caps : List X) (n : ℕ) (y : X) → n < length caps → y ≡ get_or caps n y
    → is_tagged (value y) ≡ true
    → filter is_tagged (map value (take (n + 1) caps)) ≡ filter is_tagged (map value (take n caps)) ++ value y ∷ []
filtered_more value caps n y below read tagged =
    ap (λ xs. filter is_tagged (map value xs)) (take_more caps n y below ∙ ap (λ z. take n caps ++ z ∷ []) (sym read))
    ∙ ap (filter is_tagged) (map-append value (take n caps) (y ∷ []))
    ∙ filter-append is_tagged (map value (take n caps)) (value y ∷ [])
    ∙ ap (λ b. filter is_tagged (map value (take n caps)) ++ cond b (value y ∷ []) []) tagged
