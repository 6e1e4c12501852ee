-- Members that are linked are in order, and on the way from a root to one each opens the next.
use Rattle.std.proofs.Common.{◌≡◌, ℕ, ◌+◌, ◌<◌, false, List, length, get_or, sym, ap, ◌∙◌, subst, arith, inl, inr}
use Rattle.std.proofs.lemmas.Bool.{false≢true}
use Rattle.std.proofs.lemmas.List.{get_or-map}
use Rattle.cap_bounds.specs.CapValue.{CapValue}
use Rattle.cap_rights.specs.Rights.{OpensSystem, OpensGranule}
use Rattle.tagged_memory.specs.Memory.{Memory}
use Rattle.reached.specs.declared.member.Member.{Member}
use Rattle.reached.specs.Links.{IsLinked, in_root, in_special, in_granule, values, AreLinked}
use Rattle.reached.specs.Chain.{is_root, AreInOrder, IsChain, OpensPlace, LinksOpen}

module _ {X : Type 0} (value : X → CapValue) (roots specials : List CapValue) (m : Memory) where
  link_in_order : (vs : List CapValue) (k : ℕ) (x : Member X) → IsLinked value roots specials m vs k x → is_root x.place ≡ false
      → x.from < k
  link_in_order vs k x (in_root n place some is_it) no_root = absurd (false≢true (sym no_root ∙ ap is_root place))
  link_in_order vs k x (in_special n place some is_it before opens) no_root = before
  link_in_order vs k x (in_granule granule place here before opens) no_root = before

  pub in_order-linked : (ms : List (Member X)) → AreLinked value roots specials m ms → AreInOrder ms
  in_order-linked ms linked k d below no_root = link_in_order (values value ms) k (get_or ms k d) (linked k d below) no_root

  link_opens : (vs : List CapValue) (k : ℕ) (x : Member X) (c : CapValue) → IsLinked value roots specials m vs k x → is_root x.place ≡ false
      → get_or vs x.from (value x.cap) ≡ c → OpensPlace c x
  link_opens vs k x c (in_root n place some is_it) no_root at = absurd (false≢true (sym no_root ∙ ap is_root place))
  link_opens vs k x c (in_special n place some is_it before opens) no_root at = inl (n, place, subst OpensSystem at opens)
  link_opens vs k x c (in_granule granule place here before opens) no_root at =
      inr (granule, place, subst (λ v. OpensGranule v granule) at opens)

  pub links_open : (ms : List (Member X)) (index : ℕ) (way : List ℕ) → AreLinked value roots specials m ms → IsChain ms index way
      → LinksOpen value ms way
  links_open ms index way linked c j d below =
      let next = get_or way (j + 1) 0 in
      let x = get_or ms next d in
      let before : get_or way j 0 < length ms = c.members j (omega arith) in
      let link = c.links j d below in
      link_opens (values value ms) next x (value (get_or ms (get_or way j 0) d).cap) (linked next d (c.members (j + 1) below)) link.no_root
      (ap (λ i. get_or (values value ms) i (value x.cap)) link.from_is
      ∙ get_or-map (λ y. value y.cap) ms (get_or way j 0) d (value x.cap) before)
