-- What is reached from the roots of a state is what is reachable in it.
use Rattle.std.proofs.Common.{◌≡◌, List, [], ◌∷◌, map, refl, sym, ap, ◌∙◌, subst}
use Rattle.std.specs.List.{Contains}
use Rattle.cap_bounds.specs.CapValue.{CapValue}
use Rattle.tagged_memory.specs.Memory.{Memory}
use Rattle.steps.specs.State.{State}
use Rattle.authority.specs.Reachable.{IsReachable, from_root as reachable-root, from_special as reachable-special}
use Rattle.authority.specs.Reachable.{from_granule as reachable-granule}
use Rattle.reached.specs.Links.{AreLinked, values}
use Rattle.reached.specs.Reached.{IsReachedFrom, from_root, from_special, from_granule}
use Rattle.reached.specs.declared.member.Member.{Member}
use Rattle.reached.specs.Order.{Found, members_of, seen_members}
use Rattle.doors.specs.Roots.{roots_of, specials_of}
use Rattle.doors.specs.RootsLaws.{root_there, there_root, special_there, there_special}
use Rattle.reach.specs.Reach.{AreReachable, members_in}

reachable-reached : (s : State) (v : CapValue) → IsReachedFrom (roots_of s) (specials_of s.scrs) s.memory v → IsReachable s v
reachable-reached s v (from_root tagged there) = reachable-root tagged (root_there s v there)
reachable-reached s v (from_special {c = c} before opens tagged there) =
    reachable-special (reachable-reached s c before) opens tagged (special_there s v there)
reachable-reached s v (from_granule {c = c} granule before opens here) =
    reachable-granule granule (reachable-reached s c before) opens (record { tagged = here.tagged; value = here.value })

reached-reachable : (s : State) (v : CapValue) → IsReachable s v → IsReachedFrom (roots_of s) (specials_of s.scrs) s.memory v
reached-reachable s v (reachable-root tagged root) = from_root tagged (there_root s v tagged root)
reached-reachable s v (reachable-special {c = c} before opens tagged special) =
    from_special (reached-reachable s c before) opens tagged (there_special s v special)
reached-reachable s v (reachable-granule {c = c} granule before opens here) =
    from_granule granule (reached-reachable s c before) opens (record { tagged = here.tagged; value = here.value })

-- what a search over a state's roots, special registers and memory finds
module _ (s : State) (roots specials : List CapValue) (m : Memory) (same_roots : roots ≡ roots_of s)
    (same_specials : specials ≡ specials_of s.scrs) (same_memory : m ≡ s.memory) where
  -- is what is reachable
  pub reach_of_search : (vs : List CapValue) → ((v : CapValue) → Contains vs v → IsReachedFrom roots specials m v)
      → ((v : CapValue) → IsReachedFrom roots specials m v → Contains vs v) → AreReachable s vs
  reach_of_search vs sound complete = record {
    sound = λ v there. reachable-reached s v
        (subst (λ n. IsReachedFrom (roots_of s) (specials_of s.scrs) n v) same_memory
        (subst (λ x. IsReachedFrom (roots_of s) x m v) same_specials
        (subst (λ r. IsReachedFrom r specials m v) same_roots (sound v there))));
    complete = λ v reachable. complete v
        (subst (λ r. IsReachedFrom r specials m v) (sym same_roots)
        (subst (λ x. IsReachedFrom (roots_of s) x m v) (sym same_specials)
        (subst (λ n. IsReachedFrom (roots_of s) (specials_of s.scrs) n v) (sym same_memory) (reached-reachable s v reachable))));
  }

  -- and each has its link
  pub links_of_search : {X : Type 0} (value : X → CapValue) (members : List (Member X)) → AreLinked value roots specials m members
      → AreLinked value (roots_of s) (specials_of s.scrs) s.memory members
  links_of_search value members linked =
      subst (λ n. AreLinked value (roots_of s) (specials_of s.scrs) n members) same_memory
      (subst (λ x. AreLinked value (roots_of s) x m members) same_specials
      (subst (λ r. AreLinked value r specials m members) same_roots linked))

-- and its members are the state's
pub members_of_search : (s : State) (roots specials : List CapValue) (m : Memory) → roots ≡ roots_of s → specials ≡ specials_of s.scrs
    → m ≡ s.memory → (xs : List Found) → xs ≡ members_of roots specials m → xs ≡ members_in s
members_of_search s roots specials m are_roots are_specials is_memory xs are = rw (are_roots, are_specials, is_memory) at are

-- the values of members as they are seen
pub values_seen : {X : Type 0} (value : X → CapValue) (ms : List (Member X)) → map (λ x. x.value) (seen_members value ms) ≡ values value ms
values_seen value [] = refl
values_seen value (m ∷ ms) = ap (λ vs. value m.cap ∷ vs) (values_seen value ms)

-- where the members are the state's, so are their values
pub reach_of_members : (s : State) {X : Type 0} (value : X → CapValue) (ms : List (Member X)) → AreReachable s (values value ms)
    → seen_members value ms ≡ members_in s → AreReachable s (map (λ x. x.value) (members_in s))
reach_of_members s value ms are seen =
    subst (AreReachable s) (sym (values_seen value ms) ∙ ap (map (λ x. x.value)) seen) are
