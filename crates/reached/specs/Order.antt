-- The members of a reach in the order in which they are found: the tagged roots; then through each member in turn, from the first on, what
-- it opens that no member was found at yet, the special registers before the granules, these in ascending order.
use Rattle.std.specs.Prelude.{ℕ, zero, suc, ◌+◌, ◌-◌, ◌^◌, Bool, true, false, not, ◌&&◌, ◌==◌, if◌then◌else◌, List, [], ◌∷◌, ◌++◌, map}
use Rattle.std.specs.Prelude.{filter, reverse, Option, Some, None, slice_get, option_map, unwrap_or}
use Rattle.std.specs.List.{list_any}
use Rattle.cap_bounds.specs.CapValue.{CapValue, is_tagged, is_sealed, value_base, value_top, value_of}
use Rattle.cap_rights.specs.declared.permission.Permission.TheVariants as permission
use Rattle.cap_rights.specs.Permission.{permits}
use Rattle.tagged_memory.specs.Memory.{Memory, word_at, tagged_between}
use Rattle.reached.specs.declared.member.Member.{Member}
use Rattle.reached.specs.declared.member.Place.{Place}
use Rattle.reached.specs.declared.member.Place.TheVariants.{Root, Special, Granule}

-- a member: its value, the place where it was found, and the number of the member that led there
pub record Found : Type 0 where
  pub value : CapValue
  pub place : Place
  pub from : ℕ

abbrev pub found : CapValue → Place → ℕ → Found
found value place from = record { value = value; place = place; from = from }

-- a member of the search as it is seen, and the members
abbrev pub seen_member : {X : Type 0} → (X → CapValue) → Member X → Found
seen_member value x = found (value x.cap) x.place x.from

abbrev pub seen_members : {X : Type 0} → (X → CapValue) → List (Member X) → List Found
seen_members value ms = map (seen_member value) ms

-- the place of this number among the special registers or the roots
abbrev pub among : Bool → ℕ → Place
among special n = if special then Special n else Root n

-- the tagged ones of some capabilities, which are numbered from a number on
abbrev pub tagged_from : (ℕ → Place) → ℕ → ℕ → List CapValue → List Found
tagged_from place from n [] = []
tagged_from place from n (v ∷ vs) =
    if is_tagged v then found v (place n) from ∷ tagged_from place from (n + 1) vs else tagged_from place from (n + 1) vs

-- whether a capability opens the system registers, and whether capabilities may be loaded through it
abbrev pub opens_system : CapValue → Bool
opens_system c = not (is_sealed c) && (permits c permission.Execute && permits c permission.AccessSystemRegisters)

abbrev pub opens_capabilities : CapValue → Bool
opens_capabilities c = not (is_sealed c) && (permits c permission.Load && permits c permission.LoadCapability)

-- the tagged granules that lie wholly in a capability's bounds
abbrev pub granules_in : Memory → CapValue → List ℕ
granules_in m c = tagged_between m (value_base c) (value_top c - 15)

-- what a member opens
abbrev pub behind : List CapValue → Memory → ℕ → CapValue → List Found
behind specials m from c =
    (if opens_system c then tagged_from (among true) from 0 specials else [])
    ++ (if opens_capabilities c then map (λ a. found (value_of (word_at m a) true) (Granule a) from) (granules_in m c) else [])

-- of these those at whose place no member was found
abbrev pub is_same_place : Place → Place → Bool
is_same_place (Root n) (Root k) = n == k
is_same_place (Root n) (Special k) = false
is_same_place (Root n) (Granule b) = false
is_same_place (Special n) (Root k) = false
is_same_place (Special n) (Special k) = n == k
is_same_place (Special n) (Granule b) = false
is_same_place (Granule a) (Root k) = false
is_same_place (Granule a) (Special k) = false
is_same_place (Granule a) (Granule b) = a == b

abbrev pub is_found_at : List Found → Place → Bool
is_found_at members place = list_any (λ y. is_same_place place y.place) members

abbrev pub new_among : List Found → List Found → List Found
new_among members more = filter (λ x. not (is_found_at members x.place)) more

-- with what the member of a number opens
abbrev pub with_behind : List CapValue → Memory → List Found → ℕ → Found → List Found
with_behind specials m members next x = members ++ new_among members (behind specials m next x.value)

-- the search from the member of a number on; each place is found once, so that so many members are enough
abbrev pub search : ℕ → List CapValue → Memory → List Found → ℕ → List Found
search zero specials m members next = members
search (suc n) specials m members next =
    unwrap_or (option_map (λ x. search n specials m (with_behind specials m members next x) (next + 1)) (slice_get members next)) members

unfoldable pub members_of : List CapValue → List CapValue → Memory → List Found
members_of roots specials m = search (2 ^ 64) specials m (tagged_from (among false) 0 0 roots) 0

-- the numbers of the members from one up to a root, its own first: where it was found among the roots there is no further one, and else
-- the one that led there. Each leads to an earlier one, so that its number and one are enough.
abbrev pub leads_from : Place → ℕ → Option ℕ
leads_from (Root n) from = None
leads_from (Special n) from = Some from
leads_from (Granule a) from = Some from

abbrev pub above_in : Option Found → Option ℕ
above_in None = None
above_in (Some x) = leads_from x.place x.from

abbrev pub above : List Found → ℕ → Option ℕ
above members k = above_in (slice_get members k)

abbrev pub way_up : ℕ → List Found → ℕ → List ℕ
way_up zero members k = []
way_up (suc n) members k = k ∷ unwrap_or (option_map (λ j. way_up n members j) (above members k)) []

-- the numbers of the members that lead to one, the root's first
unfoldable pub chain_of : List Found → ℕ → List ℕ
chain_of members k = reverse (way_up (k + 1) members k)
