-- The words of the search for what it found, in order.
use Rattle.std.specs.Prelude.{◌≡◌, ℕ, ◌+◌, ◌-◌, ◌*◌, ◌<◌, Bool, true, not, ◌&&◌, ◌||◌, nat_lt, nat_le, if◌then◌else◌}
use Rattle.std.specs.Prelude.{List, [], ◌++◌, map, filter, length, slice_index_or, slice_get, Some}
use Rattle.std.specs.List.{range_with_len}
use Rattle.base.specs.Ram.{ram_base}
use Rattle.cap_bounds.specs.CapValue.{CapValue, is_tagged, value_base, value_top}
use Rattle.tag_planes.specs.Planes.{tag_at}
use Rattle.tagged_memory.specs.Memory.{Memory, has_tag}
use Rattle.reached.specs.declared.member.Place.TheVariants.{Special, Granule}
use Rattle.reached.specs.Order.{Found, found, among, tagged_from, opens_system, opens_capabilities, is_found_at, with_behind}
use Rattle.reached.specs.Search.{held}

-- the number is one of those from `first` on and below `end`
abbrev pub is_between : ℕ → ℕ → ℕ → Bool
is_between first end g = nat_le first g && nat_lt g end

-- RAM's granule of this number is one that a capability opens
abbrev pub opens_granule : CapValue → ℕ → Bool
opens_granule c g =
    opens_capabilities c && (nat_le (value_base c) (ram_base + 16 * g) && nat_lt (ram_base + 16 * g) (value_top c - 15))

-- the member in RAM's granule of this number
abbrev pub granule_found : Memory → ℕ → ℕ → Found
granule_found m from g = found (held m g) (Granule (ram_base + 16 * g)) from

-- the members in those of these granules whose tags are left
abbrev pub found_left : Memory → ℕ → List ℕ → (ℕ → Bool) → List Found
found_left m from left these = map (granule_found m from) (filter (λ g. tag_at left g && these g) (range_with_len 0 (64 * length left)))

-- what was left of these granules has been found, and of no others
pub record AreFound (m : Memory) (from : ℕ) (before now : List Found) (left new_left : List ℕ) (these : ℕ → Bool) : Type 0 where
  pub members : now ≡ before ++ found_left m from left these
  pub rest : (g : ℕ) → tag_at new_left g ≡ (tag_at left g && not (these g))

-- the tagged special registers have been found, if the capability opens them and they weren't found before
pub record IsSystemFound (c : CapValue) (specials : List CapValue) (from : ℕ) (before now : List Found) (opened new_opened : Bool)
    : Type 0 where
  pub members : now ≡ before ++ (if opens_system c && not opened then tagged_from (among true) from 0 specials else [])
  pub opens : new_opened ≡ (opened || opens_system c)

-- The tags that are left are those of the tagged granules at which no member was found; the special registers are opened where a member
-- was found at them.
pub record IsLeftBy (specials : List CapValue) (m : Memory) (members : List Found) (left : List ℕ) (opened : Bool) : Type 0 where
  pub granules : (g : ℕ) → tag_at left g ≡ (has_tag m (ram_base + 16 * g) && not (is_found_at members (Granule (ram_base + 16 * g))))
  pub registers : (n : ℕ) (d : CapValue) → n < length specials → is_tagged (slice_index_or specials n d) ≡ true
      → is_found_at members (Special n) ≡ opened

-- what the member of a number opens has been found
abbrev pub IsFoundBehind : List CapValue → Memory → List Found → ℕ → List Found → Type 0
IsFoundBehind specials m before index now =
    (x : Found) → slice_get before index ≡ Some x → now ≡ with_behind specials m before index x
