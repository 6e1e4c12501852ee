-- The words of the search: what it has found, and where tags are left.
use Rattle.std.specs.Prelude.{◌≡◌, ℕ, ◌+◌, ◌-◌, ◌*◌, ◌/◌, ◌<◌, ◌≤◌, Bool, true, false, min, List, length, take, drop}
use Rattle.std.specs.Prelude.{filter, ◌++◌, All, Contains, ◌⊎◌, slice_index_or}
use Rattle.base.specs.Ram.{ram_base}
use Rattle.cap_bounds.specs.CapValue.{CapValue, is_tagged, value_of, value_base, value_top}
use Rattle.cap_rights.specs.Rights.{OpensSystem, OpensGranule}
use Rattle.tag_planes.specs.Planes.{tag_at}
use Rattle.tagged_memory.specs.Memory.{Memory, has_tag, word_at}
use Rattle.reached.specs.declared.span.Span.{Span}
use Rattle.reached.specs.Reached.{IsHeldAt, IsReachedFrom}

-- what RAM's granule of this number holds, if it is tagged
abbrev pub held : Memory → ℕ → CapValue
held m g = value_of (word_at m (ram_base + 16 * g)) true

-- the number is one of those from `first` on and below `end`
abbrev pub IsBetween : ℕ → ℕ → ℕ → Type 0
IsBetween first end g = (first ≤ g) × (g < end)

-- those of the first granules of RAM, so many, that lie wholly in a value's bounds
abbrev pub granules_of : ℕ → CapValue → Span
granules_of count c = record {
  first = min count ((value_base c - ram_base + 15) / 16);
  end = min count ((value_top c - ram_base) / 16);
}

-- no tag is left in a row of granules
abbrev pub IsBare : ℕ → ℕ → List ℕ → Type 0
IsBare first end left = (g : ℕ) → IsBetween first end g → tag_at left g ≡ false

-- each tag that is left is memory's
abbrev pub AreLeft : Memory → List ℕ → Type 0
AreLeft m left = (g : ℕ) → tag_at left g ≡ true → has_tag m (ram_base + 16 * g) ≡ true

-- the value lies in a granule that the capability opens
pub record IsFoundThrough (m : Memory) (c v : CapValue) : Type 0 where
  pub granule : ℕ
  pub opens : OpensGranule c granule
  pub here : IsHeldAt m granule v

-- Of the tags that are left some have been taken, those of these granules among them, and what such a granule holds is among the values.
pub record IsOpened (m : Memory) (c : CapValue) (vs new_vs : List CapValue) (left new_left : List ℕ) (These : ℕ → Type 0) : Type 0 where
  pub kept : take (length vs) new_vs ≡ vs
  pub added : All (IsFoundThrough m c) (drop (length vs) new_vs)
  pub words : length new_left ≡ length left
  pub fewer : (g : ℕ) → tag_at new_left g ≡ true → tag_at left g ≡ true
  pub moved : (g : ℕ) → tag_at left g ≡ true → (tag_at new_left g ≡ true) ⊎ Contains new_vs (held m g)
  pub taken : (g : ℕ) → These g → tag_at new_left g ≡ false

-- the special registers are among the values, or the value doesn't open them
pub data IsSystemOpened (c : CapValue) (specials vs : List CapValue) (opened : Bool) (ws : List CapValue) (now : Bool) : Type 0 where
  kept : (OpensSystem c → opened ≡ true) → ws ≡ vs → now ≡ opened → IsSystemOpened c specials vs opened ws now
  added : OpensSystem c → ws ≡ vs ++ filter is_tagged specials → now ≡ true → IsSystemOpened c specials vs opened ws now

-- what the search has found through a value
pub record IsVisited (m : Memory) (specials vs : List CapValue) (c : CapValue) : Type 0 where
  pub system : OpensSystem c → (v : CapValue) → is_tagged v ≡ true → Contains specials v → Contains vs v
  pub granules : (granule : ℕ) (v : CapValue) → OpensGranule c granule → IsHeldAt m granule v → Contains vs v

-- The search has looked through the first `next` of its values; the tags of the granules from `first` on and below `end` have been taken.
pub record IsSearch (roots specials : List CapValue) (m : Memory) (vs : List CapValue) (left : List ℕ)
    (opened : Bool) (first end next : ℕ) : Type 0 where
  pub sound : All (IsReachedFrom roots specials m) vs
  pub roots_in : (v : CapValue) → is_tagged v ≡ true → Contains roots v → Contains vs v
  pub specials_in : opened ≡ true → (v : CapValue) → is_tagged v ≡ true → Contains specials v → Contains vs v
  pub words : 16 * (64 * length left) ≡ length m.bytes
  pub left_tagged : AreLeft m left
  pub bare : IsBare first end left
  pub found : (g : ℕ) → has_tag m (ram_base + 16 * g) ≡ true → (tag_at left g ≡ true) ⊎ Contains vs (held m g)
  pub some : next ≤ length vs
  pub visited : (k : ℕ) (d : CapValue) → k < next → IsVisited m specials vs (slice_index_or vs k d)
