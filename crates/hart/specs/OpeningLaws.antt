-- A memory that sections were loaded into has no tag; one that the capabilities of entries were put into holds capabilities.
use Rattle.std.proofs.Common.{◌≡◌, ℕ, ◌+◌, ◌*◌, ◌%◌, ◌^◌, ◌<◌, ◌≤◌, true, false, eqb, List, [], ◌∷◌, length, None, refl, ap}
use Rattle.std.proofs.Common.{◌∙◌}
use Rattle.std.proofs.Common.{arith}
use Rattle.std.proofs.lemmas.Bool.{both_ways, false_from_ne_true, eq-eqb, le-leb}
use Rattle.base.specs.Bits.{bit}
use Rattle.cap_format.specs.Word.{with_field}
use Rattle.cap_bounds.specs.FieldLaws.{perms-encoded, flag-encoded, IsWellFormed-perms, IsWellFormed-flag}
use Rattle.cap_bounds.specs.Record.{IsWellFormed, encoded}
use Rattle.cap_bounds.specs.RecordLaws.{encoded-well_formed}
use Rattle.cap_bounds.specs.Root.{root}
use Rattle.cap_bounds.specs.RootLaws.{IsWellFormed-root}
use Rattle.cap_bounds.specs.SetBounds.{bounded, may_bound, with_bounds}
use Rattle.cap_bounds.specs.SetBoundsLaws.{with_bounds-set, IsWellFormed-bounded}
use Rattle.cap_bounds.specs.CapValue.{Cap}
use Rattle.std.specs.FinSet as set
use Rattle.std.specs.Ordering.{nat_cmp}
use Rattle.tagged_memory.specs.Memory.{Memory, IsMemory, zeroed, has_tag, is_in_ram, place_fault, data_written, capability_written}
use Rattle.tagged_memory.specs.MemoryLaws.{tagged-before_data_written, in_ram-from, length-capability_written, IsMemory-capability_written}
use Rattle.image.specs.declared.cap_entry.CapEntry.{CapEntry}
use Rattle.image.specs.Image.{Section, Image}
use Rattle.image.specs.ImageLaws.{IsGoodCapability, AreGoodCapabilities}
use Rattle.steps.specs.State.{HoldsCapabilities}
use Rattle.steps.specs.StateLaws.{HoldsCapabilities-capability_written}
use Rattle.hart.specs.Opening.{with_sections, loaded_memory, entry_record, with_capabilities}

abbrev pub HasNoTag : Memory → Type 0
HasNoTag m = (granule : ℕ) → has_tag m granule ≡ false

HasNoTag-with_sections : (sections : List Section) (m : Memory) → HasNoTag m → HasNoTag (with_sections sections m)
HasNoTag-with_sections [] m none = none
HasNoTag-with_sections (s ∷ ss) m none =
    HasNoTag-with_sections ss (data_written m s.address s.bytes)
    (λ g. false_from_ne_true _ (λ tagged. both_ways _ (none g) (tagged-before_data_written m s.address s.bytes g tagged)))

HasNoTag-loaded : (i : Image) → HasNoTag (loaded_memory i)
HasNoTag-loaded i = HasNoTag-with_sections i.sections (zeroed i.pages) (λ g. set.contains-empty nat_cmp g)

pub HoldsCapabilities-loaded : (i : Image) → HoldsCapabilities (loaded_memory i)
HoldsCapabilities-loaded i = λ granule tagged. absurd (both_ways _ (HasNoTag-loaded i granule) tagged)

-- ---- the capability of an entry

module _ (e : CapEntry) (base_fits : e.base < 2 ^ 64) (length_fits : e.length < 2 ^ 64) (end_fits : e.base + e.length ≤ 2 ^ 64) where
  -- root's bounds hold every request, so setting them gives a capability
  may : may_bound (root e.base false) e.length ≡ true
  unfolding may_bound
  may = rw (le-leb 0 e.base (omega arith), le-leb (e.base + e.length) (2 ^ 64) end_fits) refl

  pub root-bounded : with_bounds (root e.base false) e.length ≡ Cap (bounded (root e.base false) e.length)
  root-bounded = with_bounds-set (root e.base false) e.length may

  well : IsWellFormed (bounded (root e.base false) e.length)
  well = IsWellFormed-bounded (root e.base false) e.length (IsWellFormed-root e.base false base_fits) length_fits may

  -- its word is that of the bounds, with its permissions and its flag
  pub entry-encoded : (perms_fit : e.perms < 2 ^ 16)
      → with_field (with_field (encoded (bounded (root e.base false) e.length)) 112 16 e.perms) 109 1 (bit (eqb e.flag 1))
      ≡ encoded (entry_record e)
  entry-encoded perms_fit =
      let r = bounded (root e.base false) e.length in
      ap (λ w. with_field w 109 1 (bit (eqb e.flag 1))) (perms-encoded r well e.perms)
      ∙ flag-encoded (record r { perms = e.perms }) (IsWellFormed-perms r well e.perms perms_fit) (eqb e.flag 1)

  pub IsWellFormed-entry : (perms_fit : e.perms < 2 ^ 16) → IsWellFormed (entry_record e)
  IsWellFormed-entry perms_fit =
      IsWellFormed-flag _ (IsWellFormed-perms (bounded (root e.base false) e.length) well e.perms perms_fit) (eqb e.flag 1)

-- ---- putting it into memory

module _ (m : Memory) (pages : ℕ) (e : CapEntry) (whole : length m.bytes ≡ 4096 * pages) (good : IsGoodCapability pages e) where
  inside : is_in_ram m e.place 16 ≡ true
  inside = in_ram-from m e.place 16 good.above_base (rw whole good.inside)

  pub no_place_fault : place_fault m e.place 16 ≡ None
  unfolding place_fault
  no_place_fault = rw (eq-eqb (e.place % 16) 0 good.aligned, inside) refl

  pub length-put : length (capability_written m e.place (encoded (entry_record e)) true).bytes ≡ 4096 * pages
  length-put = length-capability_written m e.place (encoded (entry_record e)) true inside ∙ whole

  pub IsMemory-put : IsMemory m → IsMemory (capability_written m e.place (encoded (entry_record e)) true)
  IsMemory-put memory = IsMemory-capability_written m e.place (encoded (entry_record e)) true memory good.aligned inside

  pub HoldsCapabilities-put : IsMemory m → HoldsCapabilities m
      → HoldsCapabilities (capability_written m e.place (encoded (entry_record e)) true)
  HoldsCapabilities-put memory holds =
      let formed = encoded-well_formed (entry_record e)
      (IsWellFormed-entry e good.base_fits good.length_fits good.end_fits good.perms_fit) in
      HoldsCapabilities-capability_written m e.place (encoded (entry_record e)) true memory no_place_fault formed.0 (λ _. formed.1) holds

-- a memory that holds capabilities is one, and holds them, once those of entries are put into it
pub capabilities-put : (es : List CapEntry) (m : Memory) (pages : ℕ) → IsMemory m → length m.bytes ≡ 4096 * pages
    → AreGoodCapabilities pages es → HoldsCapabilities m
    → IsMemory (with_capabilities es m) × HoldsCapabilities (with_capabilities es m)
capabilities-put [] m pages memory whole good holds = (memory, holds)
capabilities-put (e ∷ es) m pages memory whole good holds =
    capabilities-put es (capability_written m e.place (encoded (entry_record e)) true) pages
    (IsMemory-put m pages e whole good.0 memory) (length-put m pages e whole good.0) good.1
    (HoldsCapabilities-put m pages e whole good.0 memory holds)
