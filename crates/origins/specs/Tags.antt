-- When what a step writes has its tag: the conditions of each way to make a value, in order (UCAM-CL-TR-987, ISA reference).
use Rattle.std.specs.Prelude.{ℕ, Bool, true, false, not, ◌&&◌, ◌||◌, ◌==◌, nat_le, if◌then◌else◌, List, [], ◌∷◌}
use Rattle.cap_bounds.specs.CapValue.{CapValue, Cap, Data, is_tagged, is_sealed, value_address, value_otype}
use Rattle.cap_bounds.specs.Record.{window_holds}
use Rattle.cap_bounds.specs.SetBounds.{bounds_exact}
use Rattle.cap_checks.specs.FirstFault.{holds}
use Rattle.cap_rights.specs.ObjectType.{greatest_sealing_type}
use Rattle.cap_rights.specs.Permission.{permits}
use Rattle.cap_rights.specs.declared.permission.Permission.TheVariants.{Execute, LoadCapability, Seal, Unseal}
use Rattle.origins.specs.declared.place.Place.{Place}
use Rattle.origins.specs.declared.place.Place.TheVariants.{Granule}
use Rattle.steps.specs.State.{State}
use Rattle.special_regs.specs.Traps.{is_sentry}
use Rattle.tagged_memory.specs.Memory.{has_tag}
use Rattle.origins.specs.Places.{held, pcc}
use Rattle.origins.specs.declared.making.Making.{Making}
use Rattle.origins.specs.declared.making.Making.TheVariants.{Number, Copied, Cleared, Loaded, Moved, Bounded, BoundedExactly, Restricted}
use Rattle.origins.specs.declared.making.Making.TheVariants.{Flagged, Sealed, Unsealed, SealedEntry, Linked, Opened, Entered, Resumed}
use Rattle.origins.specs.declared.tag_question.TagQuestion.{TagQuestion}
use Rattle.origins.specs.declared.tag_question.TagQuestion.TheVariants as asks
use Rattle.origins.specs.declared.tag_question.TagCondition.{TagCondition}

abbrev pub if_so : TagQuestion → Bool → TagCondition
if_so question holds = record { question = question; holds = holds }

-- the representable window of a capability holds an address
abbrev pub in_window : CapValue → ℕ → Bool
in_window (Cap r) address = window_holds r address
in_window (Data n) address = false

-- ---- what is asked of the value that a place holds

abbrev pub tag_of : Place → CapValue → TagCondition
tag_of place v = if_so (asks.Tag place) (is_tagged v)

abbrev pub unsealed : Place → CapValue → TagCondition
unsealed place v = if_so (asks.Seal place) (not (is_sealed v))

abbrev pub window_of : Place → CapValue → ℕ → TagCondition
window_of place v address = if_so (asks.Window place address) (in_window v address)

abbrev pub bytes_of : Place → CapValue → ℕ → TagCondition
bytes_of place v size = if_so (asks.Bounds place (value_address v) size) (holds v (value_address v) size)

-- set address
abbrev pub moved_asked : Place → CapValue → ℕ → List TagCondition
moved_asked place v address = tag_of place v ∷ unsealed place v ∷ window_of place v address ∷ []

-- set bounds
abbrev pub bounded_asked : Place → CapValue → ℕ → List TagCondition
bounded_asked place v length = tag_of place v ∷ unsealed place v ∷ bytes_of place v length ∷ []

abbrev pub bounded_exactly_asked : Place → CapValue → ℕ → List TagCondition
bounded_exactly_asked place v length =
    tag_of place v ∷ unsealed place v ∷ bytes_of place v length
    ∷ if_so (asks.Exact (value_address v) length) (bounds_exact v length) ∷ []

-- permissions and the flag
abbrev pub kept_asked : Place → CapValue → List TagCondition
kept_asked place v = tag_of place v ∷ unsealed place v ∷ []

abbrev pub sealed_asked : Place → CapValue → Place → CapValue → List TagCondition
sealed_asked place v authority a =
    tag_of place v
    ∷ tag_of authority a
    ∷ unsealed place v
    ∷ unsealed authority a
    ∷ if_so (asks.Permit authority Seal) (permits a Seal)
    ∷ bytes_of authority a 1
    ∷ if_so (asks.Type authority) (nat_le (value_address a) greatest_sealing_type)
    ∷ []

abbrev pub unsealed_asked : Place → CapValue → Place → CapValue → List TagCondition
unsealed_asked place v authority a =
    tag_of place v
    ∷ tag_of authority a
    ∷ if_so (asks.Seal place) (nat_le (value_otype v) greatest_sealing_type)
    ∷ unsealed authority a
    ∷ if_so (asks.Permit authority Unseal) (permits a Unseal)
    ∷ bytes_of authority a 1
    ∷ if_so (asks.Type authority) (value_address a == value_otype v)
    ∷ []

abbrev pub entry_asked : Place → CapValue → List TagCondition
entry_asked place v = tag_of place v ∷ unsealed place v ∷ if_so (asks.Permit place Execute) (permits v Execute) ∷ []

-- a link is made in two steps: the address, then the seal
abbrev pub linked_asked : CapValue → ℕ → List TagCondition
linked_asked v address =
    tag_of pcc v ∷ unsealed pcc v ∷ window_of pcc v address ∷ if_so (asks.Permit pcc Execute) (permits v Execute) ∷ []

-- a jump takes what is sealed, too
abbrev pub entered_asked : Place → CapValue → ℕ → List TagCondition
entered_asked place v address = tag_of place v ∷ window_of place v address ∷ []

-- a trap and a return leave the value as it is where its address is right already
abbrev pub resumed_asked : Place → CapValue → ℕ → List TagCondition
resumed_asked place v address =
    if value_address v == address then tag_of place v ∷ []
    else (tag_of place v ∷ if_so (asks.Seal place) (not (is_sealed v) || is_sentry v) ∷ window_of place v address ∷ [])

abbrev pub loaded_asked : ℕ → Place → CapValue → State → List TagCondition
loaded_asked address authority a s =
    if_so (asks.Tag (Granule address)) (has_tag s.memory address)
    ∷ if_so (asks.Permit authority LoadCapability) (permits a LoadCapability) ∷ []

-- ---- all ways

unfoldable pub tag_asked : Making → State → List TagCondition
tag_asked Number s = if_so asks.Capability false ∷ []
tag_asked (Copied from) s = tag_of from (held from s) ∷ []
tag_asked (Cleared from) s = if_so asks.Kept false ∷ []
tag_asked (Loaded address authority) s = loaded_asked address authority (held authority s) s
tag_asked (Moved from address) s = moved_asked from (held from s) address
tag_asked (Bounded from length) s = bounded_asked from (held from s) length
tag_asked (BoundedExactly from length) s = bounded_exactly_asked from (held from s) length
tag_asked (Restricted from mask) s = kept_asked from (held from s)
tag_asked (Flagged from flag) s = kept_asked from (held from s)
tag_asked (Sealed from authority) s = sealed_asked from (held from s) authority (held authority s)
tag_asked (Unsealed from authority) s = unsealed_asked from (held from s) authority (held authority s)
tag_asked (SealedEntry from) s = entry_asked from (held from s)
tag_asked (Linked address) s = linked_asked (held pcc s) address
tag_asked (Opened from) s = tag_of from (held from s) ∷ []
tag_asked (Entered from address) s = entered_asked from (held from s) address
tag_asked (Resumed from address) s = resumed_asked from (held from s) address

-- all of them hold
abbrev pub all_hold : List TagCondition → Bool
all_hold [] = true
all_hold (c ∷ cs) = c.holds && all_hold cs
