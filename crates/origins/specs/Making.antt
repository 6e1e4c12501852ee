-- The ways in which a step makes what it writes of what places hold before it (UCAM-CL-TR-987, capability provenance and monotonicity;
-- ISA reference). src/making.rt declares them.
use Rattle.std.specs.Prelude.{◌≡◌, ℕ, false, ◌&&◌, if◌then◌else◌, Option, Some, None, Bool, true}
use Rattle.cap_bounds.specs.CapValue.{CapValue, is_tagged, is_sealed, value_of, without_tag}
use Rattle.cap_bounds.specs.SetAddress.{at_address}
use Rattle.cap_bounds.specs.SetBounds.{with_bounds}
use Rattle.cap_insns.specs.CapabilityRows.{with_exact_bounds}
use Rattle.cap_rights.specs.Derivations.{and_perms, seal, seal_entry, set_flags, unseal}
use Rattle.cap_rights.specs.Opened.{opened}
use Rattle.cap_rights.specs.Permission.{permits}
use Rattle.cap_rights.specs.Rights.{IsInRightsOf}
use Rattle.cap_rights.specs.declared.permission.Permission.TheVariants.{LoadCapability}
use Rattle.origins.specs.declared.place.Place.{Place}
use Rattle.origins.specs.declared.place.Place.TheVariants.{Granule}
use Rattle.steps.specs.State.{State}
use Rattle.special_regs.specs.Traps.{placed_at, sentry_opened}
use Rattle.tagged_memory.specs.Memory.{has_tag, word_at}
use Rattle.origins.specs.Places.{held, pcc}
use Rattle.origins.specs.declared.making.Making.{Making}
use Rattle.origins.specs.declared.making.Making.TheVariants.{Number, Copied, Cleared, Loaded, Moved, Bounded, BoundedExactly, Restricted}
use Rattle.origins.specs.declared.making.Making.TheVariants.{Flagged, Sealed, Unsealed, SealedEntry, Linked, Opened, Entered, Resumed}

-- The source: the place whose value is handed on. A number has none.
abbrev pub source : Making → Option Place
source Number = None
source (Copied from) = Some from
source (Cleared from) = Some from
source (Loaded address authority) = Some (Granule address)
source (Moved from address) = Some from
source (Bounded from length) = Some from
source (BoundedExactly from length) = Some from
source (Restricted from mask) = Some from
source (Flagged from flag) = Some from
source (Sealed from authority) = Some from
source (Unsealed from authority) = Some from
source (SealedEntry from) = Some from
source (Linked address) = Some pcc
source (Opened from) = Some from
source (Entered from address) = Some from
source (Resumed from address) = Some from

-- a granule's value, with its tag if the authority has Load_Capability
abbrev pub loaded : ℕ → CapValue → State → CapValue
loaded address authority s = value_of (word_at s.memory address) (has_tag s.memory address && permits authority LoadCapability)

-- What is made of the values before the step. Of a number, and of data in a granule, no more is said than that it has no tag.
abbrev pub IsMade : Making → State → CapValue → Type 0
IsMade Number s v = is_tagged v ≡ false
IsMade (Copied from) s v = v ≡ held from s
IsMade (Cleared from) s v = v ≡ without_tag (held from s)
IsMade (Loaded address authority) s v = v ≡ loaded address (held authority s) s
IsMade (Moved from address) s v = v ≡ at_address (held from s) address
IsMade (Bounded from length) s v = v ≡ with_bounds (held from s) length
IsMade (BoundedExactly from length) s v = v ≡ with_exact_bounds (held from s) length
IsMade (Restricted from mask) s v = v ≡ and_perms (held from s) mask
IsMade (Flagged from flag) s v = v ≡ set_flags (held from s) flag
IsMade (Sealed from authority) s v = v ≡ seal (held from s) (held authority s)
IsMade (Unsealed from authority) s v = v ≡ unseal (held from s) (held authority s)
IsMade (SealedEntry from) s v = v ≡ seal_entry (held from s)
-- a link: PCC at the next instruction, sealed as an entry
IsMade (Linked address) s v = v ≡ seal_entry (at_address (held pcc s) address)
-- the data of a pair that is invoked
IsMade (Opened from) s v = v ≡ opened (held from s)
-- PCC after a jump to a capability: its seal, if it has one, is opened
IsMade (Entered from address) s v = v ≡ at_address (opened (held from s)) address
-- PCC after a trap or a return: a sentry is opened
IsMade (Resumed from address) s v = v ≡ placed_at address (sentry_opened (held from s))

-- ---- rights

-- the seal of the source may be opened
abbrev pub opens : Making → Bool
opens (Unsealed from authority) = true
opens (Opened from) = true
opens (Entered from address) = true
opens (Resumed from address) = true
opens other = false

-- A value is within the rights of the one that it is made of; where a seal may be opened, of that one unsealed, if it was sealed.
abbrev pub rights_of : Making → CapValue → CapValue
rights_of making v = if opens making && is_sealed v then opened v else v

abbrev pub IsWithinSource : Making → Option Place → State → CapValue → Type 0
IsWithinSource making None s v = is_tagged v ≡ false
IsWithinSource making (Some from) s v = is_tagged v ≡ true → IsInRightsOf v (rights_of making (held from s))
