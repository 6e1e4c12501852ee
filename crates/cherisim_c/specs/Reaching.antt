-- What code can come to hold, and whether it may do something, as C gets it.
use Rattle.std.specs.Prelude.{ℕ, true, false, Option, None, Some}
use Rattle.cap_bounds.specs.CapValue.{CapValue}
use Rattle.c_types.specs.Words.{capability_of}
use Rattle.doors.specs.declared.through.Door.{Door as FoundDoor}
use Rattle.reached.specs.declared.member.Place.{Place}
use Rattle.reached.specs.declared.member.Place.TheVariants.{Root, Special, Granule}
use Rattle.reached.specs.Order.{Found}
use Rattle.cherisim_c.specs.declared.types.Answer.{Answer}
use Rattle.cherisim_c.specs.declared.types.Door.{Door}
use Rattle.cherisim_c.specs.declared.types.Member.{Member}

-- what a member for C says
pub record Shown : Type 0 where
  pub value : CapValue
  pub place : ℕ
  pub from : ℕ
  pub kind : ℕ

abbrev pub shown_member : Member → Shown
shown_member m = record { value = capability_of m.value; place = m.place; from = m.from; kind = m.kind }

-- a register (0), a special register (1), or memory (2)
abbrev pub kind_of : Place → ℕ
kind_of (Root n) = 0
kind_of (Special n) = 1
kind_of (Granule address) = 2

-- which of them
abbrev pub number_of : Place → ℕ
number_of (Root n) = n
number_of (Special n) = n
number_of (Granule address) = address

-- what C gets of a member
abbrev pub c_member : Found → Shown
c_member x = record { value = x.value; place = number_of x.place; from = x.from; kind = kind_of x.place }

-- what C gets of a door
abbrev pub c_door : FoundDoor → Door
c_door d =
    record { sealed = number_of d.sealed; key = number_of d.key; sealed_kind = kind_of d.sealed; key_kind = kind_of d.key }

-- what C gets where this member is the first that lets code do something, or none does
abbrev pub answer_of : Option ℕ → Answer
answer_of None = record { member = 0; may = false }
answer_of (Some k) = record { member = k; may = true }
