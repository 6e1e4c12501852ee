-- Pasts for C: the bytes of an image, and what its machine was given since the opening state.
use Rattle.std.specs.Prelude.{◌≡◌, ℕ, ◌<◌, ◌≤◌, ◌-◌, ◌%◌, ◌^◌, ◌==◌, ◌&&◌, ◌⊎◌, nat_lt, if◌then◌else◌, List, map, Option, Some, None, Ok}
use Rattle.base.specs.Registers.{is_scr}
use Rattle.hart.specs.Opening.{opening}
use Rattle.image.specs.Grammar.{reading}
use Rattle.origins.specs.declared.place.Place.{Place}
use Rattle.origins.specs.declared.place.Place.TheVariants.{Register, Special, Granule}
use Rattle.origins.specs.declared.search.Sought.{Sought}
use Rattle.origins.specs.declared.search.Sought.TheVariants.{Written, Lost}
use Rattle.origins.specs.Places.{IsThere}
use Rattle.origin_texts.specs.Lost.{lost_text}
use Rattle.origin_texts.specs.Origin.{origin_text}
use Rattle.past.specs.Given.{PastState, count_of, state_at}
use Rattle.past.specs.declared.given.Given.{Given}
use Rattle.past.specs.declared.given.Given.TheVariants.{Steps, Ticks, Byte}
use Rattle.steps.specs.State.{State}
use Rattle.symbols.specs.Symbols.{Symbol}
use Rattle.cherisim_c.specs.declared.types.Noted.{Noted}
use Rattle.cherisim_c.specs.declared.types.PlaceAsked.{PlaceAsked}
use Rattle.cherisim_c.specs.Made.{IsImageRefusal}
use Rattle.cherisim_c.specs.Status.{out_of_range}

-- ---- what was given

-- so many steps (0), so many ticks (1), or a byte (2)
unfoldable pub given_of : Noted → Option Given
given_of n =
    if n.kind == 0 then Some (Steps n.number) else
    (if n.kind == 1 then Some (Ticks n.number) else
    (if (n.kind == 2) && nat_lt n.number 256 then Some (Byte n.number) else None))

-- The bytes are those of an image, and its machine was given this: fewer than 2^64 events in all.
pub record IsPast (bytes : List ℕ) (noted : List Noted) (past : PastState) : Type 0 where
  pub image : reading bytes ≡ Ok past.image
  pub given : map given_of noted ≡ map Some past.given
  pub few : count_of past.given < 2 ^ 64

-- No machine can be given this.
abbrev pub IsNoPast : List Noted → Type 0
IsNoPast noted = (given : List Given) → map given_of noted ≡ map Some given → count_of given < 2 ^ 64 → ⊥

-- the status is that of the image, or of what can't be given; a want of memory is an image's fault
abbrev pub IsPastRefusal : List ℕ → List Noted → ℕ → Type 0
IsPastRefusal bytes noted status = IsImageRefusal (reading bytes) status ⊎ ((status ≡ out_of_range) × IsNoPast noted)

-- ---- back

-- a machine as it stood before the last events of a past
pub record IsTakenBack (bytes : List ℕ) (noted : List Noted) (events : ℕ) (s : State) : Type 0 where
  pub past : PastState
  pub is_past : IsPast bytes noted past
  pub enough : events ≤ count_of past.given
  pub state : s ≡ state_at (count_of past.given - events) past None

-- or it has not as many
abbrev pub IsBackRefusal : List ℕ → List Noted → ℕ → ℕ → Type 0
IsBackRefusal bytes noted events status =
    IsPastRefusal bytes noted status
    ⊎ ((status ≡ out_of_range) × ((past : PastState) × IsPast bytes noted past × (count_of past.given < events)))

-- a handle's machine is in such a state
abbrev pub IsMachine : (State → Type 0) → Option State → Type 0
IsMachine Holds (Some s) = Holds s
IsMachine Holds None = ⊥

-- ---- places

-- general register (0) or special register (1) of this number, or the granule at this address (2)
unfoldable pub place_of : PlaceAsked → Option Place
place_of p =
    if (p.kind == 0) && nat_lt p.number 32 then Some (Register p.number) else
    (if (p.kind == 1) && is_scr p.number then Some (Special p.number) else
    (if (p.kind == 2) && (p.number % 16 == 0) then Some (Granule p.number) else None))

-- a place that C names, and that a past's machine has
pub record IsPlaceOf (asked : PlaceAsked) (past : PastState) (place : Place) : Type 0 where
  pub named : place_of asked ≡ Some place
  pub there : IsThere place (opening past.image)

-- the status is that of the past, or it has no such place
abbrev pub IsPlaceRefusal : List ℕ → List Noted → PlaceAsked → ℕ → Type 0
IsPlaceRefusal bytes noted asked status =
    IsPastRefusal bytes noted status
    ⊎ ((status ≡ out_of_range)
    × ((past : PastState) × IsPast bytes noted past × ((place : Place) → IsPlaceOf asked past place → ⊥)))

-- ---- texts

-- how what a place holds came to be, or where its tag went
abbrev pub text_of : Sought → List Symbol → PastState → Place → List ℕ
text_of Written symbols past place = origin_text symbols past None place
text_of Lost symbols past place = lost_text symbols past None place

-- it is told of a place of a past
pub record IsToldOf (sought : Sought) (symbols : List Symbol) (bytes : List ℕ) (noted : List Noted) (asked : PlaceAsked) (told : List ℕ)
    : Type 0 where
  pub past : PastState
  pub is_past : IsPast bytes noted past
  pub place : Place
  pub is_place : IsPlaceOf asked past place
  pub text : told ≡ text_of sought symbols past place
