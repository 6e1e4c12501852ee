-- The places that an effect may write, and what an event logs of them.
use Rattle.std.specs.Prelude.{◌≡◌, ℕ, ◌*◌, ◌/◌, ◌%◌, ◌==◌, nat_lt, Bool, false}
use Rattle.std.specs.Prelude.{◌||◌, ◌&&◌, if◌then◌else◌, List, [], ◌∷◌, ◌++◌, Option, Some, None}
use Rattle.base.specs.Registers.{is_scr}
use Rattle.tagged_memory.specs.Memory.{is_in_ram}
use Rattle.steps.specs.State.{State}
use Rattle.steps.specs.declared.effect.Effect.{Effect}
use Rattle.steps.specs.declared.effect.Effect.TheVariants as effect
use Rattle.steps.specs.declared.event.Event.{Event}
use Rattle.origins.specs.Made.{made_at, step_made}
use Rattle.origins.specs.Places.{pcc, mtcc, mepcc}
use Rattle.origins.specs.declared.making.Making.{Making}
use Rattle.origins.specs.declared.place.Place.{Place}
use Rattle.origins.specs.declared.place.Place.TheVariants.{Register, Special, Granule}
use Rattle.past.specs.Giving.{HasSameSize}
use Rattle.origin_texts.specs.Chain.{History}
use Rattle.origin_texts.specs.Log.{IsLogged, is_same}
use Rattle.origin_texts.specs.declared.log.Link.{Link}

-- register 0, which nothing writes, fills the list
abbrev pub nowhere : Place
nowhere = Register 0

-- the granule of a byte
abbrev pub granule_of : ℕ → Place
granule_of address = Granule (address / 16 * 16)

abbrev pub with_register : ℕ → List Place
with_register rd = pcc ∷ Register rd ∷ nowhere ∷ nowhere ∷ []

abbrev pub with_granule : ℕ → List Place
with_granule address = pcc ∷ granule_of address ∷ nowhere ∷ nowhere ∷ []

abbrev pub written_by : {C : Type 0} → Effect C → List Place
written_by (effect.Trap fault) = pcc ∷ mepcc ∷ nowhere ∷ nowhere ∷ []
written_by (effect.Write w) = with_register w.rd
written_by (effect.Unseal w) = with_register w.rd
written_by (effect.DeviceLoad l) = with_register l.rd
written_by (effect.Link l) = with_register l.rd
written_by (effect.Enter e) = with_register e.rd
written_by (effect.Special w) = pcc ∷ Register w.rd ∷ Special w.number ∷ nowhere ∷ []
written_by (effect.Csr w) = pcc ∷ Register w.rd ∷ mtcc ∷ mepcc ∷ []
written_by (effect.Store w) = with_granule w.address
written_by (effect.StoreCapability w) = with_granule w.address
written_by other = pcc ∷ nowhere ∷ nowhere ∷ nowhere ∷ []

abbrev pub is_among : Place → List Place → Bool
is_among p [] = false
is_among p (q ∷ qs) = is_same q p || is_among p qs

-- ---- what an event of a number logs

-- whether there is such a place
abbrev pub is_in : State → Place → Bool
is_in s (Register n) = nat_lt n 32
is_in s (Special n) = is_scr n
is_in s (Granule address) = address % 16 == 0 && is_in_ram s.memory address 16

abbrev pub entry : ℕ → Place → Option Making → List Link
entry k place (Some making) = record { place = place; found = record { before = k; making = making } } ∷ []
entry k place None = []

abbrev pub noted : (Place → Option Making) → ℕ → List Place → List Link
noted made k [] = []
noted made k (p ∷ ps) = entry k p (made p) ++ noted made k ps

-- how the next step makes what it writes at a place, if there is such a place
abbrev pub made_there : State → Place → Option Making
made_there s place = if is_in s place then step_made place s else None

-- a log that grew by what an event wrote
pub record IsGrown (k : ℕ) (event : Event) (s : State) (old new : List Link) : Type 0 where
  pub more : List Link
  pub grown : new ≡ old ++ more
  pub logged : (h : History) → HasSameSize h.opening s → IsLogged h k (λ place. made_at place event s) more
