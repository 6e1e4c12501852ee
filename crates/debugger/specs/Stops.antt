-- Stops: where the steps of a command stop.
use Rattle.std.specs.Prelude.{ℕ, ◌%◌, ◌==◌, nat_lt, Bool, false, not, ◌&&◌, ◌||◌, if◌then◌else◌, List, [], ◌∷◌, bytes_eq, length, map}
use Rattle.std.specs.List.{flat_map, list_any}
use Rattle.base.specs.Registers.{is_scr}
use Rattle.cap_bounds.specs.CapValue.{CapValue}
use Rattle.cap_rights.specs.Derivations.{equal_exact}
use Rattle.tagged_memory.specs.Memory.{bytes_at, is_in_ram}
use Rattle.steps.specs.State.{State, pc_of}
use Rattle.steps.specs.Outcome.{is_trap, step_outcome}
use Rattle.origins.specs.Places.{held}
use Rattle.origins.specs.declared.place.Place.{Place}
use Rattle.origins.specs.declared.place.Place.TheVariants.{Register, Special, Granule}
use Rattle.debug_commands.specs.declared.command.Stop.{Stop}
use Rattle.debug_commands.specs.declared.command.Stop.TheVariants.{Address, Trap, Changed}
use Rattle.debug_commands.specs.declared.command.Watched.TheVariants.{Held, Bytes}
use Rattle.sim_run.specs.Stopping.{is_stop as is_trap_met}
use Rattle.sim_run.specs.declared.stopping.StopAt.TheVariants.{Unfetched}

-- A stop as a command takes it: one that watches for a change, with what stood there when the command began.
pub data Mark : Type 0 where
  at : ℕ → Mark
  trap : Mark
  other_value : Place → CapValue → Mark
  other_bytes : ℕ → List ℕ → Mark

-- there is such a register, or a granule of RAM begins there
abbrev pub is_there : Place → State → Bool
is_there (Register n) s = nat_lt n 32
is_there (Special n) s = is_scr n
is_there (Granule address) s = (address % 16 == 0) && is_in_ram s.memory address 16

-- what isn't there isn't watched
abbrev pub mark_of : State → Stop → List Mark
mark_of s (Address address) = at address ∷ []
mark_of s Trap = trap ∷ []
mark_of s (Changed (Held place)) = if is_there place s then other_value place (held place s) ∷ [] else []
mark_of s (Changed (Bytes address n)) =
    if is_in_ram s.memory address n then other_bytes address (bytes_at s.memory address n) ∷ [] else []

abbrev pub marks_of : State → List Stop → List Mark
marks_of s stops = flat_map (mark_of s) stops

-- whether a state is one before whose step a command stops
abbrev pub is_stop : Mark → State → Bool
is_stop (at address) s = pc_of s == address
is_stop trap s = is_trap (step_outcome s)
is_stop (other_value place v) s = is_there place s && not (equal_exact v (held place s))
is_stop (other_bytes address bytes) s =
    is_in_ram s.memory address (length bytes) && not (bytes_eq bytes (bytes_at s.memory address (length bytes)))

abbrev pub is_any_stop : List Mark → State → Bool
is_any_stop marks s = list_any (λ mark. is_stop mark s) marks

-- where steps end: before a step at which one of some stops holds, and, where it says so, before a trap whose entry can't be fetched
pub record Ends : Type 0 where
  pub marks : List Mark
  pub unfetched : Bool

abbrev pub ends : List Mark → Bool → Ends
ends marks unfetched = record { marks = marks; unfetched = unfetched }

abbrev pub at_stops : List Mark → Ends
at_stops marks = ends marks false

abbrev pub nowhere : Ends
nowhere = at_stops []

-- those of `go`
abbrev pub of_go : List Mark → Ends
of_go marks = ends marks Bool.true

abbrev pub is_end : Ends → State → Bool
is_end e s = is_any_stop e.marks s || (e.unfetched && is_trap_met Unfetched false s)
