-- Rules that allow what the caller of their code could reach, too: which terms are in force. Code is called by a jump through a seal that
-- comes to it from other code; a trap and the return from it are no call, and change nothing of what is in force.
use Rattle.std.specs.Prelude.{ℕ, Bool, false, not, ◌&&◌, ◌||◌, if◌then◌else◌, List, [], ◌∷◌, ◌++◌, Option, Some, None, option_map}
use Rattle.std.specs.List.{list_any}
use Rattle.cap_bounds.specs.CapValue.{CapValue}
use Rattle.devices.specs.Devices.{halt, timer_compare, transmit}
use Rattle.steps.specs.declared.effect.Effect.{Effect}
use Rattle.steps.specs.declared.effect.Effect.TheVariants as effect
use Rattle.steps.specs.declared.event.Event.{Event}
use Rattle.steps.specs.declared.event.Event.TheVariants.{Step, Tick, Byte}
use Rattle.steps.specs.Event.{after}
use Rattle.steps.specs.State.{State, pc_of}
use Rattle.steps.specs.Step.{step_effect}
use Rattle.reach.specs.declared.right.Right.TheVariants as right
use Rattle.reach.specs.Ranges.{ranges_of}
use Rattle.policy.specs.Terms.{Terms}
use Rattle.cap_rights.specs.Opens.{opens_store, opens_system}
use Rattle.policy.specs.Tests.{is_about}
use Rattle.policy.specs.Opened.{entered_by, opens_types, types_with}
use Rattle.policy.specs.Watch.{values_in}

-- the terms with all that some values open
unfoldable pub lent : Terms → List CapValue → Terms
lent said vs =
    record said {
      store = said.store ++ ranges_of right.Store vs;
      load = said.load ++ ranges_of right.Load vs;
      execute = said.execute ++ ranges_of right.Execute vs;
      keep = said.keep ++ ranges_of right.Keep vs;
      enter = said.enter ++ entered_by vs;
      transmit = said.transmit || list_any (opens_store transmit) vs;
      halt = said.halt || list_any (opens_store halt) vs;
      timer = said.timer || list_any (opens_store timer_compare) vs;
      system = said.system || list_any opens_system vs;
      seal = said.seal || (opens_types right.Seal vs || opens_types right.Unseal vs);
      types = option_map (λ types. types ++ types_with [] vs) said.types;
    }

-- where an effect jumps through a seal: by CInvoke, or by CJALR through a sentry
unfoldable pub door_of : Effect CapValue → Option ℕ
door_of (effect.Enter e) = if e.sealed then Some e.target else None
door_of _ = None

-- where the next step of a state does; a halted machine does nothing
abbrev pub next_door_unless : Option ℕ → State → Option ℕ
next_door_unless None s = door_of (step_effect s)
next_door_unless (Some number) s = None

unfoldable pub next_door : State → Option ℕ
next_door s = next_door_unless s.devices.halted s

-- whether a jump from an address calls the code of a rule
abbrev pub is_call : Terms → ℕ → Option ℕ → Bool
is_call said pc None = false
is_call said pc (Some door) = is_about said door && not (is_about said pc)

-- The terms in force after a step from an address where some values are reachable, by where it jumps through a seal. If it calls the code
-- of a rule that allows what its caller could reach, they are those that the rule says with all that the values open; and else those that
-- were in force.
abbrev pub terms_after : List CapValue → ℕ → Option ℕ → Terms → Terms → Terms
terms_after vs pc door said now = if said.or_caller && is_call said pc door then lent said vs else now

-- of each rule
abbrev pub each_after : List CapValue → ℕ → Option ℕ → List Terms → List Terms → List Terms
each_after vs pc door (said ∷ saids) (now ∷ nows) = terms_after vs pc door said now ∷ each_after vs pc door saids nows
each_after vs pc door saids nows = []

-- after an event: a byte that comes and a tick are no steps
abbrev pub in_force_after : List Terms → List Terms → Event → State → List Terms
in_force_after said now Step s = each_after (values_in s) (pc_of s) (next_door s) said now
in_force_after said now Tick s = now
in_force_after said now (Byte b) s = now

-- after some events
abbrev pub in_force_from : List Terms → List Terms → List Event → State → List Terms
in_force_from said now [] s = now
in_force_from said now (e ∷ es) s = in_force_from said (in_force_after said now e s) es (after e s)

-- after the first events of a run, at whose begin nobody has called any code
abbrev pub in_force : List Terms → List Event → State → List Terms
in_force said events s = in_force_from said said events s
