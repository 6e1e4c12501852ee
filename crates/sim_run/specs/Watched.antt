-- What a watch remembers of the traps of a run. No definition of a run needs this.
use Rattle.std.specs.Prelude.{◌≡◌, ℕ, ◌+◌, ◌-◌, ◌==◌, ◌≤◌, nat_lt, if◌then◌else◌, List, [], ◌++◌, Option, Some, None, ⊤}
use Rattle.std.specs.Prelude.{codes, string_bytes, IfSome, MatchOption}
use Rattle.std.specs.declared.string.String.{String}
use Rattle.base.specs.declared.fault.Fault.{Fault}
use Rattle.json.specs.Token.{Token}
use Rattle.objects.specs.Items.{number_field}
use Rattle.cap_bounds.specs.CapValue.{CapValue}
use Rattle.steps.specs.declared.effect.Effect.{Effect}
use Rattle.steps.specs.declared.effect.Effect.TheVariants.{Trap}
use Rattle.symbols.specs.Symbols.{Symbol}
use Rattle.steps.specs.declared.event.Event.{Event}
use Rattle.steps.specs.declared.event.Event.TheVariants.{Step}
use Rattle.steps.specs.Event.{after}
use Rattle.steps.specs.State.{State, pc_of}
use Rattle.schedules.specs.Schedule.{steps_in}
use Rattle.schedules.specs.declared.pace.Pace.{Pace}
use Rattle.schedules.specs.declared.pace.Speed.TheVariants.{Each, Short}
use Rattle.sim_run.specs.declared.notes.First.{First}
use Rattle.sim_run.specs.declared.notes.Last.{Last}
use Rattle.sim_run.specs.declared.notes.Notes.{Notes}
use Rattle.sim_run.specs.Unhandled.{Open, Trapped, Traps, level_left, traps_after}
use Rattle.sim_run.specs.Ending.{last_trap, since_line, trap_lines, trap_words}
use Rattle.sim_run.specs.Object.{no_trap_fields, trap_field, trap_fields}

-- the fault of an effect that is a trap
abbrev pub trap_in : Effect CapValue → Option Fault
trap_in (Trap fault) = Some fault
trap_in _ = None

-- a trap of the next step: what it leaves in mcause and mtval, and where it is taken
pub record IsTaken (fault : Fault) (pc : ℕ) (s : State) : Type 0 where
  pub mcause : fault.mcause ≡ (after Step s).csrs.mcause
  pub mtval : fault.mtval ≡ (after Step s).csrs.mtval
  pub place : pc ≡ pc_of s

-- the first trap that is open, with its words
abbrev pub IsOpen : List Symbol → Option First → List ℕ → Option Open → Type 0
IsOpen symbols None words None = ⊤
IsOpen symbols None words (Some open_trap) = ⊥
IsOpen symbols (Some first) words None = ⊥
IsOpen symbols (Some first) words (Some open_trap) =
    (first.number ≡ open_trap.number) × (first.inner ≡ open_trap.inner) × (first.level ≡ level_left open_trap.before)
    × (words ≡ trap_words symbols open_trap.number open_trap.before) × IsTaken first.fault first.pc open_trap.before

-- the last, where the last step was one, with its words
abbrev pub IsLast : List Symbol → Option Last → List ℕ → Option Trapped → Type 0
IsLast symbols None words None = ⊤
IsLast symbols None words (Some trapped) = ⊥
IsLast symbols (Some last) words None = ⊥
IsLast symbols (Some last) words (Some trapped) =
    (last.number ≡ trapped.number) × (last.unfetched ≡ trapped.unfetched) × (words ≡ trap_words symbols trapped.number trapped.before)
    × IsTaken last.fault last.pc trapped.before

abbrev pub IsTold : List Symbol → Notes → Traps → Type 0
IsTold symbols notes left =
    IsOpen symbols notes.first (string_bytes notes.first_words) left.first
    × IsLast symbols notes.last (string_bytes notes.last_words) left.last

-- the lines of both, of their words
abbrev pub lines_of : First → List ℕ → Last → List ℕ → List ℕ
lines_of first words last later =
    codes "; first trap: " ++ words ++ (if first.number == last.number then [] else codes "  last trap: " ++ later)
    ++ since_line last.unfetched

-- the lines of a run that ended in this state, where its last step was a trap
abbrev pub HasLines : {Z : Type 0} → List Symbol → Option (String Z) → Traps → State → Type 0
HasLines symbols lines left s =
    MatchOption lines (trap_lines symbols left.first left.last s ≡ last_trap symbols s ++ codes "\n")
    (λ text. trap_lines symbols left.first left.last s ≡ string_bytes text)

-- what an object says of the first and the last
abbrev pub fields_of : List Symbol → Option (First × Last) → State → List Token
fields_of symbols None s = no_trap_fields symbols s
fields_of symbols (Some taken) s =
    trap_field (codes "first_trap") symbols (Some taken.0.number) taken.0.fault taken.0.pc
    ++ trap_field (codes "last_trap") symbols (Some taken.1.number) taken.1.fault taken.1.pc
    ++ number_field (codes "unfetched") taken.1.unfetched

-- the traps of a run that are left, where its last step was one
abbrev pub HasFields : Option (First × Last) → Traps → Type 0
HasFields taken left =
    (symbols : List Symbol) (s : State) → trap_fields symbols left.first left.last s ≡ fields_of symbols taken s

-- no trap has more of them than there were steps
abbrev pub AreFew : ℕ → Notes → Type 0
AreFew number notes = IfSome notes.first (λ first. first.inner ≤ number) × IfSome notes.last (λ last. last.unfetched ≤ number)

-- after so many steps, at once over plain ones
abbrev pub counted_pace : ℕ → Pace
counted_pace number =
    if nat_lt number 18446744073709551615 then record { speed = Short None; most = 18446744073709551615 - number }
    else record { speed = Each; most = 18446744073709551615 }

-- where a trap is open, step by step: a return is plain
abbrev pub watching_pace : Option First → ℕ → Pace
watching_pace None number = counted_pace number
watching_pace (Some first) number = record { speed = Each; most = 18446744073709551615 }

-- the steps among the events were counted
abbrev pub Counted : ℕ → ℕ → List Event → Type 0
Counted before now events = now ≡ before + steps_in events

-- what was told of the traps that were left before the events tells of those that are left after them
abbrev pub Tells : (Traps → Type 0) → (Traps → Type 0) → ℕ → List Event → State → Type 0
Tells Before Now number events s = (left : Traps) → Before left → Now (traps_after number left events s)
