-- A step on a schedule is three events at most.
use Rattle.std.proofs.Common.{◌≡◌, ℕ, zero, suc, ◌-◌, ◌*◌, ◌≤◌, Bool, true, false, ◌&&◌, List, [], ◌∷◌, ◌++◌, length, map, refl, arith}
use Rattle.std.specs.Prelude.{Option, None, Some, if◌then◌else◌, not, option_to_list, replicate}
use Rattle.std.proofs.lemmas.List.{length-append}
use Rattle.steps.specs.declared.event.Event.{Event}
use Rattle.steps.specs.declared.event.Event.TheVariants.{Step, Tick, Byte}
use Rattle.steps.specs.Event.{after, sent}
use Rattle.steps.specs.State.{State}
use Rattle.machine.specs.Run.{run_after}
use Rattle.schedules.specs.Schedule.{is_halted}
use Rattle.past.specs.Replay.{ReplayState, byte_due, byte_events, is_tick_due}
use Rattle.debugger.specs.Stepping.{counted_steps, is_at_end, next_step, ready, step_events, steps_while}
use Rattle.debugger.specs.Stops.{Ends, is_end, nowhere}

one_byte : (due : Option ℕ) → length (map Byte (option_to_list due)) ≤ 1
one_byte None = omega arith
one_byte (Some b) = omega arith

step_and_tick : (b : Bool) → length (Step ∷ (if b then Tick ∷ [] else [])) ≤ 2
step_and_tick true = omega arith
step_and_tick false = omega arith

if_few : (b : Bool) (es : List Event) (n : ℕ) → length es ≤ n → length (if b then [] else es) ≤ n
if_few true es n few = omega arith
if_few false es n few = few

turn_few : (byte steps rest : List Event) (n : ℕ) (stops : Bool) → length byte ≤ 1 → length steps ≤ 2 → length rest ≤ 3 * n
    → length (byte ++ (if stops then [] else steps ++ rest)) ≤ 3 * suc n
turn_few byte steps rest n true one two few =
    let sum = length-append byte [] in
    omega (arith, sum, one)
turn_few byte steps rest n false one two few =
    let sum = length-append byte (steps ++ rest) in
    let more = length-append steps rest in
    omega (arith, sum, more, one, two, few)

pub steps_few : (first later : Ends) (replay : Option ReplayState) (n room : ℕ) (s : State)
    → length (steps_while first later replay n room s) ≤ 3 * n
steps_few first later replay zero room s = omega arith
steps_few first later replay (suc n) room s =
    let here : State = ready replay s in
    let rest : List Event =
    steps_while later later (next_step replay) n (room - length (option_to_list (sent Step here)))
    (run_after (step_events replay here) here) in
    if_few (is_at_end replay room s) _ (3 * suc n)
    (turn_few (byte_events replay) (step_events replay here) rest n (is_end first here) (one_byte (byte_due replay))
    (step_and_tick (is_tick_due replay && not (is_halted (after Step here))))
    (steps_few later later (next_step replay) n (room - length (option_to_list (sent Step here)))
    (run_after (step_events replay here) here)))

pub length-replicate : (n : ℕ) (e : Event) → length (replicate n e) ≡ n
length-replicate zero e = refl
length-replicate (suc n) e =
    let ih = length-replicate n e in
    omega (arith, ih)

pub counted_few : (replay : Option ReplayState) (n : ℕ) (s : State) → length (counted_steps replay n s) ≤ 3 * n
counted_few None n s =
    let all = length-replicate n Step in
    omega (arith, all)
counted_few (Some r) n s = steps_few nowhere nowhere (Some r) n n s
