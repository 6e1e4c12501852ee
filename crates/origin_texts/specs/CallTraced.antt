-- What a watch notes of the calls of a run. No definition of a run needs this.
use Rattle.std.specs.Prelude.{◌≡◌, ℕ, ◌+◌, ◌<◌, ◌^◌, List, ◌++◌, length}
use Rattle.steps.specs.State.{State, pc_of}
use Rattle.steps.specs.declared.event.Event.{Event}
use Rattle.steps.specs.declared.event.Event.TheVariants.{Step}
use Rattle.symbols.specs.Symbols.{Symbol}
use Rattle.origin_texts.specs.CallTrace.{call_trace}
use Rattle.origin_texts.specs.Calls.{calls_at, open_after}
use Rattle.origin_texts.specs.declared.calls.Call.{Call}

-- from the one text to the other the lines of the events were written, of which some came before
pub record WroteCalls (symbols : List Symbol) (before : ℕ) (stack : List Call) (events : List Event) (s : State) (number : ℕ)
    (left : List Call)
    (old new : List ℕ)
    : Type 0 where
  pub count : number ≡ before + length events
  pub calls : left ≡ open_after before stack events s
  pub lines : new ≡ old ++ call_trace symbols before stack events s

-- where the events have numbers of 64 bits
abbrev pub WritesCalls : List Symbol → ℕ → List Call → List Event → State → ℕ → List Call → List ℕ → List ℕ → Type 0
WritesCalls symbols before stack events s number left old new =
    before + length events < 2 ^ 64 → WroteCalls symbols before stack events s number left old new

-- before the step of a number its calls are noted, where PCC is, and how many are open before it
pub record NotedStep (number : ℕ) (stack : List Call) (s : State) (place count : ℕ) (left : List Call) : Type 0 where
  pub from : place ≡ pc_of s
  pub depth : count ≡ length stack
  pub calls : number < 2 ^ 64 → left ≡ calls_at Step number s stack
