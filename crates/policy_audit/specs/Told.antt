-- What is told of a run step by step.
use Rattle.std.specs.Prelude.{ℕ, ◌+◌, List, [], ◌∷◌, ◌++◌}
use Rattle.steps.specs.declared.event.Event.{Event}
use Rattle.steps.specs.declared.event.Event.TheVariants.{Step, Tick, Byte}
use Rattle.steps.specs.Event.{after}
use Rattle.steps.specs.State.{State}

-- What is remembered of the states before the steps among the events: each adds to it.
abbrev pub remembered : {M : Type 0} → (M → State → M) → List Event → M → State → M
remembered adds [] memory s = memory
remembered adds (Step ∷ es) memory s = remembered adds es (adds memory s) (after Step s)
remembered adds (Tick ∷ es) memory s = remembered adds es memory (after Tick s)
remembered adds (Byte b ∷ es) memory s = remembered adds es memory (after (Byte b) s)

-- What is told, before each step, of its number, which is counted after so many others, and of its state, by what is remembered.
abbrev pub told : {M : Type 0} → (M → ℕ → State → List ℕ) → (M → State → M) → ℕ → List Event → M → State → List ℕ
told says adds before [] memory s = []
told says adds before (Step ∷ es) memory s = says memory (before + 1) s ++ told says adds (before + 1) es (adds memory s) (after Step s)
told says adds before (Tick ∷ es) memory s = told says adds before es memory (after Tick s)
told says adds before (Byte b ∷ es) memory s = told says adds before es memory (after (Byte b) s)
