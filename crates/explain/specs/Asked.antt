-- What the next step asks, in stages, and that this decides it.
use Rattle.std.specs.Prelude.{◌≡◌, ℕ, Bool, is_some, List, [], ◌∷◌, ◌++◌, Option, Some, None, Result, Ok, Err}
use Rattle.base.specs.declared.fault.Fault.{Fault}
use Rattle.cap_bounds.specs.CapValue.{CapValue}
use Rattle.cap_checks.specs.declared.question.Condition.{Condition}
use Rattle.cap_checks.specs.declared.question.Question.TheVariants.{Instruction}
use Rattle.cap_checks.specs.Question.{asks}
use Rattle.devices.specs.Devices.{interrupts_of}
use Rattle.special_regs.specs.Interrupts.{pending, cause_of}
use Rattle.special_regs.specs.declared.interrupts.Interrupt.{Interrupt}
use Rattle.isa_rows.specs.declared.operands.Insn.{Insn}
use Rattle.isa_rows.specs.Kind.{kind_of}
use Rattle.isa_rows.specs.Decoded.{insn_of}
use Rattle.steps.specs.declared.effect.Effect.{Effect}
use Rattle.steps.specs.declared.effect.Effect.TheVariants.{Trap, Nothing}
use Rattle.steps.specs.Looks.{where_all}
use Rattle.steps.specs.State.{State}
use Rattle.steps.specs.Step.{asked, does, fetch_asked, fetch, step_effect}

-- whether a word is an instruction
abbrev pub decoding : Bool → ℕ → List Condition
decoding is_instruction word = asks (Instruction word) is_instruction ∷ []

-- what the instruction asks, if the word is one
abbrev pub insn_stages : Option Insn → ℕ → State → List (List Condition)
insn_stages (Some insn) word s = asked (kind_of insn.row) word insn s ∷ []
insn_stages None word s = []

abbrev pub word_stages : Option Insn → ℕ → State → List (List Condition)
word_stages found word s = decoding (is_some found) word ∷ insn_stages found word s

-- nothing is decoded where the fetch is refused
abbrev pub fetched_stages : Result ℕ Fault → State → List (List Condition)
fetched_stages (Ok word) s = word_stages (insn_of word) word s
fetched_stages (Err f) s = []

-- an interrupt that is taken is the whole step
abbrev pub stages_unless : Option Interrupt → State → List (List Condition)
stages_unless (Some interrupt) s = []
stages_unless None s = fetch_asked s ∷ fetched_stages (fetch s) s

-- the stages of the next step, while the machine isn't halted: the fetch, the decoding, and what the instruction asks
unfoldable pub stages_of : State → List (List Condition)
stages_of s = stages_unless (pending s.csrs (interrupts_of s.devices)) s

-- ---- what they are for

abbrev pub all_conditions : List (List Condition) → List Condition
all_conditions [] = []
all_conditions (stage ∷ stages) = stage ++ all_conditions stages

-- what the instruction at PCC does; where there is none, a condition is false
abbrev pub done_by_insn : Option Insn → State → Effect CapValue
done_by_insn (Some insn) s = does (kind_of insn.row) insn s
done_by_insn None s = Nothing

abbrev pub done_by_word : Result ℕ Fault → State → Effect CapValue
done_by_word (Ok word) s = done_by_insn (insn_of word) s
done_by_word (Err f) s = Nothing

abbrev pub effect_unless : Option Interrupt → State → Effect CapValue
effect_unless (Some interrupt) s = Trap (cause_of interrupt)
effect_unless None s = where_all (all_conditions (stages_of s)) (done_by_word (fetch s) s)

-- The law: unless an interrupt is taken, the step is the trap by the first false condition of its stages; where all hold, it is what the
-- instruction does.
abbrev pub TrapsByItsStages : Type 0
TrapsByItsStages = (s : State) → step_effect s ≡ effect_unless (pending s.csrs (interrupts_of s.devices)) s
