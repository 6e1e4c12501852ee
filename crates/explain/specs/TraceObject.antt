-- A step of a trace as an object: its number, where PCC is, the word that is fetched and its text in PCC's mode, and what it comes to.
use Rattle.std.specs.Prelude.{ℕ, List, ◌++◌, Option, Some, None, codes}
use Rattle.objects.specs.Items.{number_field, object_line}
use Rattle.steps.specs.State.{State}
use Rattle.steps.specs.Step.{step_effect, step_fetched}
use Rattle.steps.specs.declared.fetched.Fetched.{Fetched}
use Rattle.steps.specs.declared.fetched.Fetched.TheVariants.{Word}
use Rattle.symbols.specs.Symbols.{Symbol}
use Rattle.explain.specs.StepFields.{effect_fields, instruction_fields}

-- the word that is fetched; none is at an interrupt, nor where the fetch faults
abbrev pub fetched_word : Fetched → Option ℕ
fetched_word (Word word insn) = Some word
fetched_word _ = None

-- the object of the next step of a machine that is not halted, with the step's number
abbrev pub trace_object : List Symbol → ℕ → State → List ℕ
trace_object symbols number s =
    object_line
    (number_field (codes "step") number ++ instruction_fields symbols (fetched_word (step_fetched s)) s
    ++ effect_fields symbols (step_effect s))
