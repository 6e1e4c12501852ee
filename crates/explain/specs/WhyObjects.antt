-- What the next step will do, and why, as objects, one a line, of the values of its text: the instruction at PCC, the conditions of the
-- step's stages up to the first false one, and its effect.
use Rattle.std.specs.Prelude.{ℕ, if◌then◌else◌, List, [], ◌∷◌, ◌++◌, Option, Some, None, codes}
use Rattle.json.specs.Token.{Token}
use Rattle.base.specs.Size.{bytes_of}
use Rattle.base.specs.declared.cause.CheriCause.{CheriCause}
use Rattle.cap_checks.specs.declared.question.Condition.{Condition}
use Rattle.cap_checks.specs.declared.question.Question.{Question}
use Rattle.cap_checks.specs.declared.question.Question.TheVariants.{Right, Bounds, Multiple, Ram, RamOrDevice, Instruction, SystemRegister}
use Rattle.tagged_memory.specs.Memory.{is_in_ram, number_at}
use Rattle.objects.specs.Items.{address_field, number_field, object_line, text_field, truth_field}
use Rattle.objects.specs.Places.{place_field}
use Rattle.bounds_objects.specs.Value.{value_field}
use Rattle.steps.specs.State.{State, pc_of}
use Rattle.steps.specs.Step.{step_effect}
use Rattle.symbols.specs.Symbols.{Symbol}
use Rattle.explain.specs.Asked.{all_conditions, stages_of}
use Rattle.explain.specs.StepFields.{effect_fields, instruction_fields}
use Rattle.explain.specs.WhyText.{asked_name, capability_in, register_text}

-- ---- what a condition asks

abbrev pub asks_field : List ℕ → List Token
asks_field what = text_field (codes "asks") what

abbrev pub register_field : ℕ → List Token
register_field register = text_field (codes "register") (register_text register)

-- the capability in a register
abbrev pub held_field : State → ℕ → List Token
held_field s register = value_field (codes "capability") (capability_in s register)

-- some bytes: where the first is, and how many
unfoldable pub bytes_fields : List Symbol → ℕ → ℕ → List Token
bytes_fields symbols address size = place_field (codes "address") symbols address ++ number_field (codes "size") size

-- what a capability must allow, and the register that holds it
unfoldable pub right_fields : State → ℕ → CheriCause → List Token
right_fields s register what =
    asks_field (codes "right") ++ text_field (codes "right") (asked_name what) ++ register_field register ++ held_field s register

-- the bytes that must lie in a capability's bounds, and the register that holds it
unfoldable pub bounds_fields : List Symbol → State → ℕ → ℕ → ℕ → List Token
bounds_fields symbols s register address size =
    asks_field (codes "bounds") ++ register_field register ++ bytes_fields symbols address size ++ held_field s register

unfoldable pub question_fields : List Symbol → State → Question → List Token
question_fields symbols s (Right register what) = right_fields s register what
question_fields symbols s (Bounds register address size) = bounds_fields symbols s register address size
question_fields symbols s (Multiple otherwise address size) = asks_field (codes "multiple") ++ bytes_fields symbols address size
question_fields symbols s (Ram otherwise address) = asks_field (codes "ram") ++ place_field (codes "address") symbols address
question_fields symbols s (RamOrDevice otherwise address size) =
    asks_field (codes "ram_or_device") ++ bytes_fields symbols address (bytes_of size)
question_fields symbols s (Instruction word) = asks_field (codes "instruction")
question_fields symbols s (SystemRegister word) = asks_field (codes "system_register")

-- ---- conditions

unfoldable pub condition_object : List Symbol → State → Condition → List ℕ
condition_object symbols s c = object_line (truth_field (codes "holds") c.holds ++ question_fields symbols s c.question)

-- conditions in order, up to the first that is false and with it
abbrev pub condition_objects : List Symbol → State → List Condition → List ℕ
condition_objects symbols s [] = []
condition_objects symbols s (c ∷ cs) = condition_object symbols s c ++ (if c.holds then condition_objects symbols s cs else [])

-- those of all stages of the next step
unfoldable pub stages_objects : List Symbol → State → List ℕ
stages_objects symbols s = condition_objects symbols s (all_conditions (stages_of s))

-- ---- all objects

-- the word at PCC, where there is RAM
unfoldable pub word_at_pcc : State → Option ℕ
word_at_pcc s = if is_in_ram s.memory (pc_of s) 4 then Some (number_at s.memory (pc_of s) 4) else None

abbrev pub running_objects : List Symbol → State → List ℕ
running_objects symbols s =
    object_line (instruction_fields symbols (word_at_pcc s) s) ++ stages_objects symbols s
    ++ object_line (effect_fields symbols (step_effect s))

abbrev pub objects_unless : List Symbol → Option ℕ → State → List ℕ
objects_unless symbols (Some number) s = object_line (address_field (codes "halted") number)
objects_unless symbols None s = running_objects symbols s

-- what the next step will do, and why; a machine that is halted ignores it
unfoldable pub why_objects : List Symbol → State → List ℕ
why_objects symbols s = objects_unless symbols s.devices.halted s
