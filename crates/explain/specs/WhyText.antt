-- What the next step will do, and why, as a text: the instruction's line, the stages of the step with their conditions up to the first
-- false one, and its effect.
use Rattle.std.specs.Prelude.{ℕ, ◌-◌, Bool, true, false, nat_lt, if◌then◌else◌, List, [], ◌∷◌, ◌++◌, length, flat_map, slice_get, Option}
use Rattle.std.specs.Prelude.{Some, None, codes, decimal}
use Rattle.std.specs.List.{list_any}
use Rattle.std.specs.Option.{unwrap_or}
use Rattle.base.specs.declared.cause.Cause.{Cause}
use Rattle.base.specs.declared.cause.Cause.TheVariants as cause
use Rattle.base.specs.declared.cause.CheriCause.{CheriCause}
use Rattle.base.specs.declared.cause.CheriCause.TheVariants as forbids
use Rattle.base.specs.Fault.{cheri_number_of}
use Rattle.base.specs.declared.size.Size.{Size}
use Rattle.base.specs.Registers.{pcc_register}
use Rattle.cap_bounds.specs.CapValue.{CapValue, value_base, value_top, value_perms, value_flag, integer}
use Rattle.cap_checks.specs.declared.question.Condition.{Condition}
use Rattle.cap_checks.specs.declared.question.Question.{Question}
use Rattle.cap_checks.specs.declared.question.Question.TheVariants.{Right, Bounds, Multiple, Ram, RamOrDevice, Instruction, SystemRegister}
use Rattle.tagged_memory.specs.Memory.{is_in_ram, number_at}
use Rattle.special_regs.specs.Scrs.{scr_value}
use Rattle.texts.specs.Hex.{hex_of}
use Rattle.disassembler.specs.Shown.{name_or}
use Rattle.symbols.specs.Symbols.{Symbol}
use Rattle.symbols.specs.Labels.{labelled}
use Rattle.bounds_text.specs.Letters.{permission_letters}
use Rattle.registers.specs.Registers.{register}
use Rattle.steps.specs.State.{State, pc_of}
use Rattle.steps.specs.Step.{step_effect}
use Rattle.asm_names.specs.TrapNames.{cheri_asked_name, register_at_fault}
use Rattle.explain.specs.ValueText.{shown_value}
use Rattle.explain.specs.WordLine.{labelled_word}
use Rattle.explain.specs.EffectText.{effect_text, shown_size}
use Rattle.explain.specs.Asked.{all_conditions, stages_of}

-- ---- registers as mtval counts them

abbrev pub register_text : ℕ → List ℕ
register_text n = name_or [] (register_at_fault n)

-- the capability in a register: 0 to 31 general, 32 + n special
abbrev pub capability_in : State → ℕ → CapValue
capability_in s n = if nat_lt n 32 then register s.registers n else unwrap_or (scr_value s.scrs (n - 32)) (integer 0)

-- its fields, and its permissions in letters
abbrev pub fields_text : CapValue → List ℕ
fields_text v = shown_value v ++ codes " " ++ permission_letters (value_perms v)

abbrev pub capability_line : State → ℕ → List ℕ
capability_line s n = codes "  " ++ register_text n ++ codes " " ++ fields_text (capability_in s n) ++ codes "\n"

-- ---- a stage's first line: what is asked and where, as its last condition says it

-- RAM alone is asked at a fetch, and for capabilities
abbrev pub ram_name : Cause → List ℕ
ram_name cause.FetchAccess = codes "fetch at "
ram_name cause.LoadAccess = codes "load of a capability at "
ram_name other = codes "store of a capability at "

abbrev pub moved_name : Cause → List ℕ
moved_name cause.LoadAccess = codes "load of "
moved_name other = codes "store of "

abbrev pub sized_place : List Symbol → List ℕ → Size → ℕ → List ℕ
sized_place symbols name size address = name ++ shown_size size ++ codes " at " ++ labelled symbols address

abbrev pub place_text : List Symbol → Bool → Question → State → List ℕ
place_text symbols invokes (Multiple otherwise address size) s =
    (if invokes then codes "invocation of " else codes "jump to ") ++ labelled symbols address
place_text symbols invokes (Ram otherwise address) s = ram_name otherwise ++ labelled symbols address
place_text symbols invokes (RamOrDevice otherwise address size) s = sized_place symbols (moved_name otherwise) size address
place_text symbols invokes (Instruction word) s = codes "decoding at " ++ labelled symbols (pc_of s)
place_text symbols invokes other s = codes "system register at " ++ labelled symbols (pc_of s)

-- a jump that asks for the permission CInvoke is an invocation
abbrev pub asks_for_cinvoke : Question → Bool
asks_for_cinvoke (Right register forbids.CInvoke) = true
asks_for_cinvoke other = false

abbrev pub is_invocation : List Condition → Bool
is_invocation conditions = list_any (λ c. asks_for_cinvoke c.question) conditions

-- ---- the capabilities that a stage asks: those whose tag is asked; else PCC, but for the decoding, which asks none

abbrev pub tag_line : State → Question → List ℕ
tag_line s (Right register forbids.Tag) = capability_line s register
tag_line s other = []

abbrev pub tag_lines : State → List Condition → List ℕ
tag_lines s [] = []
tag_lines s (c ∷ cs) = tag_line s c.question ++ tag_lines s cs

abbrev pub capability_lines : Question → List Condition → State → List ℕ
capability_lines (Right register forbids.Tag) conditions s = tag_lines s conditions
capability_lines (Instruction word) conditions s = []
capability_lines other conditions s = capability_line s pcc_register

-- ---- conditions

-- what a capability must allow
abbrev pub asked_name : CheriCause → List ℕ
asked_name what = name_or [] (cheri_asked_name (cheri_number_of what))

-- that, and the register that holds it
abbrev pub name_text : ℕ → CheriCause → List ℕ
name_text register what = asked_name what ++ codes " of " ++ register_text register

-- the bytes that are asked for, and the capability's bounds
abbrev pub bounds_text : List Symbol → ℕ → ℕ → CapValue → List ℕ
bounds_text symbols address size v =
    codes ": " ++ labelled symbols address ++ codes " + " ++ decimal size ++ codes " in " ++ labelled symbols (value_base v)
    ++ codes " to " ++ hex_of 17 (value_top v)

abbrev pub multiple_text : List Symbol → ℕ → ℕ → List ℕ
multiple_text symbols size address = codes "a multiple of " ++ decimal size ++ codes ": " ++ labelled symbols address

unfoldable pub question_text : List Symbol → State → Question → List ℕ
question_text symbols s (Right register what) = name_text register what
question_text symbols s (Bounds register address size) =
    name_text register forbids.Length ++ bounds_text symbols address size (capability_in s register)
question_text symbols s (Multiple otherwise address size) = multiple_text symbols size address
question_text symbols s (Ram otherwise address) = codes "RAM at " ++ labelled symbols address
question_text symbols s (RamOrDevice otherwise address size) = codes "RAM or a device at " ++ labelled symbols address
question_text symbols s (Instruction word) = codes "the word is an instruction"
question_text symbols s (SystemRegister word) = codes "there is such a register, and it may be written where it is"

abbrev pub mark : Bool → List ℕ
mark holds = if holds then codes "  ok " else codes "  no "

unfoldable pub condition_line : List Symbol → State → Condition → List ℕ
condition_line symbols s c = mark c.holds ++ question_text symbols s c.question ++ codes "\n"

-- conditions in order, up to the first that is false and with it
abbrev pub condition_lines : List Symbol → State → List Condition → List ℕ
condition_lines symbols s [] = []
condition_lines symbols s (c ∷ cs) = condition_line symbols s c ++ (if c.holds then condition_lines symbols s cs else [])

-- ---- stages

-- a stage that asks nothing is not shown
abbrev pub stage_between : List Symbol → Option Condition → Option Condition → List Condition → State → List ℕ
stage_between symbols (Some first) (Some last) conditions s =
    place_text symbols (is_invocation conditions) last.question s ++ codes "\n" ++ capability_lines first.question conditions s
    ++ condition_lines symbols s conditions
stage_between symbols first last conditions s = []

unfoldable pub stage_text : List Symbol → State → List Condition → List ℕ
stage_text symbols s conditions = stage_between symbols (slice_get conditions 0) (slice_get conditions (length conditions - 1)) conditions s

-- ---- the whole text

-- the instruction at PCC, where there is RAM
unfoldable pub instruction_text : List Symbol → State → List ℕ
instruction_text symbols s =
    if is_in_ram s.memory (pc_of s) 4 then labelled_word symbols (value_flag s.scrs.pcc) (pc_of s) (number_at s.memory (pc_of s) 4) else []

unfoldable pub stages_text : List Symbol → State → List ℕ
stages_text symbols s = flat_map (stage_text symbols s) (stages_of s)

abbrev pub running_text : List Symbol → State → List ℕ
running_text symbols s =
    instruction_text symbols s ++ stages_text symbols s ++ codes "effect: " ++ effect_text symbols (step_effect s) ++ codes "\n"

abbrev pub why_unless : List Symbol → Option ℕ → State → List ℕ
why_unless symbols (Some number) s = codes "halted " ++ decimal number ++ codes "\n"
why_unless symbols None s = running_text symbols s

-- what the next step will do, and why; a machine that is halted ignores it
unfoldable pub why_text : List Symbol → State → List ℕ
why_text symbols s = why_unless symbols s.devices.halted s

-- ---- the condition that fails

-- the line of the first condition that is false; where all hold there is none
abbrev pub false_line : List Symbol → State → List Condition → List ℕ
false_line symbols s [] = []
false_line symbols s (c ∷ cs) = if c.holds then false_line symbols s cs else condition_line symbols s c

-- the line of the condition that fails at the next step; where none does there is none, as at an interrupt or an ECALL
unfoldable pub failed_line : List Symbol → State → List ℕ
failed_line symbols s = false_line symbols s (all_conditions (stages_of s))
