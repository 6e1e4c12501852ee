-- What the lines of `why` show, against the state's own fields: a capability under another register's name is refused here, though
-- definition and code show the same.
use Rattle.std.specs.Prelude.{◌≡◌, ℕ, ◌+◌, ◌*◌, ◌%◌, Bool, not, ◌&&◌, ◌==◌, ◌⊎◌, nat_le, if◌then◌else◌, List, [], ◌∷◌, ◌++◌, map}
use Rattle.std.specs.Prelude.{Some, IsSome, find, flat_map, codes, decimal}
use Rattle.std.specs.List.{range_with_len}
use Rattle.base.specs.declared.cause.Cause.TheVariants as cause
use Rattle.base.specs.declared.cause.CheriCause.{CheriCause}
use Rattle.base.specs.declared.cause.CheriCause.TheVariants as forbids
use Rattle.base.specs.declared.size.Size.{Size}
use Rattle.base.specs.Fault.{number_of, cheri_number_of}
use Rattle.cap_bounds.specs.CapValue.{value_base, value_top, value_perms}
use Rattle.cap_checks.specs.declared.question.Condition.{Condition}
use Rattle.cap_checks.specs.declared.question.Question.{Question}
use Rattle.cap_checks.specs.declared.question.Question.TheVariants.{Right, Bounds, Multiple, Ram, RamOrDevice, Instruction, SystemRegister}
use Rattle.asm_names.specs.Registers.{capability_names}
use Rattle.texts.specs.Hex.{hex_of}
use Rattle.disassembler.specs.Shown.{name_or}
use Rattle.bounds_text.specs.Letters.{permission_letters}
use Rattle.symbols.specs.Symbols.{Symbol}
use Rattle.symbols.specs.Labels.{labelled}
use Rattle.steps.specs.declared.effect.Effect.{Effect}
use Rattle.steps.specs.declared.effect.Effect.TheVariants.{Trap}
use Rattle.cap_bounds.specs.CapValue.{CapValue}
use Rattle.steps.specs.State.{State, pc_of}
use Rattle.steps.specs.Step.{step_effect}
use Rattle.asm_names.specs.TrapNames.{cheri_cause_name, cheri_asked_name, register_at_fault}
use Rattle.explain.specs.EffectText as traced
use Rattle.explain.specs.EffectText.{shown_size}
use Rattle.explain.specs.ValueText.{shown_value}
use Rattle.explain.specs.Asked.{stages_of, all_conditions}
use Rattle.text_laws.specs.Says.{held, Each}
use Rattle.explain.specs.WhyText.{register_text, capability_in, capability_line, condition_line, stage_text, stages_text}

-- ---- registers

abbrev pub special_names : List (List ℕ)
special_names = codes "pcc" ∷ codes "ddc" ∷ codes "mtcc" ∷ codes "mtdc" ∷ codes "mscratchc" ∷ codes "mepcc" ∷ []

-- A line of a trace names registers by their numbers, and of a CHERI exception what is forbidden and at which register.
abbrev pub RegistersAreNamedInTraces : Type 0
RegistersAreNamedInTraces =
    (map traced.register_text (range_with_len 0 32) ≡ capability_names)
    × (map traced.shown_special (0 ∷ 1 ∷ 28 ∷ 29 ∷ 30 ∷ 31 ∷ []) ≡ special_names)
    × (
    map traced.shown_csr (0x300 ∷ 0x301 ∷ 0x304 ∷ 0x305 ∷ 0x340 ∷ 0x341 ∷ 0x342 ∷ 0x343 ∷ 0x344 ∷ 0xb00 ∷ 0xb02 ∷ [])
    ≡ codes "mstatus" ∷ codes "misa" ∷ codes "mie" ∷ codes "mtvec" ∷ codes "mscratch" ∷ codes "mepc" ∷ codes "mcause" ∷ codes "mtval"
    ∷ codes "mip" ∷ codes "mcycle" ∷ codes "minstret" ∷ []
    )
    × ((r : ℕ) (what : CheriCause) → IsSome (register_at_fault r)
    → traced.trap_entry (record { mcause = 28; mtval = 32 * r + cheri_number_of what })
    ≡ codes "trap CHERI exception, "
    ++ (name_or [] (cheri_cause_name (cheri_number_of what)) ++ codes " at " ++ register_text r ++ codes ", ")
    ++ codes "mcause " ++ hex_of 16 28 ++ codes ", mtval " ++ hex_of 16 (32 * r + cheri_number_of what))

-- The law: a register is shown by its name, of the general ones as a capability register, and the value that is shown is the one that it
-- holds.
abbrev pub RegistersAreShown : Type 0
RegistersAreShown =
    (map register_text (range_with_len 0 32) ≡ capability_names) × (map register_text (32 ∷ 33 ∷ 60 ∷ 61 ∷ 62 ∷ 63 ∷ []) ≡ special_names)
    × ((s : State) (n : ℕ) → capability_in s n ≡ held s n)
    × ((s : State) (n : ℕ) → capability_line s n ≡ codes "  " ++ register_text n ++ codes " "
    ++ (shown_value (held s n) ++ codes " " ++ permission_letters (value_perms (held s n))) ++ codes "\n")
    × RegistersAreNamedInTraces

-- ---- lines

abbrev pub mark_of : Bool → List ℕ
mark_of holds = if holds then codes "  ok " else codes "  no "

-- a line of bounds shows four numbers, and is marked as they compare
abbrev pub bounds_line : List Symbol → ℕ → ℕ → ℕ → ℕ → ℕ → List ℕ
bounds_line symbols r address size base top =
    mark_of (nat_le base address && nat_le (address + size) top)
    ++ (codes "length of " ++ register_text r
    ++ (codes ": " ++ labelled symbols address ++ codes " + " ++ decimal size ++ codes " in " ++ labelled symbols base
    ++ codes " to " ++ hex_of 17 top))
    ++ codes "\n"

abbrev pub multiple_line : List Symbol → ℕ → ℕ → List ℕ
multiple_line symbols address size =
    mark_of (address % size == 0) ++ (codes "a multiple of " ++ decimal size ++ codes ": " ++ labelled symbols address) ++ codes "\n"

-- the line of each question, `ok` where it holds
abbrev pub line_of : List Symbol → State → Question → Bool → List ℕ
line_of symbols s (Right r what) holds =
    mark_of holds ++ (name_or [] (cheri_asked_name (cheri_number_of what)) ++ codes " of " ++ register_text r) ++ codes "\n"
line_of symbols s (Bounds r address size) holds = bounds_line symbols r address size (value_base (held s r)) (value_top (held s r))
line_of symbols s (Multiple otherwise address size) holds = multiple_line symbols address size
line_of symbols s (Ram otherwise address) holds = mark_of holds ++ (codes "RAM at " ++ labelled symbols address) ++ codes "\n"
line_of symbols s (RamOrDevice otherwise address size) holds =
    mark_of holds ++ (codes "RAM or a device at " ++ labelled symbols address) ++ codes "\n"
line_of symbols s (Instruction word) holds = mark_of holds ++ codes "the word is an instruction" ++ codes "\n"
line_of symbols s (SystemRegister word) holds =
    mark_of holds ++ codes "there is such a register, and it may be written where it is" ++ codes "\n"

abbrev pub LineSays : List Symbol → State → Question → Bool → Type 0
LineSays symbols s q holds = condition_line symbols s (record { question = q; holds = holds }) ≡ line_of symbols s q holds

-- The law: the line of a condition of bounds is `ok` exactly if base <= address and address + size <= top, of the numbers that it shows,
-- and those are the bounds of what the register that it names holds; that of a multiple exactly if the address that it shows is one.
abbrev pub LinesSayWhatIsHeld : Type 0
LinesSayWhatIsHeld = (symbols : List Symbol) (s : State) → Each (LineSays symbols s) (all_conditions (stages_of s))

-- ---- stages

-- a text that begins with another, and one that has another in it
abbrev pub Begins : List ℕ → List ℕ → Type 0
Begins text first = (after : List ℕ) × (text ≡ first ++ after)

abbrev pub Has : List ℕ → List ℕ → Type 0
Has text part = (before : List ℕ) × (after : List ℕ) × (text ≡ before ++ part ++ after)

-- the line of the place that a question is about
abbrev pub place_line : List Symbol → List ℕ → ℕ → List ℕ
place_line symbols what address = what ++ labelled symbols address ++ codes "\n"

abbrev pub sized : Size → List ℕ
sized size = shown_size size ++ codes " at "

-- what the text of a stage shows of each of its questions: which capability, and as its first line where
abbrev pub StageShows : List Symbol → State → List ℕ → Question → Type 0
StageShows symbols s text (Right r forbids.Tag) = Has text (capability_line s r)
StageShows symbols s text (Right r forbids.AccessSystemRegisters) =
    Begins text (place_line symbols (codes "system register at ") (pc_of s) ++ capability_line s 32)
StageShows symbols s text (Right r what) = Unit {0}
StageShows symbols s text (Bounds r address size) =
    (what : List ℕ) × (between : List ℕ) × Begins text (place_line symbols what address ++ between ++ capability_line s r)
StageShows symbols s text (Multiple cause.MisalignedJump address size) =
    Begins text (place_line symbols (codes "jump to ") address) ⊎ Begins text (place_line symbols (codes "invocation of ") address)
StageShows symbols s text (Multiple otherwise address size) = (what : List ℕ) × Begins text (place_line symbols what address)
StageShows symbols s text (Ram cause.FetchAccess address) = Begins text (place_line symbols (codes "fetch at ") address)
StageShows symbols s text (Ram cause.LoadAccess address) = Begins text (place_line symbols (codes "load of a capability at ") address)
StageShows symbols s text (Ram otherwise address) = Begins text (place_line symbols (codes "store of a capability at ") address)
StageShows symbols s text (RamOrDevice cause.LoadAccess address size) =
    Begins text (place_line symbols (codes "load of " ++ sized size) address)
StageShows symbols s text (RamOrDevice otherwise address size) = Begins text (place_line symbols (codes "store of " ++ sized size) address)
StageShows symbols s text (Instruction word) = Begins text (place_line symbols (codes "decoding at ") (pc_of s))
StageShows symbols s text (SystemRegister word) =
    Begins text (place_line symbols (codes "system register at ") (pc_of s) ++ capability_line s 32)

abbrev pub EachStage : (List Condition → Type 0) → List (List Condition) → Type 0
EachStage P [] = Unit {0}
EachStage P (stage ∷ stages) = P stage × EachStage P stages

-- conditions up to the first that is false, and with it
abbrev pub until_false : List Condition → List Condition
until_false [] = []
until_false (c ∷ cs) = c ∷ (if c.holds then until_false cs else [])

-- The law: the text is that of each stage, and each shows where it asks, each capability that it asks, and at its end the line of each
-- condition up to the first false one.
abbrev pub StagesShowWhatTheyAsk : Type 0
StagesShowWhatTheyAsk =
    (symbols : List Symbol) (s : State) → (stages_text symbols s ≡ flat_map (stage_text symbols s) (stages_of s))
    × EachStage (λ stage. Each (λ q holds. StageShows symbols s (stage_text symbols s stage) q) stage
    × ((before : List ℕ) × (stage_text symbols s stage ≡ before ++ flat_map (condition_line symbols s) (until_false stage)))) (stages_of s)

-- ---- the first false condition, and the trap

-- the trap by a condition that is false: a CHERI exception, 28, names the register and the right
abbrev pub trap_by : Question → Effect CapValue
trap_by (Right r what) = Trap (record { mcause = 28; mtval = 32 * r + cheri_number_of what })
trap_by (Bounds r address size) = Trap (record { mcause = 28; mtval = 32 * r + 1 })
trap_by (Multiple otherwise address size) = Trap (record { mcause = number_of otherwise; mtval = address })
trap_by (Ram otherwise address) = Trap (record { mcause = number_of otherwise; mtval = address })
trap_by (RamOrDevice otherwise address size) = Trap (record { mcause = number_of otherwise; mtval = address })
trap_by (Instruction word) = Trap (record { mcause = 2; mtval = word })
trap_by (SystemRegister word) = Trap (record { mcause = 2; mtval = word })

-- The law: where a condition is false, the step is the trap by the first, and the stages' text ends with that condition's line.
abbrev pub TrapsByTheShown : Type 0
TrapsByTheShown =
    (symbols : List Symbol) (s : State) (c : Condition) → find (λ c. not c.holds) (all_conditions (stages_of s)) ≡ Some c
    → (step_effect s ≡ trap_by c.question) × ((before : List ℕ) × (stages_text symbols s ≡ before ++ condition_line symbols s c))
