-- What a line of a trace shows of a step, read off the state after it: a value of another register, or under another name, is refused here,
-- though definition and code show the same. `why` shows the same text of the effect.
use Rattle.std.specs.Prelude.{◌≡◌, ℕ, ◌+◌, ◌*◌, ◌/◌, ◌^◌, ◌==◌, true, false, if◌then◌else◌, bit_and, List, [], ◌++◌, Option, Some}
use Rattle.std.specs.Prelude.{None, codes, decimal}
use Rattle.base.specs.Bits.{bit}
use Rattle.base.specs.Size.{bytes_of}
use Rattle.cap_bounds.specs.CapValue.{CapValue, value_of, value_address, value_flag}
use Rattle.tagged_memory.specs.Memory.{is_in_ram, number_at, word_at, has_tag}
use Rattle.devices.specs.Devices.{effect_of, byte_sent, written, interrupts_of}
use Rattle.special_regs.specs.Interrupts.{pending}
use Rattle.special_regs.specs.Csrs.{bits_at}
use Rattle.special_regs.specs.CsrValues.{csr_value}
use Rattle.special_regs.specs.Mtvec.{mtvec_of}
use Rattle.special_regs.specs.Traps.{is_sentry}
use Rattle.special_regs.specs.Writes.{has_bit}
use Rattle.cap_checks.specs.Question.{first_false}
use Rattle.texts.specs.Hex.{hex_of}
use Rattle.disassembler.specs.Shown.{shown_word}
use Rattle.registers.specs.Registers.{register}
use Rattle.symbols.specs.Symbols.{Symbol}
use Rattle.symbols.specs.Labels.{labelled}
use Rattle.symbols.specs.Sources.{source_of}
use Rattle.steps.specs.declared.effect.CsrWrite.{CsrWrite}
use Rattle.steps.specs.declared.effect.Effect.{Effect}
use Rattle.steps.specs.declared.effect.Effect.TheVariants.{Trap, Nothing, Write, Unseal, Store, StoreCapability, DeviceLoad, DeviceStore}
use Rattle.steps.specs.declared.effect.Effect.TheVariants.{Jump, Link, Enter, Special, Csr, Return}
use Rattle.steps.specs.declared.effect.Store.{Store as Stored}
use Rattle.steps.specs.IsState.{IsState}
use Rattle.steps.specs.State.{State, pc_of}
use Rattle.steps.specs.Step.{fetch_asked, step_effect, stepped, step_sent}
use Rattle.explain.specs.EffectText.{trap_entry, register_text, shown_special, shown_csr, shown_size, return_part}
use Rattle.explain.specs.TraceLine.{step_word, trace_line}
use Rattle.explain.specs.ValueText.{shown_value}
use Rattle.text_laws.specs.Says.{held}
use Rattle.explain.specs.WhyText.{instruction_text, stages_text, why_text}

-- ---- parts, of the state t after the step

-- a general register by its name, and what it holds
abbrev pub register_now : ℕ → State → List ℕ
register_now n t = register_text n ++ codes " = " ++ shown_value (register t.registers n)

-- register 0 is never written: another text stands for it, or none
abbrev pub register_or : List ℕ → ℕ → State → List ℕ
register_or other n t = if n == 0 then other else register_now n t

abbrev pub register_first : ℕ → State → List ℕ
register_first n t = if n == 0 then [] else register_now n t ++ codes ", "

-- PCC's address
abbrev pub jump_now : List Symbol → State → List ℕ
jump_now symbols t = codes "jump to " ++ labelled symbols (pc_of t)

-- the bytes in RAM
abbrev pub bytes_now : List Symbol → Stored → State → List ℕ
bytes_now symbols w t =
    codes "store " ++ shown_size w.size ++ codes " at " ++ labelled symbols w.address ++ codes ": "
    ++ hex_of (2 * bytes_of w.size) (number_at t.memory w.address (bytes_of w.size))

-- the granule in RAM, with its tag
abbrev pub granule_now : List Symbol → ℕ → State → List ℕ
granule_now symbols address t =
    codes "store capability at " ++ labelled symbols address ++ codes ": "
    ++ shown_value (value_of (word_at t.memory address) (has_tag t.memory address))

-- ---- the whole text

-- What devices are given is not read from them again, nor is a number that a control and status register is given, of which it keeps what
-- `kept` says.
abbrev pub text_after : List Symbol → Effect CapValue → State → List ℕ
text_after symbols (Trap fault) t = trap_entry (record { mcause = t.csrs.mcause; mtval = t.csrs.mtval })
text_after symbols Nothing t = codes "nothing"
text_after symbols (Write w) t = register_or (codes "nothing") w.rd t
text_after symbols (Unseal w) t = register_or (codes "nothing") w.rd t
text_after symbols (Store w) t = bytes_now symbols w t
text_after symbols (StoreCapability w) t = granule_now symbols w.address t
text_after symbols (DeviceLoad l) t = register_or (codes "load") l.rd t ++ codes " from device " ++ labelled symbols l.address
text_after symbols (DeviceStore w) t =
    codes "device "
    ++ (codes "store " ++ shown_size w.size ++ codes " at " ++ labelled symbols w.address ++ codes ": "
    ++ hex_of (2 * bytes_of w.size) w.number)
text_after symbols (Jump target) t = jump_now symbols t
text_after symbols (Link l) t = register_first l.rd t ++ jump_now symbols t
text_after symbols (Enter e) t = register_first e.rd t ++ jump_now symbols t ++ codes ", " ++ (codes "pcc = " ++ shown_value t.scrs.pcc)
text_after symbols (Special w) t = register_first w.rd t ++ (shown_special w.number ++ codes " = " ++ shown_value (held t (32 + w.number)))
text_after symbols (Csr w) t = register_first w.rd t ++ shown_csr w.number ++ codes " = " ++ hex_of 16 w.value
text_after symbols (Return sealed) t = return_part (is_sentry t.scrs.mepcc)

-- The law: what a line of a trace and `why` show of a step's effect is what the state after it has.
abbrev pub ShowsTheStateAfter : Type 0
ShowsTheStateAfter =
    (symbols : List Symbol) (s : State) → IsState s → s.devices.halted ≡ None
    → (
    (number : ℕ)
    → trace_line symbols number s
    ≡ decimal number ++ codes " " ++ labelled symbols (value_address s.scrs.pcc) ++ codes " " ++ step_word s ++ codes ": "
    ++ text_after symbols (step_effect s) (stepped s) ++ source_of symbols (value_address s.scrs.pcc) ++ codes "\n"
    )
    × (
    why_text symbols s
    ≡ instruction_text symbols s ++ stages_text symbols s ++ codes "effect: " ++ text_after symbols (step_effect s) (stepped s)
    ++ codes "\n"
    )

-- ---- the word

-- the word in RAM at PCC's address, with its text in PCC's mode
abbrev pub word_shown : State → List ℕ
word_shown s =
    let word : ℕ = number_at s.memory (value_address s.scrs.pcc) 4 in
    hex_of 8 word ++ codes " " ++ shown_word (value_flag s.scrs.pcc) word

-- The law: `why` shows the word at PCC's address where that lies in RAM, and a line of a trace shows the word that is fetched.
abbrev pub ShowsTheWord : Type 0
ShowsTheWord =
    (symbols : List Symbol) (s : State)
    → (
    is_in_ram s.memory (value_address s.scrs.pcc) 4 ≡ true
    → instruction_text symbols s
    ≡ labelled symbols (value_address s.scrs.pcc) ++ codes " " ++ word_shown s ++ source_of symbols (value_address s.scrs.pcc)
    ++ codes "\n"
    )
    × (pending s.csrs (interrupts_of s.devices) ≡ None → first_false (fetch_asked s) ≡ None → step_word s ≡ word_shown s)

-- ---- control and status registers

-- what a register keeps of a number by its line in the listing: the bits that a write sets, and all of it where none are said
abbrev pub bits_kept : Option ℕ → ℕ → ℕ
bits_kept (Some bits) value = bit_and value bits
bits_kept None value = value

-- what a control and status register holds after a write of a number in a state: that, but for mstatus, misa, mie, mtvec, mepc, mip
abbrev pub kept : ℕ → ℕ → State → ℕ
kept n value s =
    if n == 0x300 then 0x1800 + bit (has_bit value 7) * 2 ^ 7 + bit (has_bit value 3) * 2 ^ 3
    else (if n == 0x301 then 0x8000_0000_0000_1100
    else (if n == 0x304 then bit_and value 0x880
    else (if n == 0x305 then mtvec_of value
    else (if n == 0x341 then value / 4 * 4
    else (if n == 0x344 then interrupts_of s.devices
    else bits_kept (bits_at n) value)))))

-- The law: after a write of a control and status register it holds what it keeps of the number that is shown.
abbrev pub CsrsKeepWhatIsShown : Type 0
CsrsKeepWhatIsShown =
    (s : State) → IsState s → s.devices.halted ≡ None → (w : CsrWrite CapValue) → step_effect s ≡ Csr w
    → csr_value (stepped s).csrs (stepped s).scrs (interrupts_of (stepped s).devices) w.number ≡ Some (kept w.number w.value s)

-- The law: the devices are given the number that is shown, and the byte that is sent is its lowest, if one is sent.
abbrev pub DevicesAreGivenWhatIsShown : Type 0
DevicesAreGivenWhatIsShown =
    (s : State) → s.devices.halted ≡ None → (w : Stored) → step_effect s ≡ DeviceStore w
    → ((stepped s).devices ≡ written s.devices w.address w.number) × (step_sent s ≡ byte_sent (effect_of w.address w.number))
