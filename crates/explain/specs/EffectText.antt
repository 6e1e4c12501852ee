-- What a step's effect comes to, as one line of text: `ca0 = v:1 a:..`, `store 8 bytes at 0000000080001000: 0000000000000041`,
-- `jump to 0000000080000010`, `trap CHERI exception, length violation at ca0, mcause 000000000000001c, mtval 0000000000000141`.
use Rattle.std.specs.Prelude.{ℕ, ◌*◌, ◌/◌, ◌%◌, ◌^◌, ◌==◌, Bool, true, nat_lt, if◌then◌else◌, List, [], ◌++◌, Option, Some, None, codes}
use Rattle.base.specs.declared.fault.Fault.{Fault}
use Rattle.base.specs.declared.size.Size.{Size}
use Rattle.base.specs.declared.size.Size.TheVariants.{Byte, Half, Word, Double}
use Rattle.base.specs.Size.{bytes_of}
use Rattle.base.specs.Fault.{number_of}
use Rattle.base.specs.declared.cause.Cause.TheVariants as cause
use Rattle.cap_bounds.specs.CapValue.{CapValue}
use Rattle.cap_bounds.specs.SetAddress.{at_address}
use Rattle.asm_names.specs.Registers.{register_name}
use Rattle.asm_names.specs.SpecialNames.{csr_name, scr_name}
use Rattle.texts.specs.Hex.{hex_of}
use Rattle.disassembler.specs.Shown.{name_or}
use Rattle.steps.specs.declared.effect.Effect.{Effect}
use Rattle.steps.specs.declared.effect.Effect.TheVariants.{Trap, Nothing, Write, Unseal, Store, StoreCapability, DeviceLoad, DeviceStore}
use Rattle.steps.specs.declared.effect.Effect.TheVariants.{Jump, Link, Enter, Special, Csr, Return}
use Rattle.steps.specs.declared.effect.Store.{Store as Stored}
use Rattle.symbols.specs.Symbols.{Symbol}
use Rattle.symbols.specs.Labels.{labelled}
use Rattle.asm_names.specs.TrapNames.{cause_name, cheri_cause_name, register_at_fault}
use Rattle.explain.specs.ValueText.{shown_value}

-- ---- traps

-- a cause's name, or nothing where it has none
abbrev pub cause_part : Option (List ℕ) → List ℕ
cause_part None = []
cause_part (Some name) = name ++ codes ", "

-- what a capability forbids and at which register, where both have names
abbrev pub violation_names : Option (List ℕ) → Option (List ℕ) → List ℕ
violation_names None register = []
violation_names (Some what) None = []
violation_names (Some what) (Some register) = what ++ codes " at " ++ register ++ codes ", "

-- the low five bits of a CHERI exception's mtval are what is forbidden, and above them stands the register
abbrev pub violation_part : Fault → List ℕ
violation_part f =
    if f.mcause == number_of cause.Cheri then violation_names (cheri_cause_name (f.mtval % 32)) (register_at_fault (f.mtval / 32)) else []

-- an exception traps; an interrupt, whose mcause has bit 63, is taken
unfoldable pub taken : ℕ → List ℕ
taken mcause = if nat_lt mcause (2 ^ 63) then codes "trap " else codes "take "

-- the names first, then both numbers, each once
abbrev pub trap_entry : Fault → List ℕ
trap_entry f =
    taken f.mcause ++ cause_part (cause_name f.mcause) ++ violation_part f
    ++ codes "mcause " ++ hex_of 16 f.mcause ++ codes ", mtval " ++ hex_of 16 f.mtval

-- ---- registers

-- a general register by its capability name
abbrev pub register_text : ℕ → List ℕ
register_text n = name_or [] (register_name true n)

-- a register's new value
abbrev pub value_part : List ℕ → CapValue → List ℕ
value_part name v = name ++ codes " = " ++ shown_value v

-- A write to register 0 is lost: another text stands for it, or none.
unfoldable pub written_or : List ℕ → ℕ → CapValue → List ℕ
written_or other rd v = if rd == 0 then other else value_part (register_text rd) v

unfoldable pub written_first : ℕ → CapValue → List ℕ
written_first rd v = if rd == 0 then [] else value_part (register_text rd) v ++ codes ", "

-- special registers by their names; none without a name is ever written
abbrev pub shown_special : ℕ → List ℕ
shown_special n = name_or (codes "scr " ++ hex_of 2 n) (scr_name n)

abbrev pub shown_csr : ℕ → List ℕ
shown_csr n = name_or (codes "csr " ++ hex_of 3 n) (csr_name n)

-- ---- memory

abbrev pub shown_size : Size → List ℕ
shown_size Byte = codes "1 byte"
shown_size Half = codes "2 bytes"
shown_size Word = codes "4 bytes"
shown_size Double = codes "8 bytes"

-- the bytes that are stored, as one number, the last byte first
abbrev pub store_part : List Symbol → Stored → List ℕ
store_part symbols w =
    codes "store " ++ shown_size w.size ++ codes " at " ++ labelled symbols w.address ++ codes ": "
    ++ hex_of (2 * bytes_of w.size) w.number

-- ---- all effects

abbrev pub jump_part : List Symbol → ℕ → List ℕ
jump_part symbols target = codes "jump to " ++ labelled symbols target

abbrev pub return_part : Bool → List ℕ
return_part sealed = if sealed then codes "return from trap through a sentry" else codes "return from trap"

-- Registers have the value that an instruction gives them. PCC, where all of it changes, is shown as it becomes; else only its address
-- does. Of a number written to a control and status register it keeps the bits that it has. After an address stands its label.
unfoldable pub effect_text : List Symbol → Effect CapValue → List ℕ
effect_text symbols (Trap fault) = trap_entry fault
effect_text symbols Nothing = codes "nothing"
effect_text symbols (Write w) = written_or (codes "nothing") w.rd w.value
effect_text symbols (Unseal w) = written_or (codes "nothing") w.rd w.value
effect_text symbols (Store w) = store_part symbols w
effect_text symbols (StoreCapability w) = codes "store capability at " ++ labelled symbols w.address ++ codes ": " ++ shown_value w.value
effect_text symbols (DeviceLoad l) = written_or (codes "load") l.rd l.value ++ codes " from device " ++ labelled symbols l.address
effect_text symbols (DeviceStore w) = codes "device " ++ store_part symbols w
effect_text symbols (Jump target) = jump_part symbols target
effect_text symbols (Link l) = written_first l.rd l.link ++ jump_part symbols l.target
effect_text symbols (Enter e) =
    written_first e.rd e.link ++ jump_part symbols e.target ++ codes ", " ++ value_part (codes "pcc") (at_address e.code e.target)
effect_text symbols (Special w) = written_first w.rd w.old ++ value_part (shown_special w.number) w.value
effect_text symbols (Csr w) = written_first w.rd w.old ++ shown_csr w.number ++ codes " = " ++ hex_of 16 w.value
effect_text symbols (Return sealed) = return_part sealed
