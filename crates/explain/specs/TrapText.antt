-- What a trap left in mcause and mtval, in words: `load access fault, mtval 0000000000001000`, and of a CHERI exception
-- `CHERI exception, length violation at ca0`.
use Rattle.std.specs.Prelude.{ℕ, ◌/◌, ◌%◌, ◌==◌, if◌then◌else◌, List, ◌++◌, Option, Some, None, codes}
use Rattle.base.specs.Fault.{number_of}
use Rattle.base.specs.declared.cause.Cause.TheVariants as cause
use Rattle.texts.specs.Hex.{hex_of}
use Rattle.asm_names.specs.TrapNames.{cause_name, cheri_cause_name, register_at_fault}

-- a cause by its name, or else by its number
abbrev pub name_or_number : Option (List ℕ) → ℕ → List ℕ
name_or_number (Some name) mcause = name
name_or_number None mcause = codes "mcause " ++ hex_of 16 mcause

abbrev pub cause_text : ℕ → List ℕ
cause_text mcause = name_or_number (cause_name mcause) mcause

abbrev pub number_text : ℕ → List ℕ
number_text mtval = codes "mtval " ++ hex_of 16 mtval

-- what is forbidden, and at which register; or the number, where either has no name
abbrev pub violation_or_number : Option (List ℕ) → Option (List ℕ) → ℕ → List ℕ
violation_or_number (Some cause) (Some register) mtval = cause ++ codes " at " ++ register
violation_or_number (Some cause) None mtval = number_text mtval
violation_or_number None register mtval = number_text mtval

-- mtval of a CHERI exception: its low five bits are what is forbidden, and above them stands the register
abbrev pub violation_text : ℕ → List ℕ
violation_text mtval = violation_or_number (cheri_cause_name (mtval % 32)) (register_at_fault (mtval / 32)) mtval

unfoldable pub trap_text : ℕ → ℕ → List ℕ
trap_text mcause mtval =
    cause_text mcause ++ codes ", " ++ (if mcause == number_of cause.Cheri then violation_text mtval else number_text mtval)
