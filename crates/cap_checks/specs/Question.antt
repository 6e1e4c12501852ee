-- Conditions: what each asks, and the fault where it is false. (RISC-V privileged manual, mcause; UCAM-CL-TR-987, CHERI exception)
use Rattle.std.specs.Prelude.{◌<◌, Bool, List, Option, map}
use Rattle.base.specs.declared.fault.Fault.{Fault}
use Rattle.base.specs.declared.cause.Cause.TheVariants as cause
use Rattle.base.specs.declared.cause.CheriCause.TheVariants as forbids
use Rattle.base.specs.Fault.{fault, cheri}
use Rattle.base.specs.FirstFault.{first_fault}
use Rattle.cap_checks.specs.declared.question.Question.{Question}
use Rattle.cap_checks.specs.declared.question.Question.TheVariants.{Right, Bounds, Multiple, Ram, RamOrDevice, Instruction, SystemRegister}
use Rattle.cap_checks.specs.declared.question.Condition.{Condition}

-- a question, and whether its answer is yes
abbrev pub asks : Question → Bool → Condition
asks question holds = record { question = question; holds = holds }

-- the fault where the answer is no
abbrev pub fault_of : Question → Fault
fault_of (Right register what) = cheri register what
fault_of (Bounds register address size) = cheri register forbids.Length
fault_of (Multiple otherwise address size) = fault otherwise address
fault_of (Ram otherwise address) = fault otherwise address
fault_of (RamOrDevice otherwise address size) = fault otherwise address
fault_of (Instruction word) = fault cause.IllegalInstruction word
fault_of (SystemRegister word) = fault cause.IllegalInstruction word

-- the register that a question names, if it names one, exists
abbrev pub HasRegister : Question → Type 0
HasRegister (Right register what) = register < 64
HasRegister (Bounds register address size) = register < 64
HasRegister _ = Unit {0}

-- the truth of each condition, with its fault
abbrev pub judged : List Condition → List (Bool × Fault)
judged conditions = map (λ c. (c.holds, fault_of c.question)) conditions

-- the fault of the first condition that is false
abbrev pub first_false : List Condition → Option Fault
first_false conditions = first_fault (judged conditions)
