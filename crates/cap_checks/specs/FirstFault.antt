-- The ordered lists of conditions of each check. The fault is that of the first condition that is false.
-- (UCAM-CL-TR-987, CHERI-RISC-V memory access and jump checks; the order is this profile's.)
use Rattle.std.specs.Prelude.{ℕ, ◌+◌, ◌*◌, ◌/◌, ◌%◌, ◌^◌, Bool, not, ◌&&◌, ◌||◌, ◌==◌, nat_le, if◌then◌else◌, List, [], ◌∷◌, ◌++◌, Option}
use Rattle.base.specs.ObjectType.{sentry_type}
use Rattle.cap_bounds.specs.CapValue.{CapValue, is_tagged, is_sealed, value_base, value_top, value_address, value_otype}
use Rattle.cap_rights.specs.Permission.{permits}
use Rattle.cap_rights.specs.declared.permission.Permission.TheVariants as permission
use Rattle.base.specs.ObjectType.{is_reserved}
use Rattle.cap_checks.specs.declared.access.Access.{Access}
use Rattle.base.specs.declared.fault.Fault.{Fault}
use Rattle.cap_checks.specs.Access.{width_of, needed, lacking, stores_capability, stores_local, misaligned}
use Rattle.base.specs.Registers.{pcc_register}
use Rattle.base.specs.declared.cause.Cause.{Cause}
use Rattle.base.specs.declared.cause.Cause.TheVariants as cause
use Rattle.base.specs.declared.cause.CheriCause.TheVariants as forbids
use Rattle.cap_checks.specs.declared.question.Question.TheVariants.{Right, Bounds, Multiple}
use Rattle.cap_checks.specs.declared.question.Condition.{Condition}
use Rattle.cap_checks.specs.Question.{asks, first_false}

-- the `size` bytes from an address lie in the value's bounds, in whole numbers
unfoldable pub holds : CapValue → ℕ → ℕ → Bool
holds v address size = nat_le (value_base v) address && nat_le (address + size) (value_top v)

-- so many bytes from an address lie in the bounds of the value in a register
abbrev pub within : ℕ → CapValue → ℕ → ℕ → Condition
within register v address size = asks (Bounds register address size) (holds v address size)

-- an address is a multiple of so many bytes, else there is an exception of this cause
abbrev pub aligned : Cause → ℕ → ℕ → Condition
aligned otherwise address size = asks (Multiple otherwise address size) (address % size == 0)

-- a condition that is asked for in some cases alone
abbrev pub asked_if : Bool → Condition → List Condition
asked_if is_asked c = if is_asked then c ∷ [] else []

-- An access of memory through an authority, which a register holds.
abbrev pub access_checks : CapValue → ℕ → Access → ℕ → List Condition
access_checks authority register access address =
    asks (Right register forbids.Tag) (is_tagged authority)
    ∷ asks (Right register forbids.Seal) (not (is_sealed authority))
    ∷ asks (Right register (lacking access)) (permits authority (needed access))
    ∷ (
    asked_if (stores_capability access) (asks (Right register forbids.StoreCapability) (permits authority permission.StoreCapability))
    ++ (
    asked_if (stores_local access) (asks (Right register forbids.StoreLocalCapability) (permits authority permission.StoreLocalCapability))
    ++ within register authority address (width_of access) ∷ aligned (misaligned access) address (width_of access) ∷ []
    )
    )

unfoldable pub access_fault : CapValue → ℕ → Access → ℕ → Option Fault
access_fault authority register access address = first_false (access_checks authority register access address)

-- The fetch of the instruction at PCC's address, which is a multiple of 4.
abbrev pub fetch_checks : CapValue → List Condition
fetch_checks pcc =
    asks (Right pcc_register forbids.Tag) (is_tagged pcc)
    ∷ asks (Right pcc_register forbids.Seal) (not (is_sealed pcc))
    ∷ asks (Right pcc_register forbids.Execute) (permits pcc permission.Execute)
    ∷ within pcc_register pcc (value_address pcc) 4
    ∷ []

unfoldable pub fetch_fault : CapValue → Option Fault
fetch_fault pcc = first_false (fetch_checks pcc)

-- where a jump by an offset goes: bit 0 is cleared
unfoldable pub jump_target : ℕ → ℕ → ℕ
jump_target address offset = (address + offset) % 2 ^ 64 / 2 * 2

-- A jump within PCC: a branch that is taken, JAL, and JALR in integer mode.
abbrev pub target_checks : CapValue → ℕ → List Condition
target_checks pcc target =
    within pcc_register pcc target 4
    ∷ aligned cause.MisalignedJump target 4
    ∷ []

unfoldable pub target_fault : CapValue → ℕ → Option Fault
target_fault pcc target = first_false (target_checks pcc target)

-- a sealed value is jumped to only if it is a sentry, and at no offset
abbrev pub is_entered_sealed : CapValue → ℕ → Bool
is_entered_sealed v offset = (value_otype v == sentry_type) && (offset == 0)

-- A jump to a capability that a register holds: JALR in capability mode, and JALR.CAP.
abbrev pub jump_checks : CapValue → ℕ → ℕ → List Condition
jump_checks v register offset =
    asks (Right register forbids.Tag) (is_tagged v)
    ∷ asks (Right register forbids.Seal) (not (is_sealed v) || is_entered_sealed v offset)
    ∷ asks (Right register forbids.Execute) (permits v permission.Execute)
    ∷ within register v (jump_target (value_address v) offset) 4
    ∷ aligned cause.MisalignedJump (jump_target (value_address v) offset) 4
    ∷ []

unfoldable pub jump_fault : CapValue → ℕ → ℕ → Option Fault
jump_fault v register offset = first_false (jump_checks v register offset)

-- where an invocation goes: the code's address with bit 0 cleared
abbrev pub invoke_target : CapValue → ℕ
invoke_target code = jump_target (value_address code) 0

-- CInvoke of a pair, code and data, which two registers hold.
abbrev pub invoke_checks : CapValue → ℕ → CapValue → ℕ → List Condition
invoke_checks code code_register datum data_register =
    asks (Right code_register forbids.Tag) (is_tagged code)
    ∷ asks (Right data_register forbids.Tag) (is_tagged datum)
    ∷ asks (Right code_register forbids.Seal) (not (is_reserved (value_otype code)))
    ∷ asks (Right data_register forbids.Seal) (not (is_reserved (value_otype datum)))
    ∷ asks (Right code_register forbids.Type) (value_otype code == value_otype datum)
    ∷ asks (Right code_register forbids.CInvoke) (permits code permission.CInvoke)
    ∷ asks (Right data_register forbids.CInvoke) (permits datum permission.CInvoke)
    ∷ asks (Right code_register forbids.Execute) (permits code permission.Execute)
    ∷ asks (Right data_register forbids.Execute) (not (permits datum permission.Execute))
    ∷ within code_register code (invoke_target code) 4
    ∷ aligned cause.MisalignedJump (invoke_target code) 4
    ∷ []

unfoldable pub invoke_fault : CapValue → ℕ → CapValue → ℕ → Option Fault
invoke_fault code code_register datum data_register = first_false (invoke_checks code code_register datum data_register)
