-- What the truth of each condition of a step says, read off the state's own fields, and not through the definitions of the checks: a wrong
-- check is refused here, though the code makes the same.
use Rattle.std.specs.Prelude.{◌≡◌, ℕ, ◌+◌, ◌*◌, ◌/◌, ◌%◌, ◌^◌, Bool, not, ◌&&◌, ◌||◌, ◌==◌, ◌⊎◌, nat_lt, nat_le, if◌then◌else◌}
use Rattle.std.specs.Prelude.{List, [], ◌∷◌, Option, Some, None, is_some, is_none}
use Rattle.base.specs.declared.cause.Cause.TheVariants as cause
use Rattle.base.specs.declared.cause.CheriCause.TheVariants as forbids
use Rattle.base.specs.ObjectType.{sentry_type, is_reserved}
use Rattle.base.specs.Registers.{is_csr, is_scr}
use Rattle.base.specs.Size.{bytes_of}
use Rattle.cap_bounds.specs.CapValue.{CapValue, integer, is_tagged, is_sealed, value_base, value_top, value_address, value_flag}
use Rattle.cap_bounds.specs.CapValue.{value_otype}
use Rattle.cap_rights.specs.Permission.{permits}
use Rattle.cap_rights.specs.declared.permission.Permission.TheVariants as permission
use Rattle.cap_checks.specs.declared.question.Condition.{Condition}
use Rattle.cap_checks.specs.declared.question.Question.{Question}
use Rattle.cap_checks.specs.declared.question.Question.TheVariants.{Right, Bounds, Multiple, Ram, RamOrDevice, Instruction, SystemRegister}
use Rattle.tagged_memory.specs.Memory.{is_in_ram, number_at}
use Rattle.devices.specs.Devices.{read_fault, write_fault}
use Rattle.special_regs.specs.Refusals.{is_read_only}
use Rattle.isa_rows.specs.declared.operands.Insn.{Insn}
use Rattle.isa_rows.specs.declared.kinds.Kind.{Kind}
use Rattle.isa_rows.specs.declared.kinds.Kind.TheVariants as kind
use Rattle.isa_rows.specs.Kind.{kind_of}
use Rattle.isa_rows.specs.Decoded.{insn_of}
use Rattle.registers.specs.Registers.{register}
use Rattle.steps.specs.Accesses.{size_of, through_rs1}
use Rattle.steps.specs.State.{State, pc_of}
use Rattle.steps.specs.SystemRows.{csr_writes}
use Rattle.explain.specs.Asked.{stages_of}

-- ---- registers, as mtval counts them (UCAM-CL-TR-987, CHERI exception): 0 to 31 general, from 32 on special

abbrev pub held : State → ℕ → CapValue
held s n =
    if nat_lt n 32 then register s.registers n
    else (if n == 32 then s.scrs.pcc
    else (if n == 33 then s.scrs.ddc
    else (if n == 60 then s.scrs.mtcc
    else (if n == 61 then s.scrs.mtdc
    else (if n == 62 then s.scrs.mscratchc
    else (if n == 63 then s.scrs.mepcc
    else integer 0))))))

-- ---- what the truth of each condition says

-- so many bytes from an address lie in a capability's bounds
abbrev pub lies_in : CapValue → ℕ → ℕ → Bool
lies_in v address size = nat_le (value_base v) address && nat_le (address + size) (value_top v)

-- the word at PCC
abbrev pub word_here : State → ℕ
word_here s = number_at s.memory (pc_of s) 4

-- a question of the fetch or of the decoding: of PCC at its own address, and of the word there
abbrev pub FetchSays : State → Question → Bool → Type 0
FetchSays s (Right r forbids.Tag) holds = (r ≡ 32) × (holds ≡ is_tagged s.scrs.pcc)
FetchSays s (Right r forbids.Seal) holds = (r ≡ 32) × (holds ≡ not (is_sealed s.scrs.pcc))
FetchSays s (Right r forbids.Execute) holds = (r ≡ 32) × (holds ≡ permits s.scrs.pcc permission.Execute)
FetchSays s (Bounds r address size) holds = (r ≡ 32) × (address ≡ pc_of s) × (size ≡ 4) × (holds ≡ lies_in s.scrs.pcc address size)
FetchSays s (Ram cause.FetchAccess address) holds = (address ≡ pc_of s) × (holds ≡ is_in_ram s.memory address 4)
FetchSays s (Instruction word) holds = (word ≡ word_here s) × (holds ≡ is_some (insn_of word))
FetchSays s _ holds = ⊥

-- Whether a capability's seal lets it be used: a jump to a capability enters a sentry at no offset, and an invocation opens what has a type
-- of software's.
abbrev pub seal_lets : Kind → Insn → CapValue → Bool
seal_lets kind.Jalr i v = not (is_sealed v) || ((value_otype v == sentry_type) && (i.imm == 0))
seal_lets kind.JalrCap i v = not (is_sealed v) || ((value_otype v == sentry_type) && (i.imm == 0))
seal_lets kind.Invoke i v = not (is_reserved (value_otype v))
seal_lets _ i v = not (is_sealed v)

-- of an invocation the code must be code, and the data must not
abbrev pub ExecuteSays : State → Kind → Insn → ℕ → Bool → Type 0
ExecuteSays s kind.Invoke i r holds =
    ((r ≡ i.rs1) × (holds ≡ permits (held s r) permission.Execute)) ⊎ ((r ≡ i.rs2) × (holds ≡ not (permits (held s r) permission.Execute)))
ExecuteSays s _ i r holds = holds ≡ permits (held s r) permission.Execute

-- PCC's permission; to use PCC and DDC themselves, the special registers below 28, none is needed
abbrev pub AccessSays : State → Kind → Insn → ℕ → Bool → Type 0
AccessSays s kind.Csr i r holds = (r ≡ 32) × (holds ≡ permits s.scrs.pcc permission.AccessSystemRegisters)
AccessSays s kind.Mret i r holds = (r ≡ 32) × (holds ≡ permits s.scrs.pcc permission.AccessSystemRegisters)
AccessSays s kind.SpecialRw i r holds =
    (r ≡ 32 + i.rs2) × (holds ≡ (not (nat_le 28 i.rs2) || permits s.scrs.pcc permission.AccessSystemRegisters))
AccessSays s _ i r holds = ⊥

-- there is such a register, and none that is only read is written: register 0 as the source of a special register doesn't write
abbrev pub RegisterSays : Kind → Insn → Bool → Type 0
RegisterSays kind.Csr i holds =
    holds ≡ (is_csr (i.imm % 2 ^ 12) && not (csr_writes i.row i.rs1 && is_read_only (i.imm % 2 ^ 12)))
RegisterSays kind.SpecialRw i holds = holds ≡ (is_scr i.rs2 && not (not (i.rs1 == 0) && (i.rs2 == 0)))
RegisterSays _ i holds = ⊥

-- Where an instruction of a kind asks: an access at the number in rs1 and the immediate, a jump at its target, whose bit 0 is cleared; for
-- how many bytes; and through the capability in which register.
abbrev pub asked_at : Kind → Insn → State → ℕ
asked_at kind.Branch i s = (pc_of s + i.imm) % 2 ^ 64 / 2 * 2
asked_at kind.Jal i s = (pc_of s + i.imm) % 2 ^ 64 / 2 * 2
asked_at kind.Jalr i s = (value_address (register s.registers i.rs1) + i.imm) % 2 ^ 64 / 2 * 2
asked_at kind.JalrCap i s = (value_address (register s.registers i.rs1) + i.imm) % 2 ^ 64 / 2 * 2
asked_at kind.Invoke i s = value_address (register s.registers i.rs1) % 2 ^ 64 / 2 * 2
asked_at _ i s = (value_address (register s.registers i.rs1) + i.imm) % 2 ^ 64

abbrev pub asked_bytes : Kind → Insn → ℕ
asked_bytes kind.Load i = bytes_of (size_of i.row)
asked_bytes kind.Store i = bytes_of (size_of i.row)
asked_bytes kind.LoadCapability i = 16
asked_bytes kind.StoreCapability i = 16
asked_bytes _ i = 4

abbrev pub asked_through : Kind → Insn → State → ℕ
asked_through kind.Branch i s = 32
asked_through kind.Jal i s = 32
asked_through kind.Jalr i s = if value_flag s.scrs.pcc then i.rs1 else 32
asked_through kind.JalrCap i s = i.rs1
asked_through kind.Invoke i s = i.rs1
asked_through _ i s = if through_rs1 i.row (value_flag s.scrs.pcc) then i.rs1 else 33

-- a question of an instruction of a kind: of what the register that it names holds, and of the place that it names
abbrev pub InsnSays : State → Kind → Insn → Question → Bool → Type 0
InsnSays s k i (Right r forbids.Tag) holds = holds ≡ is_tagged (held s r)
InsnSays s k i (Right r forbids.Seal) holds = holds ≡ seal_lets k i (held s r)
InsnSays s k i (Right r forbids.Type) holds =
    (k ≡ kind.Invoke) × (r ≡ i.rs1) × (holds ≡ (value_otype (held s r) == value_otype (held s i.rs2)))
InsnSays s k i (Right r forbids.Execute) holds = ExecuteSays s k i r holds
InsnSays s k i (Right r forbids.Load) holds = holds ≡ permits (held s r) permission.Load
InsnSays s k i (Right r forbids.Store) holds = holds ≡ permits (held s r) permission.Store
InsnSays s k i (Right r forbids.StoreCapability) holds = holds ≡ permits (held s r) permission.StoreCapability
InsnSays s k i (Right r forbids.StoreLocalCapability) holds = holds ≡ permits (held s r) permission.StoreLocalCapability
InsnSays s k i (Right r forbids.CInvoke) holds = holds ≡ permits (held s r) permission.CInvoke
InsnSays s k i (Right r forbids.AccessSystemRegisters) holds = AccessSays s k i r holds
InsnSays s k i (Right r forbids.Length) holds = ⊥
InsnSays s k i (Bounds r address size) holds =
    (r ≡ asked_through k i s) × (address ≡ asked_at k i s) × (size ≡ asked_bytes k i) × (holds ≡ lies_in (held s r) address size)
InsnSays s k i (Multiple otherwise address size) holds =
    (address ≡ asked_at k i s) × (size ≡ asked_bytes k i) × (holds ≡ (address % size == 0))
InsnSays s k i (Ram otherwise address) holds = (address ≡ asked_at k i s) × (holds ≡ is_in_ram s.memory address 16)
InsnSays s k i (RamOrDevice cause.LoadAccess address size) holds =
    (address ≡ asked_at k i s) × (bytes_of size ≡ asked_bytes k i)
    × (holds ≡ (is_in_ram s.memory address (bytes_of size) || is_none (read_fault address (bytes_of size))))
InsnSays s k i (RamOrDevice cause.StoreAccess address size) holds =
    (address ≡ asked_at k i s) × (bytes_of size ≡ asked_bytes k i)
    × (holds ≡ (is_in_ram s.memory address (bytes_of size) || is_none (write_fault address (bytes_of size))))
InsnSays s k i (SystemRegister word) holds = (word ≡ word_here s) × RegisterSays k i holds
InsnSays s k i _ holds = ⊥

-- each condition of a list says this
abbrev pub Each : (Question → Bool → Type 0) → List Condition → Type 0
Each P [] = Unit {0}
Each P (c ∷ cs) = P c.question c.holds × Each P cs

-- the third stage is the instruction's, where the word is one
abbrev pub InsnStageSays : Option Insn → State → List (List Condition) → Type 0
InsnStageSays (Some i) s (stage ∷ []) = Each (InsnSays s (kind_of i.row) i) stage
InsnStageSays None s [] = Unit {0}
InsnStageSays found s stages = ⊥

-- the first stage is the fetch's, and the second the decoding's
abbrev pub StagesSay : State → List (List Condition) → Type 0
StagesSay s [] = Unit {0}
StagesSay s (fetch ∷ []) = Each (FetchSays s) fetch
StagesSay s (fetch ∷ decoding ∷ stages) =
    Each (FetchSays s) fetch × Each (FetchSays s) decoding × InsnStageSays (insn_of (word_here s)) s stages

-- The law: every condition of every stage is true exactly if what it asks is so: of the capability that the register which it names holds,
-- at the instruction's place and of so many bytes as it moves.
abbrev pub ConditionsSayWhatIsAsked : Type 0
ConditionsSayWhatIsAsked = (s : State) → StagesSay s (stages_of s)
