-- What a step looks at, kind by kind: its effect depends on nothing else of the state.
use Rattle.std.specs.Prelude.{◌≡◌, true, length, Some, None}
use Rattle.base.specs.Size.{bytes_of}
use Rattle.cap_checks.specs.FirstFault.{access_fault, fetch_fault}
use Rattle.cap_checks.specs.declared.access.Access.TheVariants as access
use Rattle.cap_rights.specs.Permission.{permits}
use Rattle.cap_rights.specs.declared.permission.Permission.TheVariants as permission
use Rattle.tagged_memory.specs.Memory.{is_in_ram, number_at, word_at, has_tag}
use Rattle.special_regs.specs.Refusals.{has_system_access}
use Rattle.isa_rows.specs.declared.operands.Insn.{Insn}
use Rattle.isa_rows.specs.declared.kinds.Kind.TheVariants as kind
use Rattle.isa_rows.specs.Kind.{kind_of}
use Rattle.isa_rows.specs.Decoded.{insn_of}
use Rattle.steps.specs.Accesses.{size_of}
use Rattle.steps.specs.MemoryRows.{place_of, authority_of, authority_number_of}
use Rattle.steps.specs.State.{State, pc_of}
use Rattle.authority.specs.Authority.{SameScrs}

-- the instruction is the next one: PCC passes the checks of the fetch, and RAM holds its word there
pub record IsNext (s : State) (insn : Insn) : Type 0 where
  pub passes : fetch_fault s.scrs.pcc ≡ None
  pub inside : is_in_ram s.memory (pc_of s) 4 ≡ true
  pub read : insn_of (number_at s.memory (pc_of s) 4) ≡ Some insn

-- the next instruction loads data from RAM: its authority allows it
pub record Loads (s : State) (insn : Insn) : Type 0 where
  pub next : IsNext s insn
  pub row : kind_of insn.row ≡ kind.Load
  pub allowed : access_fault (authority_of insn s) (authority_number_of insn s) (access.Load (size_of insn.row)) (place_of insn s) ≡ None
  pub inside : is_in_ram s.memory (place_of insn s) (bytes_of (size_of insn.row)) ≡ true

-- the next instruction loads a capability from RAM: its authority allows it
pub record LoadsCapability (s : State) (insn : Insn) : Type 0 where
  pub next : IsNext s insn
  pub row : kind_of insn.row ≡ kind.LoadCapability
  pub allowed : access_fault (authority_of insn s) (authority_number_of insn s) access.LoadCapability (place_of insn s) ≡ None
  pub inside : is_in_ram s.memory (place_of insn s) 16 ≡ true

-- The two states show the same where a step from the first looks.
pub record SameLooks (s t : State) : Type 0 where
  -- the 32 registers, PCC and DDC
  pub registers : t.registers ≡ s.registers
  pub pcc : t.scrs.pcc ≡ s.scrs.pcc
  pub ddc : t.scrs.ddc ≡ s.scrs.ddc
  -- the control and status registers that are stored, and the devices
  pub csrs : t.csrs ≡ s.csrs
  pub devices : t.devices ≡ s.devices
  -- how much RAM there is
  pub size : length t.memory.bytes ≡ length s.memory.bytes
  -- the word that is fetched
  pub word :
      fetch_fault s.scrs.pcc ≡ None → is_in_ram s.memory (pc_of s) 4 ≡ true
      → number_at t.memory (pc_of s) 4 ≡ number_at s.memory (pc_of s) 4
  -- the bytes that a load gives
  pub number :
      (insn : Insn) → Loads s insn
      → number_at t.memory (place_of insn s) (bytes_of (size_of insn.row))
      ≡ number_at s.memory (place_of insn s) (bytes_of (size_of insn.row))
  -- the word that a load of a capability gives
  pub granule : (insn : Insn) → LoadsCapability s insn → word_at t.memory (place_of insn s) ≡ word_at s.memory (place_of insn s)
  -- its tag, where the authority has Load_Capability
  pub tag :
      (insn : Insn) → LoadsCapability s insn → permits (authority_of insn s) permission.LoadCapability ≡ true
      → has_tag t.memory (place_of insn s) ≡ has_tag s.memory (place_of insn s)
  -- the other four special registers, where PCC has Access_System_Registers
  pub scrs : fetch_fault s.scrs.pcc ≡ None → has_system_access s.scrs ≡ true → SameScrs s.scrs t.scrs
