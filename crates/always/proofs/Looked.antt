-- Of the registers an instruction's effect is a function of two: one line a kind of row.
use Rattle.std.proofs.Common.{◌≡◌, ℕ, List, refl, ap, ap₂, cond}
use Rattle.cap_bounds.specs.CapValue.{CapValue, value_address, integer}
use Rattle.isa_rows.specs.declared.formats.Format.{Format}
use Rattle.isa_rows.specs.declared.formats.Format.TheVariants as format
use Rattle.isa_rows.specs.declared.kinds.Kind.{Kind}
use Rattle.isa_rows.specs.declared.kinds.Kind.TheVariants as kind
use Rattle.isa_rows.specs.declared.operands.Insn.{Insn}
use Rattle.isa_rows.specs.declared.rows.Row.{Row}
use Rattle.isa_rows.specs.declared.rows.Row.TheVariants.{Csrrwi, Csrrsi, Csrrci}
use Rattle.isa_rows.specs.Line.{line_of}
use Rattle.alu.specs.Integer.{int_result}
use Rattle.registers.specs.Registers.{register}
use Rattle.steps.specs.declared.effect.Effect.TheVariants.{Csr, Write}
use Rattle.steps.specs.ComputeRows.{second_of, integer_written, integer_effect, mul_div_effect, capability_effect, auipc_effect}
use Rattle.steps.specs.JumpRows.{link_of}
use Rattle.steps.specs.MemoryRows.{load_done, store_done, load_capability_done, store_capability_done}
use Rattle.steps.specs.State.{State}
use Rattle.steps.specs.Step.{asked, does, kind_effect}
use Rattle.steps.specs.SystemRows.{csr_number, csr_source, csr_writes, csr_new, csr_done, csr_held, csr_asked, special_done}
use Rattle.steps.specs.Looks.{where_all}

module _ (s : State) (rs : List CapValue) (insn : Insn)
    (one : register rs insn.rs1 ≡ register s.registers insn.rs1) (two : register rs insn.rs2 ≡ register s.registers insn.rs2) where
  abbrev other : State
  other = record s { registers = rs }

  second-same : (f : Format) → second_of other insn f ≡ second_of s insn f
  second-same format.Register = ap value_address two
  second-same _ = refl

  integer-same : integer_effect insn other ≡ integer_effect insn s
  unfolding integer_effect
  integer-same =
      ap₂ (λ a b. integer_written insn.rd (int_result insn.row a b)) (ap value_address one) (second-same (line_of insn.row).format)

  source-same : (row : Row) → csr_source row insn other ≡ csr_source row insn s
  unfolding csr_source
  source-same Csrrwi = refl
  source-same Csrrsi = refl
  source-same Csrrci = refl
  source-same _ = ap value_address one

  csr-same : (old : ℕ) → csr_done old insn other ≡ csr_done old insn s
  unfolding csr_done
  csr-same old =
      ap (λ source. cond (csr_writes insn.row insn.rs1) (Csr (record {
        rd = insn.rd;
        old = integer old;
        number = csr_number insn;
        value = csr_new insn.row old source;
      })) (Write (record { rd = insn.rd; value = integer old })))
      (source-same insn.row)

  pub kind-same : (k : Kind) (word : ℕ) → kind_effect k word insn other ≡ kind_effect k word insn s
  unfolding kind_effect asked does mul_div_effect capability_effect auipc_effect link_of load_done store_done load_capability_done
      store_capability_done special_done
  kind-same kind.Integer word = integer-same
  kind-same kind.MulDiv word = rw (one, two) refl
  kind-same kind.Capability word = rw (one, two) refl
  kind-same kind.Auipc word = refl
  kind-same kind.Branch word = rw (one, two) refl
  kind-same kind.Jal word = refl
  kind-same kind.Jalr word = rw one refl
  kind-same kind.JalrCap word = rw one refl
  kind-same kind.Invoke word = rw (one, two) refl
  kind-same kind.Load word = rw one refl
  kind-same kind.Store word = rw (one, two) refl
  kind-same kind.LoadCapability word = rw one refl
  kind-same kind.StoreCapability word = rw (one, two) refl
  kind-same kind.Csr word = ap (where_all (csr_asked word insn s)) (csr-same (csr_held insn s))
  kind-same kind.SpecialRw word = rw one refl
  kind-same kind.Mret word = refl
  kind-same kind.Fence word = refl
  kind-same kind.Ecall word = refl
  kind-same kind.Ebreak word = refl
