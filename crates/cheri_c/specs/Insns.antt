-- What the structure stands for with which C passes an instruction.
use Rattle.std.specs.Prelude.{◌≡◌, Some, slice_get}
use Rattle.isa_rows.specs.declared.operands.Insn.{Insn}
use Rattle.isa_rows.specs.declared.table.TheConstants.{ROWS}
use Rattle.c_types.specs.declared.types.CheriInsn.{CheriInsn}

-- the instruction of this row, by its place in the table, with these operands
pub record IsOf (c : CheriInsn) (insn : Insn) : Type 0 where
  pub row : slice_get ROWS c.row ≡ Some insn.row
  pub rd : c.rd ≡ insn.rd
  pub rs1 : c.rs1 ≡ insn.rs1
  pub rs2 : c.rs2 ≡ insn.rs2
  pub imm : c.imm ≡ insn.imm
