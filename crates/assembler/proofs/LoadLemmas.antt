-- The two instructions of la and cla have words, for each register and each distance.
use Rattle.std.proofs.Common.{ℕ, ◌*◌, ◌%◌, ◌^◌, ◌<◌, arith}
use Rattle.std.proofs.lemmas.Bool.Decides.{nat_tests}
use Rattle.isa_rows.specs.declared.rows.Row.TheVariants.{Auipc, Addi, CIncOffsetImm}
use Rattle.isa_rows.specs.Line.{line_of}
use Rattle.isa_rows.specs.Insn.{Fits, insn, sign_extended}
use Rattle.isa_rows.specs.InsnLaws.{Fits-OperandsFit}
use Rattle.isa_rows.specs.Operands.{IsSignedOf, IsUpperImmediate, OperandsFit}

pub based_fits : (rd imm : ℕ) → rd < 32 → IsUpperImmediate imm → Fits (insn Auipc rd 0 0 imm)
unfolding line_of OperandsFit
based_fits rd imm r h =
    Fits-OperandsFit (insn Auipc rd 0 0 imm) (record { rd_below = r; rs1_below = omega arith; rs2_below = omega arith; imm_is = h })

pub number_fits : (rd imm : ℕ) → rd < 32 → IsSignedOf 12 imm → Fits (insn Addi rd rd 0 imm)
unfolding line_of OperandsFit
number_fits rd imm r h =
    Fits-OperandsFit (insn Addi rd rd 0 imm) (record { rd_below = r; rs1_below = r; rs2_below = omega arith; imm_is = h })

pub capability_fits : (rd imm : ℕ) → rd < 32 → IsSignedOf 12 imm → Fits (insn CIncOffsetImm rd rd 0 imm)
unfolding line_of OperandsFit
capability_fits rd imm r h =
    Fits-OperandsFit (insn CIncOffsetImm rd rd 0 imm) (record { rd_below = r; rs1_below = r; rs2_below = omega arith; imm_is = h })

pub upper_fits : (n : ℕ) → IsUpperImmediate (sign_extended 32 (n % 2 ^ 20 * 2 ^ 12))
unfolding sign_extended
upper_fits n =
    let m = n % 2 ^ 20 * 2 ^ 12 in
    (grind (arith, nat_tests), grind (arith, nat_tests))
