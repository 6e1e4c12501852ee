use Rattle.cap_insns.specs.MadeLaws.{in_rights-row_value}
use Rattle.cap_insns.proofs.rows.cap_op.Goals as goal

pub returns-clause-within : goal.returns-clause-within
returns-clause-within g c =
    let value = g.C.CapRep.value in
    let insn = c.args.insn in
    in_rights-row_value insn.row insn (value c.args.cs1) (value c.args.cs2) (value c.args.ddc) (value c.row_op.result)
    (g.met.C.CapRep.valid c.args.cs1) c.row_op.ensures
