use Rattle.std.proofs.Common.{refl}
use Rattle.asm_lines.specs.Text.{pieces_left}
use Rattle.asm_lines.specs.Seen.{seen_rest}
use Rattle.asm_lines.proofs.ValueSteps.{values_step}
use Rattle.asm_lines.proofs.values.values_fault.Goals as goal

pub values-preserved : goal.values-preserved
values-preserved c =
    let step = values_step c.args.size (seen_rest c.values.rest) c.in-Some.text.now c.split_piece.result.0.now
    (pieces_left (seen_rest c.split_piece.result.1)) c.values.fault _
    (rw c.in-Some.is refl) c.split_piece.ensures.pieces c.values.invariant in
    rw (c.told_fault-fault.ensures, c.value_fault.ensures, c.expression.ensures.value) step
