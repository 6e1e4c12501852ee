use Rattle.std.proofs.Common.{arith, ◌≡◌, ◌+◌, refl, ◌∙◌, drop, get_or, []}
use Rattle.isa_rows.specs.declared.slots.Naming.TheVariants.{Integer}
use Rattle.isa_rows.specs.declared.slots.Slot.TheVariants.{Rd}
use Rattle.asm_lines.specs.Text.{pieces_between, pieces_left}
use Rattle.asm_lines.specs.Operand.{fault_of, filled_slot, filled_fault}
use Rattle.asm_lines.specs.Seen.{seen_draft, seen_rest}
use Rattle.asm_lines.proofs.Faults.{told_in_turn}
use Rattle.asm_lines.proofs.SlotSteps.{draft_step, fault_step, draft_without, fault_without, fault_at_end, fault_of_more}
use Rattle.asm_lines.proofs.filling.filled.Goals as goal

pub returns-in_default-clause-draft : goal.returns-in_default-clause-draft
returns-in_default-clause-draft c =
    let left : pieces_left (seen_rest c.loop-slot.rest) ≡ [] = rw c.in_default.is refl in
    let same = draft_without (drop c.loop-slot.slot-index c.args.slots.now) (seen_draft c.loop-slot.draft) in
    cc

pub returns-in_default-clause-fault : goal.returns-in_default-clause-fault
returns-in_default-clause-fault c =
    let left : pieces_left (seen_rest c.loop-slot.rest) ≡ [] = rw c.in_default.is refl in
    let missed = fault_without c.args.slots.now c.loop-slot.slot-index (Rd Integer) (seen_draft c.loop-slot.draft) (omega arith) in
    cc c.told_fault.ensures

pub returns-in-None-clause-fault : goal.returns-in-None-clause-fault
returns-in-None-clause-fault c =
    fault_at_end c.args.slots.now c.loop-slot.slot-index (seen_rest c.loop-slot.rest) c.loop-slot.fault _ (seen_draft c.loop-slot.draft)
    (omega arith) (rw c.in-None.is refl) c.loop-slot.invariant.1

pub returns-in-Some-rest-clause-fault : goal.returns-in-Some-rest-clause-fault
returns-in-Some-rest-clause-fault c =
    c.told_fault-in-Some-rest.ensures
    ∙ fault_of_more c.args.slots.now c.loop-slot.slot-index (seen_rest c.loop-slot.rest) c.in-Some-rest.field-0.now c.loop-slot.fault _
    (seen_draft c.loop-slot.draft)
    (omega arith) (rw c.in-Some-rest.is refl) c.loop-slot.invariant.1

pub loop-slot-preserved : goal.loop-slot-preserved
loop-slot-preserved c =
    let d = seen_draft c.loop-slot.draft in
    let i = c.loop-slot.slot-index in
    let p = c.split_piece.result.0.now in
    let ps = pieces_left (seen_rest c.split_piece.result.1) in
    let left : pieces_left (seen_rest c.loop-slot.rest) ≡ pieces_between c.in-Some.text.now = rw c.in-Some.is refl in
    let one = draft_step c.args.slots.now i (Rd Integer) p ps d (omega arith) in
    let other = fault_step c.args.slots.now i (Rd Integer) p ps d (omega arith) in
    let turn = told_in_turn c.loop-slot.fault (fault_of (filled_slot (get_or c.args.slots.now i (Rd Integer)) p d))
    (filled_fault (drop (i + 1) c.args.slots.now) ps (seen_draft c.after_operand.result.0)) in (
      cc (c.after_operand.ensures.draft, c.split_piece.ensures.pieces),
      cc
          (c.after_operand.ensures.draft, c.after_operand.ensures.fault, c.split_piece.ensures.pieces),
      c.after_operand.ensures.offset,
    )
