use Rattle.std.proofs.Common.{rules, ◌∙◌}
use Rattle.std.proofs.lemmas.Result.{err_from_is_err_and}
use Rattle.debugger.proofs.Refused.{refused-is, refused-state, refused-last, refused-text, refused-reply}
use Rattle.debugger.proofs.talking.answer_line.Goals as goal

pub returns-in-Ok-Quit-clause-last : goal.returns-in-Ok-Quit-clause-last
returns-in-Ok-Quit-clause-last g c = search rules

pub returns-in_err-write_refusal-in-Err-clause-err : goal.returns-in_err-write_refusal-in-Err-clause-err
returns-in_err-write_refusal-in-Err-clause-err g c =
    let p = err_from_is_err_and c.from_residual-in_err-write_refusal-in-Err.result c.from_residual-in_err-write_refusal-in-Err.ensures.1 in
    rw (p.1, p.2)
    (refused-reply _ _ _ _ _ _ _ c.in_err-write_refusal-in-Err.ensures.err c.in-Err.ensures.err c.in-Err.ensures.same)

pub returns-in_err-write_refusal-in-Err-clause-count : goal.returns-in_err-write_refusal-in-Err-clause-count
returns-in_err-write_refusal-in-Err-clause-count g c =
    let p = err_from_is_err_and c.from_residual-in_err-write_refusal-in-Err.result c.from_residual-in_err-write_refusal-in-Err.ensures.1 in
    rw (p.1, p.2) c.in_err-write_refusal-in-Err.ensures.count

pub returns-in_ok-write_refusal-in-Err-clause-last : goal.returns-in_ok-write_refusal-in-Err-clause-last
returns-in_ok-write_refusal-in-Err-clause-last g c =
    refused-last c.in-Err.fault c.args.line.now c.args.session.now
    (refused-is c.in-Err.fault c.args.line.now c.args.session.now c.in_ok-write_refusal-in-Err.ensures.kind c.in-Err.ensures.err)

pub returns-in_ok-write_refusal-in-Err-clause-state : goal.returns-in_ok-write_refusal-in-Err-clause-state
returns-in_ok-write_refusal-in-Err-clause-state g c =
    c.in-Err.ensures.same
    ∙ refused-state c.in-Err.fault c.args.line.now c.args.session.now
    (refused-is c.in-Err.fault c.args.line.now c.args.session.now c.in_ok-write_refusal-in-Err.ensures.kind c.in-Err.ensures.err)

pub returns-in_ok-write_refusal-in-Err-clause-text : goal.returns-in_ok-write_refusal-in-Err-clause-text
returns-in_ok-write_refusal-in-Err-clause-text g c =
    rw (← refused-text c.in-Err.fault c.args.line.now c.args.session.now
    (refused-is c.in-Err.fault c.args.line.now c.args.session.now c.in_ok-write_refusal-in-Err.ensures.kind c.in-Err.ensures.err))
    c.in_ok-write_refusal-in-Err.ensures.ok
