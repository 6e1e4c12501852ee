use Rattle.std.proofs.Common.{sym, ◌∙◌}
use Rattle.std.proofs.lemmas.Result.{err_from_is_err_and}
use Rattle.debugger.proofs.Hearing.{cut_at_rest, told_without_rest, told_with_rest}
use Rattle.debugger.proofs.talking.talk_told.Goals as goal
use Rattle.debugger.proofs.talking.talk_told.Goals.{else-not-is_over-via-then-not-is_over+else-not-is_empty}
use Rattle.debugger.proofs.talking.talk_told.Goals.{else-not-is_over-via-else-not-is_over}

pub returns-in_err-answer_line-clause-err : goal.returns-in_err-answer_line-clause-err
returns-in_err-answer_line-clause-err g c =
    let p = err_from_is_err_and c.from_residual-in_err-answer_line.result c.from_residual-in_err-answer_line.ensures.1 in
    let all = rw c.if-not-is_over.true at c.in_ok-is_over.ensures.ok in
    rw (p.1, p.2)
    (cut_at_rest _ _ _ _ all.heard all.end (sym c.is_empty.ensures ∙ c.if-not-is_empty.true) _ _ _
    (rw c.as_slice.ensures.value at c.in_err-answer_line.ensures.err))

pub returns-in_ok-answer_line-clause-ok : goal.returns-in_ok-answer_line-clause-ok
returns-in_ok-answer_line-clause-ok g c =
    let all = rw c.if-not-is_over.true at c.in_ok-is_over.ensures.ok in
    let same = c.as_slice.ensures.value in
    let answered = c.in_ok-answer_line.ensures in
    told_with_rest _ _ _ _ all.heard all.end (sym c.is_empty.ensures ∙ c.if-not-is_empty.true) _ _ (rw same at answered.state)
    (rw same at answered.text)

pub returns-else-not-is_over-clause-ok : goal.returns-else-not-is_over-clause-ok
returns-else-not-is_over-clause-ok g c =
    elim c.else-not-is_over.branch [
      | else-not-is_over-via-then-not-is_over+else-not-is_empty w ↦
          let all = rw w.if-not-is_over.true at c.in_ok-is_over.ensures.ok in
          told_without_rest _ _ _ _ all.heard all.end (sym w.is_empty.ensures ∙ w.if-not-is_empty.false)
      | else-not-is_over-via-else-not-is_over w ↦ rw w.if-not-is_over.false at c.in_ok-is_over.ensures.ok
    ]
