use Rattle.std.proofs.Common.{◌≡◌, ◌≢◌, ℕ, false, List, [], ◌∷◌, Option, refl, sym, subst, ◌∙◌, arith, rules}
use Rattle.std.specs.Io.KnownBytes.{Consumes}
use Rattle.std.proofs.lemmas.Bool.Decides.{nat_tests}
use Rattle.std.proofs.lemmas.Result.{err_from_is_err_and}
use Rattle.debugger.specs.Talk.{is_feed}
use Rattle.debugger.proofs.Hearing.{nothing_heard, heard_byte, heard_line, heard_last, heard_end, cut_at_feed, cut_at_read}
use Rattle.debugger.proofs.talking.hear.Goals as goal
use Rattle.debugger.proofs.talking.hear.Goals.{then-byte-eq10+in_ok-answer_line+else-branch, else-byte-eq10}

not_feed : (b : ℕ) → b ≢ 10 → is_feed b ≡ false
not_feed b h = grind (arith, nat_tests)

feed : (lo ln : Option (List ℕ)) (b : ℕ) → b ≡ 10 → Consumes lo ln (b ∷ []) → Consumes lo ln (10 ∷ [])
feed lo ln b e h = subst (λ n. Consumes lo ln (n ∷ [])) e h

pub loop-init : goal.loop-init
loop-init g c = record { heard = nothing_heard _ _ c.requires.line; reads = refl; writes = refl }

pub returns-in_err-byte-clause-err : goal.returns-in_err-byte-clause-err
returns-in_err-byte-clause-err g c =
    let p = err_from_is_err_and c.from_residual.result c.from_residual.ensures.1 in
    rw (p.1, p.2, c.in_err-byte.ensures.fault) (cut_at_read _ _ _ _ c.loop.invariant.heard _ c.in_err-byte.ensures.err)

pub returns-in_default-clause-ok : goal.returns-in_default-clause-ok
returns-in_default-clause-ok g c =
    let next = rw c.in_default.is at c.in_ok-byte.ensures.ok in
    heard_end _ _ _ _ c.loop.invariant.heard _ c.loop-test.true next.0 next.1

pub returns-in_err-answer_line-clause-err : goal.returns-in_err-answer_line-clause-err
returns-in_err-answer_line-clause-err g c =
    let p = err_from_is_err_and c.from_residual-in_err-answer_line.result c.from_residual-in_err-answer_line.ensures.1 in
    let next = feed _ _ c.in-Some.byte c.if-byte-eq10.true (rw c.in-Some.is at c.in_ok-byte.ensures.ok) in
    rw (p.1, p.2)
    (cut_at_feed _ _ _ _ c.loop.invariant.heard _ next _ _ _ (rw c.as_slice.ensures.value at c.in_err-answer_line.ensures.err))

pub returns-then-branch-clause-ok : goal.returns-then-branch-clause-ok
returns-then-branch-clause-ok g c =
    let next = feed _ _ c.in-Some.byte c.if-byte-eq10.true (rw c.in-Some.is at c.in_ok-byte.ensures.ok) in
    let same = c.as_slice.ensures.value in
    let answered = c.in_ok-answer_line.ensures in
    heard_last _ _ _ _ c.loop.invariant.heard _ next _ _ (rw same at answered.state) (rw same at answered.text) c.loop-test.true
    (sym (rw same at answered.last) ∙ c.if-branch.true)

pub loop-preserved : goal.loop-preserved
loop-preserved g c =
    let reads = c.in_ok-byte.ensures.count ∙ c.loop.invariant.reads in
    let next = rw c.in-Some.is at c.in_ok-byte.ensures.ok in
    elim c.if-byte-eq10.branch [
      | else-byte-eq10 w ↦
          rw (w.session-is, w.sink-is, w.line-is) (record {
            heard = heard_byte _ _ _ _ c.loop.invariant.heard _ c.in-Some.byte next _
                (not_feed c.in-Some.byte w.if-byte-eq10.false) w.keep.ensures;
            reads = reads;
            writes = c.loop.invariant.writes;
          })
      | then-byte-eq10+in_ok-answer_line+else-branch w ↦
          let same = w.as_slice.ensures.value in
          let answered = w.in_ok-answer_line.ensures in
          rw (w.session-is, w.sink-is, w.line-is) (record {
            heard =
                heard_line _ _ _ _ c.loop.invariant.heard _ (feed _ _ c.in-Some.byte w.if-byte-eq10.true next) _ _
                (rw same at answered.state) (rw same at answered.text) _
                (sym (rw same at answered.last) ∙ w.if-branch.false) (search rules);
            reads = reads;
            writes = answered.count ∙ c.loop.invariant.writes;
          })
    ]
