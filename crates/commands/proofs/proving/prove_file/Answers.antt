use Rattle.std.proofs.Common.{◌∙◌, subst}
use Rattle.std.proofs.lemmas.Result.{err_from_is_err_and}
use Rattle.std.specs.Io.KnownBytes.{Appends}
use Rattle.commands.specs.Proving.FailsToProve.{at_output, at_proof}
use Rattle.commands.specs.Auditing.{told_unless}
use Rattle.commands.proofs.proving.prove_file.Goals as goal

pub returns-clause-ok : goal.returns-clause-ok
returns-clause-ok g c = record {
  image = c.in_ok-loaded.loaded.image;
  table = c.in_ok-loaded.loaded.table;
  rules = c.in_ok-loaded.loaded.rules;
  verdict = c.in_ok-verdict.verdict;
  loaded = c.in_ok-loaded.ensures.ok;
  promise = c.in_ok-verdict.ensures.ok;
  answer = c.holds.ensures;
  told = subst (λ text. Appends (g.O.Write.contents c.args.output) (g.O.Write.contents c.in_ok-output.output)
      (told_unless c.args.request.quiet text)) (c.deref.ensures ∙ c.in_ok-text.ensures.ok) c.in_ok-output.ensures.ok;
}

pub returns-in_err-verdict-clause-err : goal.returns-in_err-verdict-clause-err
returns-in_err-verdict-clause-err g c =
    let p = err_from_is_err_and c.from_residual-in_err-verdict.result c.from_residual-in_err-verdict.ensures.1 in
    let loaded = c.in_ok-loaded in
    rw (p.1, p.2) (at_proof loaded.loaded.image loaded.loaded.table loaded.loaded.rules loaded.ensures.ok c.in_err-verdict.ensures.err)

pub returns-in_err-text-clause-err : goal.returns-in_err-text-clause-err
returns-in_err-text-clause-err g c =
    let p = err_from_is_err_and c.from_residual-in_err-text.result c.from_residual-in_err-text.ensures.1 in
    let loaded = c.in_ok-loaded in
    rw (p.1, p.2) (at_proof loaded.loaded.image loaded.loaded.table loaded.loaded.rules loaded.ensures.ok c.in_err-text.ensures.err)

pub returns-in_err-output-clause-err : goal.returns-in_err-output-clause-err
returns-in_err-output-clause-err g c =
    let p = err_from_is_err_and c.from_residual-in_err-output.result c.from_residual-in_err-output.ensures.1 in
    let loaded = c.in_ok-loaded in
    rw (p.1, p.2) (at_output loaded.loaded.image loaded.loaded.table loaded.loaded.rules loaded.ensures.ok c.in_err-output.ensures.err)
