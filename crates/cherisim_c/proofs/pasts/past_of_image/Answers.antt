use Rattle.std.proofs.Common.{◌≡◌, ◌∙◌, ◌⊎◌, sym, ap}
use Rattle.std.specs.Prelude.{Some, map}
use Rattle.cherisim_c.proofs.Given.{none_noted, noted_one}
use Rattle.cherisim_c.proofs.Stopping.{refused_so}
use Rattle.cherisim_c.proofs.pasts.past_of_image.Goals as goal
use Rattle.cherisim_c.specs.Pasts.{IsNoPast}
use Rattle.cherisim_c.specs.Status.{no_memory, out_of_range}

pub loop-noted-preserved : goal.loop-noted-preserved
loop-noted-preserved c =
    let l = c.loop-noted in
    let done = c.in_ok-note.ensures.ok in
    record {
      image = ap (λ p. p.image) done.2 ∙ l.invariant.image;
      given = noted_one c.args.all.now l.noted-index (record { number = 0; kind = 0 }) l.past.given done.0 c.loop-noted-test.true
          l.invariant.given done.1 ∙ ap (λ p. map Some p.given) (sym done.2);
      few = c.in_ok-note.ensures.few;
    }

pub returns-in_err-note-clause-err : goal.returns-in_err-note-clause-err
returns-in_err-note-clause-err c =
    let l = c.loop-noted in
    let at = c.in_err-note in
    refused_so c.from_residual.result at.field-0.0
    (λ status. (status ≡ no_memory) ⊎ ((status ≡ out_of_range) × IsNoPast c.args.all.now)) c.from_residual.ensures.1
    (none_noted c.args.all.now l.noted-index (record { number = 0; kind = 0 }) l.past.given at.field-0.0 c.loop-noted-test.true
    l.invariant.given at.ensures.err)
