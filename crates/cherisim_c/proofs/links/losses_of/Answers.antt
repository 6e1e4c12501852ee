use Rattle.std.proofs.Common.{inl}
use Rattle.cherisim_c.proofs.Given.{of_memory, of_place}
use Rattle.cherisim_c.proofs.Stopping.{refused_so}
use Rattle.cherisim_c.proofs.links.losses_of.Goals as goal
use Rattle.cherisim_c.specs.Pasts.{IsPlaceRefusal}

pub returns-in_err-place-clause-err : goal.returns-in_err-place-clause-err
returns-in_err-place-clause-err c =
    let at = c.in_err-place in
    refused_so c.from_residual-in_err-place.result at.field-0.0 (IsPlaceRefusal c.args.image.now c.args.given.now c.args.asked)
    c.from_residual-in_err-place.ensures.1
    (of_place c.args.image.now c.args.given.now c.args.asked c.in_ok-past.past at.field-0.0 c.in_ok-past.ensures.ok at.ensures.err)

pub returns-clause-err : goal.returns-clause-err
returns-clause-err c = inl (of_memory c.args.image.now c.args.given.now)
