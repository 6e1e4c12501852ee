use Rattle.std.proofs.Common.{◌∙◌, sym}
use Rattle.doors.proofs.Invoking.{pair-accepted, accepted-pair, accepted-ok, ok-accepted}
use Rattle.doors.proofs.opening.is_pair.Goals as goal

pub returns : goal.returns
returns g c =
    let code = g.C.CapRep.value c.args.code in
    let datum = g.C.CapRep.value c.args.datum in
    let ok = c.is_ok.ensures.value in
    let checked = c.check_invoke.ensures in (
      λ yes. accepted-pair code datum (accepted-ok c.check_invoke.result _ checked.allowed (sym ok ∙ yes)),
      λ pair. ok ∙ ok-accepted c.check_invoke.result _ checked.refused (pair-accepted code datum pair),
    )
