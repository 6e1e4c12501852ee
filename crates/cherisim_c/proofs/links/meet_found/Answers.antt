use Rattle.std.proofs.Common.{sym, subst}
use Rattle.std.specs.Prelude.{IfSome}
use Rattle.hart.specs.Opening.{opening}
use Rattle.origins.proofs.Stays.{place-stays}
use Rattle.origins.specs.Kept.{AreThere}
use Rattle.origins.specs.Places.{IsThere}
use Rattle.cherisim_c.proofs.Sources.{there-before}
use Rattle.cherisim_c.proofs.links.meet_found.Goals as goal

pub written_link-requires : goal.written_link-requires
written_link-requires c =
    place-stays (opening c.args.past.now.image) c.in-Ok.machine c.in-Ok.ensures.size c.args.place c.requires.there

pub returns-clause-there : goal.returns-clause-there
returns-clause-there c =
    let machine = c.in-Ok.machine in
    let are = subst (AreThere c.args.found.making) (sym c.in-Ok.ensures.machine) c.requires.sources in
    there-before c.source-next.result machine (opening c.args.past.now.image) (sym c.in-Ok.ensures.size)
    (subst (λ o. IfSome o (λ p. IsThere p machine)) (sym c.source-next.ensures) are.0)
