use Rattle.std.proofs.Common.{sym, ◌∙◌}
use Rattle.std.specs.Prelude.{None}
use Rattle.origins.specs.declared.search.Sought.TheVariants.{Written}
use Rattle.cherisim_c.proofs.Sources.{there}
use Rattle.cherisim_c.proofs.links.meet.Goals as goal

pub meet_found-requires-clause-sources : goal.meet_found-requires-clause-sources
meet_found-requires-clause-sources c =
    let at = c.in-Ok-Some-default in
    there Written c.args.place c.args.events c.args.past.now None at.found (sym at.ensures.found ∙ at.field-0-0-is)
