use Rattle.std.proofs.Common.{◌<◌, length, refl}
use Rattle.reached.specs.Links.{values}
use Rattle.policy.specs.Terms.{terms}
use Rattle.policy_audit.specs.Found.{found_part, parts}
use Rattle.policy_audit.proofs.Adding.{map_next, more}
use Rattle.policy_audit.proofs.search.add_parts.Goals as goal

pub loop-ban-preserved : goal.loop-ban-preserved
loop-ban-preserved g c =
    let f = found_part c.args.seen.now (values g.C.CapRep.value c.args.members.now) c.args.place (terms c.args.rule.now) in
    let inside : c.loop-ban.ban-index < length parts = c.loop-ban-test.true in
    record {
      items = refl;
      found = more _ _ _ _ _ _ c.in_ok-add_part.ensures (map_next f parts c.loop-ban.ban-index _ inside) c.loop-ban.invariant.found;
    }
