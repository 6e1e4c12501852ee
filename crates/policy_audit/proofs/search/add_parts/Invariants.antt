use Rattle.std.proofs.Common.{◌≡◌, ◌++◌, drop}
use Rattle.std.specs.List.{flat_map}
use Rattle.reached.specs.Links.{values}
use Rattle.policy.specs.Terms.{terms}
use Rattle.policy_audit.specs.Found.{found_part, parts}
use Rattle.policy_audit.proofs.search.add_parts.Given as goal

-- what is found and what is found of the parts that are left make all that is found
abbrev pub invariant-loop-ban : goal.invariant-loop-ban
invariant-loop-ban g l = record {
  items : l.ban-items ≡ parts;
  found : l.found.items
      ++ flat_map (found_part l.seen (values g.C.CapRep.value l.members) l.place (terms l.rule)) (drop l.ban-index l.ban-items)
      ≡ l.fn.found.items ++ flat_map (found_part l.seen (values g.C.CapRep.value l.members) l.place (terms l.rule)) parts;
}
