use Rattle.std.proofs.Common.{◌≡◌, ◌++◌, ◌≤◌, ◌-◌, drop, length}
use Rattle.std.specs.Prelude.{string_bytes}
use Rattle.reached.specs.Order.{seen_members}
use Rattle.reach_texts.specs.Object.{member_object}
use Rattle.reach_texts.specs.Text.{numbered}
use Rattle.reach_texts.proofs.object.put_objects.Given as goal

-- what is written and what the members that are left say make all that is said
abbrev pub invariant-loop-number : goal.invariant-loop-number
invariant-loop-number g l = record {
  within : l.number ≤ length l.members;
  lines : string_bytes l.text ++ numbered (member_object l.symbols) l.number (drop l.number (seen_members g.C.CapRep.value l.members))
      ≡ string_bytes l.fn.text ++ numbered (member_object l.symbols) 0 (seen_members g.C.CapRep.value l.members);
}

abbrev pub decreases-loop-number : goal.decreases-loop-number
decreases-loop-number g l = length l.members - l.number
