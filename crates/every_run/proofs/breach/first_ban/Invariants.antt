use Rattle.std.proofs.Common.{◌≡◌}
use Rattle.policy.specs.Terms.{terms}
use Rattle.policy.proofs.Bans.{bans, HoldBelow}
use Rattle.every_run.proofs.breach.first_ban.Given as goal

abbrev pub invariant-loop-ban : goal.invariant-loop-ban
invariant-loop-ban g l = record {
  items : l.ban-items ≡ bans;
  below : HoldBelow (terms l.rule) (g.C.CapRep.value l.c) l.ban-index;
}
