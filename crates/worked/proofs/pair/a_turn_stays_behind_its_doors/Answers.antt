use Rattle.std.proofs.Common.{inl, inr, arith, lit<}
use Rattle.devices.specs.Devices.{transmit}
use Rattle.worked.specs.Pair.{caller, caller_with, turn}
use Rattle.worked.proofs.Invoking.{not-read, not-written}
use Rattle.worked.proofs.pair.a_turn_stays_behind_its_doors.Goals as goal

pub returns-clause-rights : goal.returns-clause-rights
returns-clause-rights c = c.turns_keep_authority.ensures.rights turn caller c.the_pair_is_invoked_in_a_turn.ensures.turn

pub returns-clause-stays : goal.returns-clause-stays
returns-clause-stays c = λ a above.
    (c.turns_keep_authority.ensures.left_alone turn caller c.the_pair_is_invoked_in_a_turn.ensures.turn).memory.bytes a (omega arith)
    (not-written a (inr above))

pub returns-clause-silent : goal.returns-clause-silent
returns-clause-silent c =
    c.turns_keep_authority.ensures.silent turn caller c.the_pair_is_invoked_in_a_turn.ensures.turn (not-written transmit (inl (lit< tt)))

pub returns-clause-agree : goal.returns-clause-agree
returns-clause-agree c = λ k byte above. c.hidden_bytes_may_differ_through_doors.ensures caller k byte (not-read k above)

pub returns-clause-twin : goal.returns-clause-twin
returns-clause-twin c = λ k byte above.
    c.turns_are_the_same_in_both_worlds.ensures.twin turn caller (caller_with k byte) c.the_pair_is_invoked_in_a_turn.ensures.turn
    (c.hidden_bytes_may_differ_through_doors.ensures caller k byte (not-read k above))
