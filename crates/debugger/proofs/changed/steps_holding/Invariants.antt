use Rattle.std.proofs.Common.{◌≡◌, ◌+◌, ◌-◌, ◌≤◌, ◌++◌, length, vec_len, vec_capacity}
use Rattle.steps.specs.IsState.{IsState}
use Rattle.machine.specs.Run.{run_after, run_sent}
use Rattle.origins.specs.Places.{IsThere, held}
use Rattle.past.specs.Position.{at, position_after}
use Rattle.debugger.specs.Stepping.{steps_holding}
use Rattle.debugger.proofs.changed.steps_holding.Given as goal

-- what is still to come after the events so far is what comes after all of them
abbrev pub invariant-loop-place : goal.invariant-loop-place
invariant-loop-place g l =
    let v = held l.place l.fn.machine in
    let left = steps_holding l.place v l.left (at l.replay l.owed) l.machine in
    let all = steps_holding l.place v l.most (at l.fn.replay l.fn.owed) l.fn.machine in
    record {
      value : g.C.CapRep.value l.value ≡ v;
      state : run_after left l.machine ≡ run_after all l.fn.machine;
      bytes : l.sent.items ++ run_sent left l.machine ≡ l.fn.sent.items ++ run_sent all l.fn.machine;
      position : position_after (length left) (at l.replay l.owed) ≡ position_after (length all) (at l.fn.replay l.fn.owed);
      counted : length left + (l.most - l.left) ≡ length all;
      below : l.left ≤ l.most;
      len : vec_len l.sent + l.left ≤ vec_len l.fn.sent + l.most;
      room : vec_len l.sent + l.left ≤ vec_capacity l.sent;
      there : IsThere l.place l.machine;
      is_state : IsState l.machine;
    }

abbrev pub decreases-loop-place : goal.decreases-loop-place
decreases-loop-place g l = l.left
