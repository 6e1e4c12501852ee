use Rattle.std.proofs.Common.{◌≡◌, ◌+◌, ◌≤◌, ◌++◌, length, vec_len, vec_capacity}
use Rattle.machine.specs.Run.{run_after, run_sent}
use Rattle.machine.specs.Steps.{BeginWithSteps}
use Rattle.machine.proofs.machine.Machine.run.Given as goal

-- what is still to come after the events so far is what comes after all of them, and so many of the rest are known to be steps
abbrev pub invariant-loop-rest : goal.invariant-loop-rest
invariant-loop-rest g l = record {
  state : run_after l.rest l.self ≡ run_after l.events l.fn.self;
  bytes : l.out.items ++ run_sent l.rest l.self ≡ l.fn.out.items ++ run_sent l.events l.fn.self;
  few : l.steps ≤ length l.rest;
  steps : BeginWithSteps l.steps l.rest;
  room : vec_len l.out + length l.rest ≤ vec_capacity l.out;
}

abbrev pub decreases-loop-rest : goal.decreases-loop-rest
decreases-loop-rest g l = length l.rest
