use Rattle.std.proofs.Common.{◌≡◌, ◌-◌, ◌≤◌, false}
use Rattle.schedules.specs.declared.pace.How.TheVariants.{Done}
use Rattle.schedules.specs.Schedule.{is_halted}
use Rattle.schedules.specs.Walk.{WentBy}
use Rattle.schedules.proofs.walking.go.Given as goal

-- the watch was told of the steps so far
abbrev pub invariant-loop-done : goal.invariant-loop-done
invariant-loop-done g l = record {
  few : l.done ≤ l.count;
  went : WentBy g.V.Watch.Saw g.V.Watch.Lost g.V.Watch.Barred Done l.done l.fn.machine l.machine l.fn.watch l.watch;
  running : is_halted l.machine ≡ false;
  ready : g.V.Watch.IsReady l.watch;
}

abbrev pub decreases-loop-done : goal.decreases-loop-done
decreases-loop-done g l = l.count - l.done
