use Rattle.std.proofs.Common.{◌≡◌, ◌-◌, ◌≤◌, false}
use Rattle.schedules.specs.declared.pace.How.TheVariants.{Done}
use Rattle.schedules.specs.Schedule.{is_halted}
use Rattle.schedules.specs.Walk.{Walked}
use Rattle.schedules.proofs.walking.walk_on.Given as goal

-- the machine met the events up to this position
abbrev pub invariant-loop-position : goal.invariant-loop-position
invariant-loop-position g l = record {
  done : l.position.done ≤ l.schedule.steps;
  owed : l.position.owed ≡ false;
  walked : Walked g.V.Watch.Saw g.V.Watch.Lost g.V.Watch.Barred l.schedule l.input Done l.fn.position l.position l.fn.machine l.machine
      l.fn.watch l.watch;
  running : is_halted l.machine ≡ false;
  ready : g.V.Watch.IsReady l.watch;
}

abbrev pub decreases-loop-position : goal.decreases-loop-position
decreases-loop-position g l = l.schedule.steps - l.position.done
