use Rattle.std.proofs.Common.{refl}
use Rattle.steps.specs.declared.event.Event.TheVariants.{Tick, Byte}
use Rattle.steps.specs.Event.{after}
use Rattle.policy.proofs.Passing.{still-known}
use Rattle.policy_runs.proofs.keeper.KeeperWatchMachine.came.Goals as goal

pub returns-clause-byte : goal.returns-clause-byte
returns-clause-byte g c = λ b s came. (
  refl,
  λ knows. record {
    keep = tt;
    force = refl;
    truth = still-known s (after (Byte b) s).devices c.args.self.now.watcher (rw came at c.hart.ensures.state) knows;
  },
)

pub returns-clause-tick : goal.returns-clause-tick
returns-clause-tick g c = λ s came. (
  refl,
  λ knows. record {
    keep = tt;
    force = refl;
    truth = still-known s (after Tick s).devices c.args.self.now.watcher (rw came at c.hart.ensures.state) knows;
  },
)
