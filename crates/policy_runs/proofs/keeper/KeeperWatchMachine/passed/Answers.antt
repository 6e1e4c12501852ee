use Rattle.policy_runs.proofs.Guarded.{kept-guarded, under-guard}
use Rattle.policy_runs.proofs.keeper.KeeperWatchMachine.passed.Goals as goal

pub returns-clause-ok : goal.returns-clause-ok
returns-clause-ok g c = λ s ends _ _ goes.
    let v = c.args.self.now.watcher in
    let n = c.args._steps in
    let by = under-guard v.standing n s goes in (
      c.passed.ensures.said,
      λ knows. kept-guarded v c.passed.new.self s n c.requires.ready by.0 by.1 knows c.passed.ensures.rules
          (rw ends at (c.passed.ensures.knows s n knows by.0 ends by.1)),
    )
