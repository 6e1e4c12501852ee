use Rattle.cherisim_c.proofs.Stopping.{stops_at}
use Rattle.cherisim_c.proofs.policies.breach_ahead.Goals as goal

pub returns : goal.returns
returns c =
    let found = c.find_breach.ensures in
    stops_at _ c.args.schedule c.args.input.now c.args.machine.now _ c.find_breach.new.machine c.find_breach.result c.in_ok-copy.ensures
    found.none found.number found.state found.refused found.kept
