use Rattle.std.specs.List.{Contains}
use Rattle.steps.specs.State.{State}
use Rattle.machine.specs.Run.{run_after}
use Rattle.doors.specs.SetLaws.{bounded}
use Rattle.every_run.proofs.laws.enclosed_states_keep_rules.Goals as goal

pub returns : goal.returns
returns c = λ vs rules s encloses keeps is enclosed events are rule there about v reachable broken.
    let listed : State = record s { registers = vs } in
    let now = c.enclosed_code_stays_enclosed.ensures.enclosed listed s events encloses are is enclosed in
    keeps rule there v (bounded (Contains vs) (run_after events s) now.bounds v reachable) broken
