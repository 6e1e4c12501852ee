use Rattle.std.specs.List.{Contains}
use Rattle.steps.specs.State.{State}
use Rattle.every_run.specs.Handled.{IsKept}
use Rattle.every_run.proofs.Handling.{always-holds}
use Rattle.every_run.proofs.laws.handled_traps_keep_rules.Goals as goal

pub returns : goal.returns
returns c = λ vs any rules o entry s encloses keeps is_o direct running begins handled is among.
    always-holds rules (Contains vs) (IsKept vs any) (λ a kept. kept.unwritable) o is_o encloses keeps direct running
    (λ e t event there bounds.
    let listed : State = record t { registers = vs } in
    c.any_code_keeps_to_its_set.ensures listed t e encloses.doors encloses.unseals bounds there event)
    entry begins handled s is among
