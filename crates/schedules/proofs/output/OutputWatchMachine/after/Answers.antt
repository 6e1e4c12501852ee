use Rattle.std.proofs.Common.{◌≤◌, refl, ap, sym, arith, append-nil, ◌∙◌}
use Rattle.std.specs.Prelude.{Err, Option, ℕ, option_to_list}
use Rattle.schedules.proofs.Fell.{fell}
use Rattle.schedules.proofs.output.OutputWatchMachine.after.Goals as goal

pub returns-in-Err-clause-err : goal.returns-in-Err-clause-err
returns-in-Err-clause-err g c = λ s v asked there sends.
    let one : 1 ≤ 1 = omega arith in
    rw (sym asked)
    (fell {T = Option ℕ} (Err c.in-Err.fault) 1 s c.args.sent _ _ _ _ _ refl one (append-nil _ ∙ ap option_to_list (sym sends)) refl
    c.in-Err.ensures.unwritten c.in-Err.ensures.err c.in-Err.ensures.count)
