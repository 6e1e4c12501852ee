use Rattle.std.proofs.Common.{◌≡◌, ◌+◌, [], ◌∷◌, refl, arith}
use Rattle.steps.specs.declared.event.Event.TheVariants.{Byte, Tick}
use Rattle.sim_run.specs.LineLaws.{wrote_skipped}
use Rattle.sim_run.specs.Trace.{says_of}
use Rattle.sim_run.proofs.traced.LinesWatchMachine.came.Goals as goal

pub returns-clause-byte : goal.returns-clause-byte
returns-clause-byte g c = λ b s there.
    let w = c.args.self.now in
    let same : w.number ≡ w.number + 0 = omega arith in
    (refl, refl, wrote_skipped (says_of w.form) w.form.skipped w.number (Byte b ∷ []) s _ _ w.number (omega arith) same)

pub returns-clause-tick : goal.returns-clause-tick
returns-clause-tick g c = λ s there.
    let w = c.args.self.now in
    let same : w.number ≡ w.number + 0 = omega arith in
    (refl, refl, wrote_skipped (says_of w.form) w.form.skipped w.number (Tick ∷ []) s _ _ w.number (omega arith) same)
