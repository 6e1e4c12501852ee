use Rattle.std.proofs.Common.{inr, refl, [], ◌∷◌}
use Rattle.steps.specs.declared.event.Event.TheVariants.{Step}
use Rattle.schedules.proofs.both.BothWatchMachine.after.Goals as goal

pub returns-in-Err-clause-err : goal.returns-in-Err-clause-err
returns-in-Err-clause-err g c = λ s v asked there sends. (
  c.in-Err.ensures.err s v.first asked.0 there sends,
  record {
    done = [];
    more = Step ∷ [];
    order = refl;
    saw = inr (record { there = v.second; saw = g.met.B.Watch.starts s v.second; asked = asked.1 });
  },
)
