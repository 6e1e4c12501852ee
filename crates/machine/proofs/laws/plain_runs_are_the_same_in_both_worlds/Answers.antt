use Rattle.machine.proofs.PlainRuns.{plain-there, twin}
use Rattle.machine.proofs.laws.plain_runs_are_the_same_in_both_worlds.Goals as goal

pub returns-clause-plain : goal.returns-clause-plain
returns-clause-plain c = λ events s t run agree is. record {
  state = is;
  are_events = run.are_events;
  are_plain = plain-there events s t run.state run.are_events run.are_plain agree;
}

pub returns-clause-twin : goal.returns-clause-twin
returns-clause-twin c = twin
