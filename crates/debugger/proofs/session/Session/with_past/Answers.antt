use Rattle.std.proofs.Common.{◌≡◌, refl, rules}
use Rattle.std.specs.Prelude.{Some, option_map}
use Rattle.past.specs.Replay.{replay_from}
use Rattle.debugger.specs.SessionState.{HasItsPast, IsBeginning, begun}
use Rattle.debugger.proofs.Begins.{begins}
use Rattle.debugger.proofs.session.Session.with_past.Goals as goal
use Rattle.debugger.proofs.session.Session.with_past.Goals.{in-Some, in-None}

pub begun-requires : goal.begun-requires
begun-requires g c =
    let same : IsBeginning c.match-schedule.replay =
    elim c.match-schedule.branch [
      | in-Some w ↦ rw (w.replay-is, w.new.ensures) refl
      | in-None w ↦ rw w.replay-is refl
    ] in
    let has : HasItsPast (begun c.args.machine c.match-schedule.replay (Some c.new-2.result)) =
    begins c.args.image c.match-schedule.replay c.args.machine c.new-2.result same c.requires.opening c.new-2.ensures in
    (search rules, search rules)

pub returns : goal.returns
returns g c =
    let replay : c.match-schedule.replay ≡ option_map (λ s. replay_from s c.args.input.items) c.args.schedule =
    elim c.match-schedule.branch [
      | in-Some w ↦ rw (w.replay-is, w.new.ensures, w.in-Some.is) refl
      | in-None w ↦ rw (w.replay-is, w.in-None.is) refl
    ] in
    rw (c.begun.ensures, c.requires.opening, replay, c.new-2.ensures) refl
