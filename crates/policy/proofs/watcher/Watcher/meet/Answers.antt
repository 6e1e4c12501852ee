use Rattle.std.proofs.Common.{refl, subst, sym, ⊎_elim}
use Rattle.policy.specs.Known.{Remembers}
use Rattle.policy.proofs.Passing.{certain-after}
use Rattle.policy.proofs.watcher.Watcher.meet.Goals as goal

pub returns-in_ok-note-in-Step-clause-knows : goal.returns-in_ok-note-in-Step-clause-knows
returns-in_ok-note-in-Step-clause-knows g c =
    c.look.ensures.knows (subst (Remembers c.note.new.self) (sym c.apply-out.ensures.state)
    (c.in_ok-note-in-Step.ensures.remembers c.requires.knows.remembers c.requires.holds))

pub returns-in-Tick-clause-rules : goal.returns-in-Tick-clause-rules
returns-in-Tick-clause-rules g c = ⊎_elim (λ is. rw is refl) (λ some. rw some.1 refl) c.in-Tick.is

pub returns-in-Tick-clause-knows : goal.returns-in-Tick-clause-knows
returns-in-Tick-clause-knows g c =
    certain-after c.args.self.now c.args.machine.now c.event-out.new.self c.event-out.ensures.is_state c.requires.knows c.requires.holds
    c.args.event c.in-Tick.is c.event-out.ensures.state
