use Rattle.std.proofs.Common.{rules, ap, sym, ◌∙◌}
use Rattle.std.specs.Prelude.{is_some}
use Rattle.debugger.specs.Marked.{ends_at}
use Rattle.debugger.proofs.ReplaySteps.{running}
use Rattle.debugger.proofs.RunSteps.{none_after_halt, none_left, none_room}
use Rattle.debugger.proofs.stepping.next_given.Goals as goal
use Rattle.debugger.proofs.stepping.next_given.Goals.{then-left-eq0-via-then-left-eq0, then-left-eq0-via-else-left-eq0+then-room-eq0}
use Rattle.debugger.proofs.stepping.next_given.Goals.{then-left-eq0-via-else-left-eq0+else-room-eq0+then-is_some}

pub is_end-requires : goal.is_end-requires
is_end-requires g c = (
  search rules,
  (
    c.next-planned.ensures.effect,
    running c.halted.result c.args.machine.now.devices.halted c.is_some.result c.halted.ensures.value c.is_some.ensures c.if-is_some.false,
  ),
)

pub returns-then-left-eq0-clause-stopped : goal.returns-then-left-eq0-clause-stopped
returns-then-left-eq0-clause-stopped g c =
    let e = ends_at g.C.CapRep.value c.args.marks.now c.args.unfetched in
    let s = c.args.machine.now in
    elim c.then-left-eq0.branch [
      | then-left-eq0-via-then-left-eq0 w ↦ none_left e c.args.left c.args.room s w.if-left-eq0.true
      | then-left-eq0-via-else-left-eq0+then-room-eq0 w ↦ none_room e c.args.left c.args.room s w.if-room-eq0.true
      | then-left-eq0-via-else-left-eq0+else-room-eq0+then-is_some w ↦
          none_after_halt e c.args.left c.args.room s
          (sym (ap is_some w.halted.ensures.value) ∙ sym w.is_some.ensures ∙ w.if-is_some.true)
    ]
