use Rattle.std.proofs.Common.{rules, ap, refl, sym, ◌∙◌}
use Rattle.std.specs.Prelude.{is_some}
use Rattle.debugger.specs.Marked.{seen}
use Rattle.debugger.proofs.LastStops.{halted_nowhere, others_nowhere}
use Rattle.debugger.proofs.ReplaySteps.{running}
use Rattle.debugger.proofs.last_stop.meet.Goals as goal
use Rattle.debugger.proofs.last_stop.meet.Goals.{in_default-via-in-Step+else-is_none, in_default-via-in_default}

pub is_any_stop-holds-requires : goal.is_any_stop-holds-requires
is_any_stop-holds-requires g c = (
  search rules,
  (
    c.next-planned.ensures.effect,
    running c.halted.result c.args.machine.now.devices.halted (is_some c.halted.result) c.halted.ensures.value refl c.if-is_none.ensures,
  ),
)

pub returns-in_default-clause-stop : goal.returns-in_default-clause-stop
returns-in_default-clause-stop g c =
    let marks = seen g.C.CapRep.value c.args.marks.now in
    elim c.in_default.branch [
      | in_default-via-in-Step+else-is_none w ↦
          halted_nowhere marks c.args.event c.args.machine.now (sym (ap is_some w.halted.ensures.value) ∙ w.if-is_none.ensures)
      | in_default-via-in_default w ↦ others_nowhere marks c.args.event c.args.machine.now w.in_default.not-Step
    ]
