use Rattle.std.proofs.Common.{sym, subst}
use Rattle.steps.specs.State.{HoldsCapabilities}
use Rattle.debugger.proofs.answer.append_view.Goals as goal

pub append_caps-requires : goal.append_caps-requires
append_caps-requires g c = subst HoldsCapabilities (sym c.memory.ensures.value) c.memory.ensures.well_formed
