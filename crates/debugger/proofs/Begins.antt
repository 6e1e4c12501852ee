-- A session with a past begins in the opening state of its image.
use Rattle.std.proofs.Common.{◌≡◌, [], refl, sym, subst}
use Rattle.std.specs.Prelude.{Option, None, Some}
use Rattle.hart.specs.Opening.{opening}
use Rattle.steps.specs.State.{State}
use Rattle.image.specs.Image.{Image}
use Rattle.past.specs.Given.{PastState, past_of}
use Rattle.past.specs.Replay.{ReplayState}
use Rattle.debugger.specs.Keeping.{IsAnchored}
use Rattle.debugger.specs.SessionState.{HasItsPast, IsBeginning, begun}

at_opening : (image : Image) (replay : Option ReplayState) → IsBeginning replay
    → HasItsPast (begun (opening image) replay (Some (past_of image [])))
at_opening image replay same = record { machine = refl; steps = same; tick = refl }

pub begins : (image : Image) (replay : Option ReplayState) (machine : State) (past : PastState) → IsBeginning replay
    → machine ≡ opening image → past ≡ past_of image [] → HasItsPast (begun machine replay (Some past))
begins image replay machine past same opens none =
    subst (λ m. HasItsPast (begun m replay (Some past))) (sym opens)
    (subst (λ p. HasItsPast (begun (opening image) replay (Some p))) (sym none) (at_opening image replay same))

-- no anchor is kept yet
pub none_kept : (past : Option PastState) (replay : Option ReplayState) → IsAnchored None past replay
none_kept None replay = tt
none_kept (Some past) replay = tt
