-- What is asked for of a past is there in the opening state of its image, since RAM keeps its size.
use Rattle.std.proofs.Common.{◌≡◌, Bool, true, false, not, refl, sym, subst}
use Rattle.std.specs.Prelude.{Some}
use Rattle.std.proofs.lemmas.Bool.{true≢false}
use Rattle.debug_commands.specs.Limits.{IsRecalledWithinLimits}
use Rattle.origins.specs.Places.{IsHolder}
use Rattle.debug_commands.specs.declared.command.Command.TheVariants.{Recalls}
use Rattle.origins.specs.declared.place.Place.{Place}
use Rattle.origins.specs.declared.place.Place.TheVariants as place
use Rattle.debug_commands.specs.declared.command.Recall.{Recall}
use Rattle.debug_commands.specs.declared.command.Recall.TheVariants.{Ago, Origin, Lost, Calls}
use Rattle.hart.specs.Opening.{opening}
use Rattle.steps.specs.State.{State}
use Rattle.origins.proofs.Stays.{place-stays}
use Rattle.origins.specs.Places.{IsThere}
use Rattle.past.specs.Given.{PastState, past_events}
use Rattle.past.specs.Giving.{HasSameSize}
use Rattle.debugger.specs.Keeping.{IsRecalledThere}
use Rattle.debugger.specs.Reply.{is_outside, is_place_outside}
use Rattle.debugger.proofs.Sizes.{run-size}
use Rattle.debugger.specs.SessionState.{HasItsPast, StandsAfter, StandsThere, TimelineState}

not_outside : (b : Bool) → not b ≡ false → b ≡ true
not_outside true e = refl
not_outside false e = absurd (true≢false e)

pub there_inside : (p : Place) (s : State) → IsHolder p → is_place_outside p s ≡ false → IsThere p s
there_inside (place.Register n) s holder inside = holder
there_inside (place.Special n) s holder inside = holder
there_inside (place.Granule address) s holder inside = (holder, not_outside _ inside)

recalled_there : (recall : Recall) (past : PastState) (s : State) → HasSameSize (opening past.image) s → IsRecalledWithinLimits recall
    → is_outside (Recalls recall) s ≡ false → IsRecalledThere recall past
recalled_there Ago past s size limits inside = tt
recalled_there (Origin p) past s size limits inside =
    place-stays s (opening past.image) (sym size) p (there_inside p s limits inside)
recalled_there (Lost p) past s size limits inside =
    place-stays s (opening past.image) (sym size) p (there_inside p s limits inside)
recalled_there Calls past s size limits inside = tt

pub recalled_in_time : (recall : Recall) (t : TimelineState) (past : PastState) → HasItsPast t → t.past ≡ Some past
    → IsRecalledWithinLimits recall → is_outside (Recalls recall) t.machine ≡ false → IsRecalledThere recall past
recalled_in_time recall t past has some limits inside =
    let stands : StandsAfter past t.replay t.owed t.machine = subst (λ o. StandsThere o t.replay t.owed t.machine) some has in
    let size = subst (λ s. HasSameSize (opening past.image) s) (sym stands.machine)
    (run-size (past_events past t.replay) (opening past.image)) in
    recalled_there recall past t.machine size limits inside
