-- What holds of a place that nothing between two states writes.
use Rattle.std.proofs.Common.{Bool, true, false, eqb, refl, ◌∙◌}
use Rattle.base.specs.declared.registers.scr.TheConstants.{PCC}
use Rattle.cap_bounds.specs.CapValue.{CapValue}
use Rattle.origins.specs.declared.place.Place.{Place}
use Rattle.origins.specs.declared.place.Place.TheVariants as place
use Rattle.steps.specs.State.{State}
use Rattle.origins.specs.Kept.{HoldsTheSame, IsKeptBut, MovesAtMost}
use Rattle.origins.specs.Places.{held}

pub moves-refl : (v : CapValue) → MovesAtMost v v
moves-refl v = record {
  tag = refl;
  fields = λ _. record { base = refl; top = refl; perms = refl; flag = refl; otype = refl };
}

pub moves-trans : (u v w : CapValue) → MovesAtMost u v → MovesAtMost v w → MovesAtMost u w
moves-trans u v w one other = record {
  tag = other.tag ∙ one.tag;
  fields = λ tagged.
      let first = one.fields tagged in
      let last = other.fields (one.tag ∙ tagged) in
      record {
        base = last.base ∙ first.base;
        top = last.top ∙ first.top;
        perms = last.perms ∙ first.perms;
        flag = last.flag ∙ first.flag;
        otype = last.otype ∙ first.otype;
      };
}

pub but-refl : (b : Bool) (v : CapValue) → IsKeptBut b v v
but-refl true v = moves-refl v
but-refl false v = refl

but-trans : (b : Bool) (u v w : CapValue) → IsKeptBut b u v → IsKeptBut b v w → IsKeptBut b u w
but-trans true u v w one other = moves-trans u v w one other
but-trans false u v w one other = other ∙ one

pub kept-refl : (p : Place) (s : State) → HoldsTheSame p s s
kept-refl (place.Special n) s = but-refl (eqb n PCC) (held (place.Special n) s)
kept-refl (place.Register n) s = refl
kept-refl (place.Granule address) s = refl

pub kept-trans : (p : Place) (r s t : State) → HoldsTheSame p r s → HoldsTheSame p s t → HoldsTheSame p r t
kept-trans (place.Special n) r s t one other = but-trans (eqb n PCC) _ _ _ one other
kept-trans (place.Register n) r s t one other = other ∙ one
kept-trans (place.Granule address) r s t one other = other ∙ one
