-- A step at which the tag goes.
use Rattle.std.proofs.Common.{◌≡◌, Bool, true, false, not, ◌&&◌, Option, Some, None, refl, ap, ◌∙◌, if◌then◌else◌}
use Rattle.cap_bounds.specs.CapValue.{is_tagged}
use Rattle.origins.specs.declared.place.Place.{Place}
use Rattle.steps.specs.Event.{after}
use Rattle.steps.specs.State.{State}
use Rattle.steps.specs.declared.event.Event.{Event}
use Rattle.origins.specs.Parts.{had_tag}
use Rattle.origins.specs.Places.{held}
use Rattle.origins.specs.Search.{lost_at}
use Rattle.origins.specs.declared.making.Making.{Making}

both-none : (b : Bool) → ◌≡◌ {A = Option Making} (if b then None else None) None
both-none true = refl
both-none false = refl

pub lost-as : (p : Place) (o : Option Making) (e : Event) (s : State) (gone had : Bool)
    → gone ≡ not (is_tagged (held p (after e s))) → had ≡ had_tag p o s
    → (if gone && had then o else None) ≡ lost_at p o e s
lost-as p (Some making) e s gone had here before =
    ap (λ b. if b && had then Some making else None) here
    ∙ ap (λ b. if not (is_tagged (held p (after e s))) && b then Some making else None) before
lost-as p None e s gone had here before = both-none (gone && had)
