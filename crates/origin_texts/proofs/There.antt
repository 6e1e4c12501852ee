-- What is there is a place; and where something is there in an opening state, it is there later.
use Rattle.std.proofs.lemmas.Bool.{cond_both}
use Rattle.std.specs.Prelude.{◌==◌}
use Rattle.cap_bounds.specs.CapValue.{value_address}
use Rattle.origins.specs.Places.{IsHolder}
use Rattle.origins.specs.declared.place.Place.{Place}
use Rattle.origins.specs.declared.place.Place.TheVariants as place
use Rattle.steps.specs.State.{State}
use Rattle.origins.specs.Kept.{AreThere}
use Rattle.origins.specs.Places.{IsThere, held}
use Rattle.origins.specs.Tags.{tag_asked}
use Rattle.origins.specs.declared.making.Making.{Making}
use Rattle.origins.specs.declared.making.Making.TheVariants.{Number, Copied, Cleared, Loaded, Moved, Bounded, BoundedExactly, Restricted}
use Rattle.origins.specs.declared.making.Making.TheVariants.{Flagged, Sealed, Unsealed, SealedEntry, Linked, Opened, Entered, Resumed}
use Rattle.origin_texts.specs.Asked.{AreAskedThere}

pub holder : (p : Place) (s : State) → IsThere p s → IsHolder p
holder (place.Register n) s there = there
holder (place.Special n) s there = there
holder (place.Granule address) s there = there.0

-- ---- what conditions name

pub asked-there : (making : Making) (s : State) → AreThere making s → AreAskedThere (tag_asked making s) s
unfolding tag_asked
asked-there Number s there = (tt, tt)
asked-there (Copied from) s there = (there.0, tt)
asked-there (Cleared from) s there = (tt, tt)
asked-there (Loaded address authority) s there = (there.0, (there.1, tt))
asked-there (Moved from address) s there = (there.0, (there.0, (there.0, tt)))
asked-there (Bounded from length) s there = (there.0, (there.0, (there.0, tt)))
asked-there (BoundedExactly from length) s there = (there.0, (there.0, (there.0, (tt, tt))))
asked-there (Restricted from mask) s there = (there.0, (there.0, tt))
asked-there (Flagged from flag) s there = (there.0, (there.0, tt))
asked-there (Sealed from authority) s there = (there.0, (there.1, (there.0, (there.1, (there.1, (there.1, (there.1, tt)))))))
asked-there (Unsealed from authority) s there = (there.0, (there.1, (there.0, (there.1, (there.1, (there.1, (there.1, tt)))))))
asked-there (SealedEntry from) s there = (there.0, (there.0, (there.0, tt)))
asked-there (Linked address) s there = (there.0, (there.0, (there.0, (there.0, tt))))
asked-there (Opened from) s there = (there.0, tt)
asked-there (Entered from address) s there = (there.0, (there.0, tt))
asked-there (Resumed from address) s there =
    cond_both (value_address (held from s) == address) _ _
    (λ l. AreAskedThere l s) (λ _. (there.0, tt)) (λ _. (there.0, (there.0, (there.0, tt))))
