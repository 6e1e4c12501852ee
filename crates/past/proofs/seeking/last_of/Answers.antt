use Rattle.std.proofs.Common.{◌∙◌, refl}
use Rattle.origins.specs.Search.{last}
use Rattle.past.proofs.seeking.last_of.Goals as goal

pub returns-clause-found : goal.returns-clause-found
unfolding last
returns-clause-found g c =
    let new = c.new-search.ensures in
    c.meet_first.ensures.found ∙ rw (new.sought, new.place, new.before, new.found, c.at_beginning-player.ensures) refl
