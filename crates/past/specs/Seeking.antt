-- What a search finds, with the events that are still to come.
use Rattle.std.specs.Prelude.{List, Option}
use Rattle.steps.specs.State.{State}
use Rattle.steps.specs.declared.event.Event.{Event}
use Rattle.origins.specs.Search.{last_after}
use Rattle.origins.specs.declared.search.Found.{Found}
use Rattle.origins.specs.declared.search.Search.{Search}

abbrev pub found_by : Search → List Event → State → Option Found
found_by search events s = last_after search.sought search.place search.before search.found events s
