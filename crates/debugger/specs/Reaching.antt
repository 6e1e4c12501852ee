-- What the code that runs from here on can reach, as replies: up to the next trap, unsealing or sealed jump, or through doors.
use Rattle.std.specs.Prelude.{ℕ, List, []}
use Rattle.symbols.specs.Symbols.{Symbol}
use Rattle.steps.specs.State.{State}
use Rattle.reach.specs.declared.may.Horizon.{Horizon}
use Rattle.reach.specs.declared.may.Horizon.TheVariants.{Stretch, Turn}
use Rattle.reach.specs.declared.may.May.{May}
use Rattle.doors.specs.ThroughOrder.{doors_in, members_through}
use Rattle.reach.specs.Reach.{members_in}
use Rattle.reach_texts.specs.Asked.{first_that}
use Rattle.reach_texts.specs.Object.{objects_text}
use Rattle.reach_texts.specs.Summary.{summary_text}
use Rattle.reach_texts.specs.Text.{answer_text, graph_text, members_text}

abbrev pub reach_reply : Horizon → List Symbol → State → List ℕ
reach_reply Stretch symbols s = summary_text Stretch symbols (members_in s)
reach_reply Turn symbols s = summary_text Turn symbols (members_through s)

abbrev pub members_reply : List Symbol → State → List ℕ
members_reply symbols s = members_text symbols (members_in s)

abbrev pub graph_reply : List Symbol → State → List ℕ
graph_reply symbols s = graph_text symbols (members_in s)

abbrev pub objects_reply : List Symbol → State → List ℕ
objects_reply symbols s = objects_text symbols (members_in s)

abbrev pub may_reply : Horizon → List Symbol → May → State → List ℕ
may_reply Stretch symbols may s = answer_text Stretch symbols [] (members_in s) (first_that may (members_in s))
may_reply Turn symbols may s = answer_text Turn symbols (doors_in s) (members_through s) (first_that may (members_through s))
