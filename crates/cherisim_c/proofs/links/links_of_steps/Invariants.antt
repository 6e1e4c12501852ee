use Rattle.std.proofs.Common.{◌≡◌, length, take}
use Rattle.std.specs.Prelude.{map}
use Rattle.cherisim_c.specs.Links.{loss_links, shown_link}
use Rattle.cherisim_c.proofs.links.links_of_steps.Given as goal

abbrev pub invariant-loop-step : goal.invariant-loop-step
invariant-loop-step l = record {
  links : map shown_link l.links.items ≡ loss_links l.past (take l.step-index l.steps);
  few : length l.links.items ≡ l.step-index;
}
