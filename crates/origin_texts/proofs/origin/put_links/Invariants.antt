use Rattle.std.proofs.Common.{◌≤◌, ◌++◌, []}
use Rattle.std.specs.Prelude.{Some, option_copied, string_bytes}
use Rattle.hart.specs.Opening.{opening}
use Rattle.origins.specs.Places.{IsThere}
use Rattle.past.specs.Given.{count_of}
use Rattle.origin_texts.specs.Held.{IsStretch}
use Rattle.origin_texts.specs.Log.{chain_from}
use Rattle.origin_texts.specs.Origin.{history, origin_text}
use Rattle.origin_texts.specs.Put.{IsPut}
use Rattle.origin_texts.proofs.origin.put_links.Given as goal

abbrev pub invariant-loop-left : goal.invariant-loop-left
invariant-loop-left g l = record {
  there : IsThere l.place (opening l.past.image);
  few : l.left ≤ count_of l.past.given;
  put : IsStretch l.fn.stretch [] → IsPut l.symbols l.past (option_copied l.replay) (string_bytes l.text) l.stretch
      (chain_from (history l.past (option_copied l.replay)) (Some l.place) l.left)
      (string_bytes l.fn.text ++ origin_text l.symbols l.past (option_copied l.replay) l.fn.place);
}

abbrev pub decreases-loop-left : goal.decreases-loop-left
decreases-loop-left g l = l.left
