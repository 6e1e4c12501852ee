use Rattle.std.proofs.Common.{◌≡◌}
use Rattle.arrayvec.specs.ArrayString.{array_string_len}
use Rattle.bounds_text.specs.Picture.{marks}
use Rattle.bounds_text.proofs.window.picture.Given as goal

abbrev pub invariant-loop-column : goal.invariant-loop-column
invariant-loop-column l = record {
  text : l.text.bytes ≡ marks l.span l.column;
  room : array_string_len l.text ≡ l.column;
}
