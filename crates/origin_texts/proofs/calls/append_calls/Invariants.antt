use Rattle.std.proofs.Common.{◌≡◌, ◌++◌, length}
use Rattle.std.specs.List.{flat_map}
use Rattle.std.specs.Prelude.{string_bytes}
use Rattle.origin_texts.specs.Calls.{call_line}
use Rattle.origin_texts.proofs.calls.append_calls.Given as goal

-- the lines so far, and those of the other calls
abbrev pub invariant-loop-call : goal.invariant-loop-call
invariant-loop-call l = record {
  lines : string_bytes l.text ++ flat_map (call_line l.symbols) l.stack.items
      ≡ string_bytes l.fn.text ++ flat_map (call_line l.symbols) l.fn.stack.items;
}

abbrev pub decreases-loop-call : goal.decreases-loop-call
decreases-loop-call l = length l.stack.items
