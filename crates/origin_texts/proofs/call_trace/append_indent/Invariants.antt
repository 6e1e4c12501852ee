use Rattle.std.proofs.Common.{◌≡◌, ◌++◌}
use Rattle.std.specs.Prelude.{string_bytes}
use Rattle.origin_texts.specs.CallTrace.{indent}
use Rattle.origin_texts.proofs.call_trace.append_indent.Given as goal

-- the spaces so far, and those that are left
abbrev pub invariant-loop-left : goal.invariant-loop-left
invariant-loop-left l = record {
  spaces : string_bytes l.text ++ indent l.left ≡ string_bytes l.fn.text ++ indent l.fn.depth;
}

abbrev pub decreases-loop-left : goal.decreases-loop-left
decreases-loop-left l = l.left
