use Rattle.std.proofs.Common.{◌≡◌, ◌++◌, true}
use Rattle.std.specs.Prelude.{string_bytes}
use Rattle.std.specs.List.{flat_map, All}
use Rattle.tagged_memory.specs.Memory.{has_tag}
use Rattle.tagged_memory.specs.Tagged.{tagged_rest}
use Rattle.debugger.specs.Reply.{cap_line, cap_lines}
use Rattle.debugger.proofs.caps.append_caps.Given as goal

-- what is written and the lines of the granules that are left make all lines, and those granules are tagged
abbrev pub invariant-loop-address : goal.invariant-loop-address
invariant-loop-address g l = record {
  lines : string_bytes l.text ++ flat_map (cap_line l.memory) (tagged_rest l.address-iterator)
      ≡ string_bytes l.fn.text ++ cap_lines l.memory;
  tagged : All (λ granule. has_tag l.memory granule ≡ true) (tagged_rest l.address-iterator);
}
