use Rattle.std.proofs.Common.{◌≡◌, take}
use Rattle.devices.proofs.devices.Devices.copied.Given as goal

-- the bytes so far
abbrev pub invariant-loop-byte : goal.invariant-loop-byte
invariant-loop-byte l = l.queue.items ≡ take l.byte-index l.byte-items
