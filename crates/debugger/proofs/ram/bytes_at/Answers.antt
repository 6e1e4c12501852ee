use Rattle.debugger.proofs.RamBytes.{one_more_byte}
use Rattle.debugger.proofs.ram.bytes_at.Goals as goal

pub loop-i-preserved : goal.loop-i-preserved
loop-i-preserved c =
    let more = one_more_byte c.args.memory.now c.args.address c.loop-i.i _ c.byte_at.ensures c.requires.low in
    cc (more, c.in_ok-push.ensures.items, c.loop-i.invariant)
