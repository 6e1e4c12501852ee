use Rattle.std.proofs.Common.{rules, tests}
use Rattle.debugger.proofs.Pieces.{push_room, push_full}
use Rattle.debugger.proofs.talking.keep.Goals as goal

pub returns-then-not-is_full : goal.returns-then-not-is_full
returns-then-not-is_full c = push_room 256 _ _ c.args.byte c.push.ensures.items (search (rules, tests))

pub returns-else-not-is_full : goal.returns-else-not-is_full
returns-else-not-is_full c = push_full 256 c.args.line.now.items c.args.byte (search (rules, tests))
