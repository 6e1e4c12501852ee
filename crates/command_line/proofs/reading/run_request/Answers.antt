use Rattle.std.proofs.Common.{refl}
use Rattle.command_line.proofs.Read.{count_said, count_there, file_said, flag_said}
use Rattle.command_line.proofs.reading.run_request.Goals as goal

pub its_count-requires : goal.its_count-requires
its_count-requires c = count_there _ _ _ _ _ _ c.requires.1.0 refl

pub its_count-requires-2 : goal.its_count-requires-2
its_count-requires-2 c = count_there _ _ _ _ _ _ c.requires.1.1.0 refl

pub start-requires-clause-fit : goal.start-requires-clause-fit
start-requires-clause-fit c = c.requires.1.1.1.1.1.0

pub start-requires-clause-kind : goal.start-requires-clause-kind
start-requires-clause-kind c = refl

pub returns-clause-said : goal.returns-clause-said
returns-clause-said c =
    let input = file_said _ _ _ _ _ _ c.requires.0 refl c.text.ensures in
    let gap = count_said _ _ _ _ _ _ _ c.requires.1.0 c.its_count.ensures in
    let tick = count_said _ _ _ _ _ _ _ c.requires.1.1.0 c.its_count-2.ensures in
    let quiet = flag_said _ _ _ _ _ c.requires.1.1.1.0 c.flag.ensures in
    let trace = file_said _ _ _ _ _ _ c.requires.1.1.1.1.0 refl c.text-2.ensures in
    let from = c.start.ensures in
    let last = count_said _ _ _ _ _ _ _ c.requires.1.1.1.1.1.1.0 c.count.ensures in
    let policy = file_said _ _ _ _ _ _ c.requires.1.1.1.1.1.1.1.0 refl c.text-3.ensures in
    let symbols = file_said _ _ _ _ _ _ c.requires.1.1.1.1.1.1.1.1.0 refl c.text-4.ensures in
    let lines = file_said _ _ _ _ _ _ c.requires.1.1.1.1.1.1.1.1.1.0 refl c.text-5.ensures in
    (input, (gap, (tick, (quiet, (trace, (from, (last, (policy, (symbols, (lines, tt))))))))))
