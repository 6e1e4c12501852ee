use Rattle.std.proofs.Common.{◌++◌, ⊎_elim, ◌∙◌, ap₂}
use Rattle.std.specs.Prelude.{string_bytes}
use Rattle.schedules.specs.Schedule.{scheduled}
use Rattle.origin_texts.specs.CallTrace.{call_trace}
use Rattle.origin_texts.specs.CallTraced.{WritesCalls}
use Rattle.origin_texts.proofs.CallTracing.{few_events}
use Rattle.origin_texts.proofs.call_trace.calls_of.Goals as goal

pub returns-in-Done : goal.returns-in-Done
returns-in-Done g c =
    let s = c.args.machine.now in
    let symbols = c.args.symbols.now in
    let walk = c.walk_told-how in
    let events = scheduled c.args.schedule c.args.input.now s in
    let wrote : WritesCalls symbols 0 c.new.result.items events s walk.new.watch.number walk.new.watch.stack.items
    (string_bytes c.new-2.result) (string_bytes walk.new.watch.text) =
    ⊎_elim (λ is. let met = rw is at walk.ensures.whole in met.0.told.1) (λ is. let met = rw is at walk.ensures.whole in met.0.told.1)
    c.in-Done.is in
    let all = wrote (few_events c.args.schedule c.args.input.now s c.requires.range) in
    all.lines
    ∙ ap₂ (λ before calls. before ++ call_trace symbols 0 calls events s) c.new-2.ensures.bytes c.new.ensures.items
