use Rattle.std.proofs.Common.{◌++◌, ◌∙◌, ap}
use Rattle.origin_texts.specs.Writes.{made_there, noted}
use Rattle.origin_texts.proofs.Logging.{step_grown}
use Rattle.origin_texts.proofs.log.log_step.Goals as goal

pub returns-clause-log : goal.returns-clause-log
returns-clause-log g c =
    let s = c.args.machine.now in
    step_grown g.C.CapRep.value c.next-planned.result.effect s c.args.before c.next-planned.ensures.effect c.args.log.now.items
    c.log_places.new.log.items
    (c.in_ok-log_places.ensures ∙ ap (λ ps. c.args.log.now.items ++ noted (made_there s) c.args.before ps) c.written_by-places.ensures)
