use Rattle.std.proofs.Common.{◌∙◌, ap, length, subst, sym}
use Rattle.steps.specs.declared.event.Event.TheVariants.{Step}
use Rattle.origins.proofs.Stays.{length-after}
use Rattle.origin_texts.specs.Writes.{IsGrown}
use Rattle.origin_texts.proofs.Logging.{byte_grown, tick_grown}
use Rattle.origin_texts.proofs.Stretching.{on_ok}
use Rattle.origin_texts.proofs.log.log_event.Goals as goal

pub returns-in-Step-clause-size : goal.returns-in-Step-clause-size
returns-in-Step-clause-size g c =
    on_ok c.log_step.result _ _ c.log_step.ensures.state
    (λ same. ap (λ m. length m.memory.bytes) same ∙ length-after c.args.machine.now c.hart.ensures.state Step)

pub returns-in-Tick-clause-log : goal.returns-in-Tick-clause-log
returns-in-Tick-clause-log g c =
    subst (λ e. IsGrown c.args.before e c.args.machine.now c.args.log.now.items c.args.log.now.items) (sym c.in-Tick.is)
    (tick_grown c.args.before c.args.machine.now c.args.log.now.items)

pub returns-in-Byte-clause-log : goal.returns-in-Byte-clause-log
returns-in-Byte-clause-log g c =
    subst (λ e. IsGrown c.args.before e c.args.machine.now c.args.log.now.items c.args.log.now.items) (sym c.in-Byte.is)
    (byte_grown c.args.before c.in-Byte.field-0 c.args.machine.now c.args.log.now.items)
