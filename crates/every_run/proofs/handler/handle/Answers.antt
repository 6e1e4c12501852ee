use Rattle.std.proofs.Common.{ap, ◌∙◌}
use Rattle.every_run.proofs.Handlers.{on-ok-then}
use Rattle.every_run.proofs.handler.handle.Goals as goal

pub returns : goal.returns
returns g c =
    on-ok-then _ _ c.walk_trap.result (λ handled. record {
      direct = c.in_ok-enter.ensures.direct;
      entry = c.enter.new.hart;
      begins = c.in_ok-enter.ensures.begins;
      handled = handled c.args.hart.now (c.mscratchc-kept.ensures ∙ ap (λ x. x.mscratchc) c.scrs.ensures.value);
    }) c.walk_trap.ensures
