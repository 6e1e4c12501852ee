use Rattle.std.proofs.Common.{sym, ap, ap₂, ◌∙◌}
use Rattle.std.specs.Prelude.{Bool, is_err}
use Rattle.cap_bounds.specs.CapValue.{CapValue}
use Rattle.steps.specs.Event.{after}
use Rattle.steps.specs.State.{State}
use Rattle.steps.specs.Step.{fetch}
use Rattle.steps.specs.declared.event.Event.TheVariants.{Step}
use Rattle.special_regs.specs.Scrs.{Scrs}
use Rattle.special_regs.specs.Traps.{trapped_scrs}
use Rattle.tagged_memory.specs.Memory.{Memory}
use Rattle.sim_run.proofs.Stops.{at_entry}
use Rattle.sim_run.proofs.stopping.is_entry_unfetched.Goals as goal

-- whether a fetch fails, by what it looks at
abbrev fails : State → CapValue → Memory → Bool
fails s pcc memory = is_err (fetch (record s { scrs = record s.scrs { pcc = pcc }; memory = memory }))

pub returns : goal.returns
returns g c =
    let s = c.args.machine.now in
    let entry = at_entry s c.args.fault c.requires.running c.requires.traps in
    let pcc = c.pcc.ensures.value ∙ ap (λ (r : Scrs). r.pcc) (c.enter_trap.ensures.scrs
    ∙ ap (λ r. trapped_scrs c.args.fault r) (c.copied-scrs.ensures ∙ c.scrs.ensures.value ∙ ap (λ (h : State). h.scrs)
    c.hart-hart.ensures.value))
    ∙ sym (ap (λ (r : Scrs). r.pcc) entry.0) in
    let memory = c.memory.ensures.value ∙ ap (λ (h : State). h.memory) c.hart-hart.ensures.value ∙ sym entry.1 in
    c.is_unfetched.ensures (after Step s) ∙ ap₂ (fails (after Step s)) pcc memory
