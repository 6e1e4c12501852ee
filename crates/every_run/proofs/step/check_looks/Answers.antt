use Rattle.std.proofs.Common.{sym, ◌∙◌}
use Rattle.every_run.specs.Known.{IsOutside}
use Rattle.every_run.proofs.Checked.{looks-load, looks-capability}
use Rattle.every_run.proofs.step.check_looks.Goals as goal

pub returns-in-Load : goal.returns-in-Load
returns-in-Load g c =
    looks-load (IsOutside c.args.any.now) c.args.insn c.args.hart.now (sym c.kind.ensures ∙ c.in-Load.is) c.access_place.result
    c.access_place.ensures c.check_data.result c.check_data.ensures

pub returns-in-LoadCapability : goal.returns-in-LoadCapability
returns-in-LoadCapability g c =
    looks-capability (IsOutside c.args.any.now) c.args.insn c.args.hart.now (sym c.kind.ensures ∙ c.in-LoadCapability.is)
    c.access_place-in-LoadCapability.result c.access_place-in-LoadCapability.ensures c.check_data-in-LoadCapability.result
    c.check_data-in-LoadCapability.ensures
