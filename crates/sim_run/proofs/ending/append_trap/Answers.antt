use Rattle.std.proofs.Common.{◌≡◌, ◌++◌, ap, ◌∙◌}
use Rattle.std.proofs.lemmas.Result.{on_ok_weaker}
use Rattle.std.specs.Prelude.{codes, decimal, string_bytes}
use Rattle.sim_run.specs.Ending.{trap_part}
use Rattle.sim_run.proofs.ending.append_trap.Goals as goal

pub returns : goal.returns
returns c =
    let part : c.as_str.result.now ≡ trap_part c.args.symbols.now c.args.fault.mcause c.args.fault.mtval c.args.mepc =
    c.as_str.ensures.value ∙ c.trap_part-part.ensures in
    on_ok_weaker c.append.result
    (λ e. e
    ∙ ap (λ more. string_bytes c.args.text.now
    ++ (more ++ codes ", step " ++ decimal c.args.number ++ codes "\n")) part)
    c.append.ensures.bytes
