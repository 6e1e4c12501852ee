use Rattle.std.proofs.Common.{◌++◌, ap, sym, ◌∙◌}
use Rattle.std.proofs.lemmas.Result.{on_ok_weaker}
use Rattle.std.specs.Prelude.{codes, string_bytes}
use Rattle.sim_run.specs.Ending.{last_trap}
use Rattle.sim_run.proofs.Texts.{text_on}
use Rattle.sim_run.proofs.ending.append_trap_lines.Goals as goal

pub returns-in_ok-append_last_trap-in-None : goal.returns-in_ok-append_last_trap-in-None
returns-in_ok-append_last_trap-in-None g c =
    let s = c.args.machine.now in
    let old = string_bytes c.args.text.now in
    on_ok_weaker c.append-in-None.result
    (λ e left told. text_on old (string_bytes c.append_last_trap.new.text) (string_bytes c.append-in-None.new.text)
    (last_trap c.args.symbols.now s) (codes "\n") c.in_ok-append_last_trap-in-None.ensures e
    ∙ ap (λ lines. old ++ lines) (sym (rw c.in-None.is at told)))
    c.append-in-None.ensures.bytes
