use Rattle.std.proofs.Common.{◌≡◌, ◌++◌, ap, ◌∙◌}
use Rattle.std.specs.Prelude.{string_bytes}
use Rattle.explain.specs.StandingText.{standing_text}
use Rattle.hart.specs.Opening.{opening}
use Rattle.schedules.specs.Schedule.{scheduled}
use Rattle.sim_run.specs.Ending.{trap_lines}
use Rattle.sim_run.specs.Unhandled.{trap_left}
use Rattle.sim_run.proofs.ending.ending_lines.Goals as goal

pub returns : goal.returns
returns g c =
    let symbols = c.args.symbols.now in
    let s = c.args.machine.now in
    let first = opening c.args.image.now in
    let left = trap_left (scheduled c.args.schedule c.args.input.now first) first in
    let standing : string_bytes c.put_standing.new.text ≡ standing_text symbols c.args.steps s =
    c.in_ok-put_standing.ensures ∙ ap (λ text. text ++ standing_text symbols c.args.steps c.hart.result.now) c.new-text.ensures.bytes
    ∙ ap (standing_text symbols c.args.steps) c.hart.ensures.value in
    c.in_ok-append_trap_lines.ensures left (c.in_ok-lines.ensures s)
    ∙ ap (λ text. text ++ trap_lines symbols left.first left.last s) standing
