use Rattle.std.proofs.Common.{◌++◌, ◌∷◌, [], ap, sym, ◌∙◌}
use Rattle.std.proofs.lemmas.Result.{IfOk-weaker}
use Rattle.std.specs.Prelude.{string_bytes, ◌≡◌}
use Rattle.json.specs.Token.{begin_object}
use Rattle.hart.specs.Opening.{opening}
use Rattle.objects.specs.ItemLaws.{said_two}
use Rattle.objects.specs.Items.{line_of}
use Rattle.schedules.specs.Schedule.{scheduled}
use Rattle.explain.specs.StandingText.{standing_fields}
use Rattle.sim_run.specs.Object.{ending_object, standing}
use Rattle.sim_run.specs.Unhandled.{trap_left}
use Rattle.sim_run.specs.Watched.{fields_of}
use Rattle.sim_run.proofs.object.ending_object.Goals as goal

pub returns : goal.returns
returns g c =
    let symbols = c.args.symbols.now in
    let s = c.args.machine.now in
    let first = opening c.args.image.now in
    let left = trap_left (scheduled c.args.schedule c.args.input.now first) first in
    let end = standing_fields symbols (standing c.args.ran.end c.args.ran.steps) s in
    IfOk-weaker c.finish.result _ (λ line. string_bytes line ≡ ending_object symbols c.args.ran.end c.args.ran.steps left s)
    (λ line e. e
    ∙ ap line_of (said_two _ _ _ end (fields_of symbols c.in_ok-taken.taken s) c.in_ok-put_end.ensures.tokens
    c.in_ok-put_traps.ensures.tokens
    ∙ ap (λ before. before ++ (end ++ fields_of symbols c.in_ok-taken.taken s)) c.in_ok-object.ensures.tokens
    ∙ ap (λ traps. begin_object ∷ (end ++ traps)) (sym (c.in_ok-taken.ensures symbols s))))
    c.finish.ensures
