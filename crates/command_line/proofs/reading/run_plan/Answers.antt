use Rattle.std.proofs.Common.{◌∙◌, ap, refl, sym, Some}
use Rattle.command_line.specs.CommandLine.{Amount, File, Used, commands}
use Rattle.command_line.proofs.Read.{count_said, count_there, ends_said, file_said, flag_said, operand_there}
use Rattle.command_line.proofs.reading.run_plan.Goals as goal

pub operand-requires : goal.operand-requires
unfolding commands
operand-requires c = operand_there _ _ _ _ _ c.requires.0 refl

pub its_count-requires : goal.its_count-requires
unfolding commands
its_count-requires c = count_there _ _ _ _ _ _ c.requires.1.0 refl

pub its_count-requires-2 : goal.its_count-requires-2
unfolding commands
its_count-requires-2 c = count_there _ _ _ _ _ _ c.requires.1.1.0 refl

pub run_request-requires : goal.run_request-requires
unfolding commands
run_request-requires c =
    let rest = c.requires.1.1.1 in (rest.0, (rest.1.0, (rest.1.1.0, (rest.1.1.1.0, rest.1.1.1.1.1.1.1.1))))

pub returns : goal.returns
unfolding commands
returns c =
    let run = c.run_request.ensures.said in
    let image = file_said _ _ _ _ _ _ c.requires.0 refl c.operand.ensures
    ∙ ap (λ image. Some (File (Some image.now))) (sym c.run_request.ensures.image) in
    let steps = count_said _ _ _ _ _ _ _ c.requires.1.0 c.its_count.ensures
    ∙ ap (λ n. Some (Amount (Some n))) (sym c.run_request.ensures.steps.0) in
    let times = count_said _ _ _ _ _ _ _ c.requires.1.1.0 c.its_count-2.ensures
    ∙ ap (λ n. Some (Amount (Some n))) (sym c.run_request.ensures.steps.1) in
    let json = flag_said _ _ _ _ _ c.requires.1.1.1.1.1.1.1.1.1.1.0 c.flag.ensures
    ∙ ap (λ b. Some (Used b)) (sym c.run_request.ensures.json) in
    let ends = ends_said _ _ _ _ _ c.requires.1.1.1.1.1.1.1.0 c.ends.ensures in
    let profile = file_said _ _ _ _ _ _ c.requires.1.1.1.1.1.1.1.1.0 refl c.text.ensures in
    let calls = file_said _ _ _ _ _ _ c.requires.1.1.1.1.1.1.1.1.1.0 refl c.text-2.ensures in
    (refl, (image, (steps, (times, (run.0, (run.1.0, (run.1.1.0, (run.1.1.1.0, (ends, (profile, (calls, (json, run.1.1.1.1))))))))))))
