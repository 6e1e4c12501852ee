use Rattle.std.proofs.Common.{◌≡◌, ◌+◌, ◌<◌, ◌∷◌, [], ◌∙◌, ap, arith, get_or, length}
use Rattle.std.proofs.lemmas.List.{length-append}
use Rattle.std.specs.Prelude.{map}
use Rattle.hart.specs.Opening.{opening}
use Rattle.origins.proofs.Stays.{place-stays}
use Rattle.cherisim_c.specs.Links.{shown_link, step_link}
use Rattle.cherisim_c.proofs.Losses.{no_step, one_more, step_there}
use Rattle.cherisim_c.proofs.links.links_of_steps.Goals as goal

pub loop-step-init : goal.loop-step-init
loop-step-init c = record {
  links = ap (map shown_link) c.new-links.ensures.items;
  few = ap length c.new-links.ensures.items;
}

pub step_link-requires : goal.step_link-requires
step_link-requires c =
    let steps = c.args.steps.now in
    let i = c.loop-step.step-index in
    let few : i < length steps = omega (arith, c.loop-step-test.true) in
    place-stays (opening c.args.past.now.image) c.in-Ok.machine c.in-Ok.ensures.size (get_or steps i no_step).place
    (step_there c.args.past.now i steps few c.requires)

pub loop-step-preserved : goal.loop-step-preserved
loop-step-preserved c =
    let past = c.args.past.now in
    let steps = c.args.steps.now in
    let l = c.loop-step in
    let i = l.step-index in
    let few : i < length steps = omega (arith, c.loop-step-test.true) in
    record {
      links = one_more past steps i l.links.items c.push.new.self.items c.step_link.result few c.in_ok-push.ensures.items l.invariant.links
          (c.step_link.ensures ∙ ap (step_link (get_or steps i no_step)) c.in-Ok.ensures.machine);
      few = omega (arith, l.invariant.few, ap length c.in_ok-push.ensures.items, length-append l.links.items (c.step_link.result ∷ []));
    }
