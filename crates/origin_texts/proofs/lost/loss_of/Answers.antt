use Rattle.std.proofs.Common.{◌∙◌, ap, rules, subst, sym}
use Rattle.std.specs.Prelude.{option_copied}
use Rattle.cap_bounds.specs.CapValue.{is_tagged}
use Rattle.hart.specs.Opening.{opening}
use Rattle.origins.proofs.Stays.{place-stays}
use Rattle.origins.specs.Places.{held}
use Rattle.past.specs.Given.{count_of, state_at}
use Rattle.origin_texts.specs.Down.{as_end, found_down}
use Rattle.origin_texts.specs.Log.{AreLinks}
use Rattle.origin_texts.specs.Origin.{history}
use Rattle.origin_texts.proofs.Losses.{lost_in_data, nothing_lost}
use Rattle.origin_texts.proofs.lost.loss_of.Goals as goal

pub held-requires : goal.held-requires
held-requires g c = (
  search rules,
  place-stays (opening c.args.past.now.image) c.in_ok-machine.machine c.in_ok-machine.ensures.size c.args.place c.requires,
)

pub returns-in_default-clause-is : goal.returns-in_default-clause-is
returns-in_default-clause-is g c =
    nothing_lost c.args.past.now (option_copied c.args.replay) c.no_loss-in_default.result c.no_loss-in_default.ensures.items
    c.no_loss-in_default.ensures.ending

pub returns-in-Nowhere-clause-is : goal.returns-in-Nowhere-clause-is
returns-in-Nowhere-clause-is g c =
    nothing_lost c.args.past.now (option_copied c.args.replay) c.no_loss-in-Nowhere.result c.no_loss-in-Nowhere.ensures.items
    c.no_loss-in-Nowhere.ensures.ending

pub returns : goal.returns
returns g c =
    let past = c.args.past.now in
    let replay = option_copied c.args.replay in
    let place = c.args.place in
    let links = c.in_ok-links.field-0.links.items in
    let end = c.in-Some.end in
    let down = c.in_ok-links.ensures in
    let untagged = sym (c.tag.ensures ∙ ap is_tagged c.held.ensures.value
    ∙ ap (λ s. is_tagged (held place s)) (c.in_ok-machine.ensures.machine ∙ ap (λ n. state_at n past replay) c.count.ensures.value))
    ∙ c.if-tag.false in
    record {
      loss = lost_in_data past replay place (count_of past.given) links (as_end end) c.in_ok-ending.ending untagged
          (down.all c.if-is_lost.false) (down.down ∙ ap (λ b. found_down b links) c.if-is_lost.false) c.in-Some.ensures.end
          c.in_ok-ending.ensures.ending c.in_default-2.not-Nowhere;
      is = record {
        are = subst (λ n. AreLinks (history past replay) n end.above.items) c.count-2.ensures.value c.in-Some.ensures.is.above;
        ending = c.in_ok-ending.ensures.is;
      };
    }
