use Rattle.std.proofs.Common.{◌-◌, ◌∙◌, rules, sym, ap, subst}
use Rattle.std.specs.Prelude.{option_copied}
use Rattle.past.specs.Anchor.{LiesOn, stood}
use Rattle.past.specs.Position.{MayGive}
use Rattle.past.proofs.Anchors.{led, led_may}
use Rattle.past.proofs.past.Past.lead.Goals as goal

pub give_after-requires : goal.give_after-requires
give_after-requires g c =
    let past = c.args.self.now in
    let replay = option_copied c.args.replay in
    let lies = subst (λ a. LiesOn c.args.n a past replay) (sym c.anchor.view_is) c.requires in (
      search rules,
      subst (MayGive (c.args.n - c.anchor.inside.events)) (ap (λ a. stood a replay) c.anchor.view_is ∙ sym c.player-player.ensures)
          (led_may c.args.n _ past replay lies c.ranges.n.fits),
    )

pub returns-clause-lies : goal.returns-clause-lies
returns-clause-lies g c =
    let past = c.args.self.now in
    let replay = option_copied c.args.replay in
    let lies = subst (λ a. LiesOn c.args.n a past replay) (sym c.anchor.view_is) c.requires in
    let given = c.give_after.ensures in
    led c.args.n _ past replay lies c.deref.result.now c.player-player.result c.give_after.new.player c.give_after.new.machine
    c.done-anchor-inside.result c.brought-anchor-inside.result c.owed-anchor-inside.result
    (c.deref.ensures.value ∙ ap (λ p. p.given) c.self.view_is)
    (c.player-player.ensures ∙ ap (λ a. stood a replay) (sym c.anchor.view_is))
    given.state given.position given.size c.done-anchor-inside.ensures c.brought-anchor-inside.ensures c.owed-anchor-inside.ensures
