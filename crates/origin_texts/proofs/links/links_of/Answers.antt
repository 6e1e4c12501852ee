use Rattle.std.proofs.Common.{subst, sym}
use Rattle.std.specs.Prelude.{option_copied}
use Rattle.origin_texts.specs.Log.{IsLog}
use Rattle.origin_texts.specs.Origin.{history}
use Rattle.origin_texts.proofs.Histories.{early_history}
use Rattle.origin_texts.proofs.Stretching.{if_ok}
use Rattle.origin_texts.proofs.links.links_of.Goals as goal

pub returns : goal.returns
returns g c =
    let past = c.args.past.now in
    let replay = option_copied c.args.replay in
    if_ok c.follow.result _ _ c.follow.ensures
    (λ f follows. follows (history past replay) c.args.from (early_history past replay) c.requires.there c.requires.order
    (subst (IsLog (history past replay) c.args.from c.args.to) (sym c.deref.ensures.value) c.in_ok-log.ensures))
