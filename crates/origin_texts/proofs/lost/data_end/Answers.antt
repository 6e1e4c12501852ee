use Rattle.std.proofs.Common.{◌∙◌, ap, subst, sym}
use Rattle.std.specs.Prelude.{option_copied, option_map}
use Rattle.hart.specs.Opening.{opening}
use Rattle.origins.specs.Places.{IsThere}
use Rattle.origin_texts.specs.Down.{as_end}
use Rattle.origin_texts.specs.Log.{LeadDown}
use Rattle.origin_texts.specs.Lost.{data_end}
use Rattle.origin_texts.specs.Origin.{history}
use Rattle.origin_texts.proofs.Descending.{data_place, data_end-none, data_end-some}
use Rattle.origin_texts.proofs.Histories.{among_past}
use Rattle.origin_texts.proofs.Telling.{oldest}
use Rattle.origin_texts.proofs.lost.data_end.Goals as goal

pub returns-in_err-granule-clause-end : goal.returns-in_err-granule-clause-end
returns-in_err-granule-clause-end c =
    ap (option_map as_end) c.from_residual-in_err-granule.ensures
    ∙ sym (ap data_end c.in_ok-last.ensures.items
    ∙ data_end-none c.pop.new.self.items c.in_ok-last.last (sym c.granule_of.ensures ∙ c.in_err-granule.was))

pub returns-clause-end : goal.returns-clause-end
returns-clause-end c = sym (ap data_end c.in_ok-last.ensures.items
    ∙ data_end-some c.pop.new.self.items c.in_ok-last.last c.in_ok-granule.granule (sym c.granule_of.ensures ∙ c.in_ok-granule.was))

pub returns-clause-is : goal.returns-clause-is
returns-clause-is c =
    let past = c.args.past.now in
    let replay = option_copied c.args.replay in
    let last = c.in_ok-last.last in
    let it = oldest (history past replay) c.args.events c.requires.low c.pop.new.self.items last
    (subst (LeadDown (history past replay) c.args.events c.requires.low) c.in_ok-last.ensures.items c.requires.leads) in
    record {
      above = record { low = it.events; leads = it.leads };
      there = subst (λ p. IsThere p (opening past.image))
          (data_place last c.in_ok-granule.granule (sym c.granule_of.ensures ∙ c.in_ok-granule.was)) it.there;
      store = among_past past replay last.place it.events last.found it.found;
    }
