-- What is known of where a tag went.
use Rattle.std.proofs.Common.{◌≡◌, ℕ, List, [], ◌∷◌, ◌++◌, refl, sym, ap, subst, ◌∙◌, arith}
use Rattle.std.specs.Prelude.{false, if◌then◌else◌, Option, Some, None, map}
use Rattle.cap_bounds.specs.CapValue.{is_tagged}
use Rattle.origins.specs.Places.{held}
use Rattle.origins.specs.declared.place.Place.{Place}
use Rattle.origins.specs.declared.place.Place.TheVariants.{Granule}
use Rattle.origins.specs.declared.search.Sought.TheVariants.{Lost}
use Rattle.past.specs.Given.{PastState, count_of, state_at}
use Rattle.past.specs.Replay.{ReplayState}
use Rattle.origin_texts.specs.Chain.{whole_chain}
use Rattle.origin_texts.specs.Down.{AreSteps, IsEnding, IsLoss}
use Rattle.origin_texts.specs.Log.{AreLinks, LeadDown}
use Rattle.origin_texts.specs.Lost as spec
use Rattle.origin_texts.specs.Lost.{ending_steps, step_of}
use Rattle.origin_texts.specs.Origin.{history}
use Rattle.origin_texts.specs.declared.log.Link.{Link}
use Rattle.origin_texts.specs.declared.lost.Ending.{Ending}
use Rattle.origin_texts.specs.declared.lost.Ending.TheVariants.{Nowhere, AtTag, InCopy, InStore}
use Rattle.origin_texts.specs.declared.lost.Loss.{Loss}
use Rattle.origin_texts.specs.declared.lost.LossStep.{LossStep}
use Rattle.origin_texts.proofs.Facts.{early}
use Rattle.origin_texts.proofs.Histories.{among_past}

module _ (past : PastState) (replay : Option ReplayState) where
  pub nothing_lost : (l : Loss) → l.links.items ≡ [] → l.ending ≡ Nowhere → IsLoss past replay l
  nothing_lost l none nowhere = record {
    are = subst (AreLinks (history past replay) (count_of past.given)) (sym none) (record { low = count_of past.given; leads = refl });
    ending = subst (IsEnding past replay) (sym nowhere) tt;
  }

  -- ---- steps of the past

  links_are : (top low : ℕ) (links : List Link) (rest : List LossStep) → LeadDown (history past replay) top low links → AreSteps past rest
      → AreSteps past (map step_of links ++ rest)
  links_are top low [] rest down are = are
  links_are top low (l ∷ ls) rest down are =
      (down.0, among_past past replay l.place top l.found down.1, links_are l.found.before low ls rest down.2 are)

  ending_are : (ending : Ending) → IsEnding past replay ending → AreSteps past (ending_steps ending)
  ending_are Nowhere is = tt
  ending_are AtTag is = tt
  ending_are (InCopy granule copy) is =
      (is.0, omega (arith, is.1.1, is.1.2.0.1), (is.0, omega (arith, is.1.1, is.1.2.1.1), tt))
  ending_are (InStore granule found) is =
      let few = early Lost (Granule granule) is.1.0 past replay found is.1.2 in (is.0, omega (arith, few, is.1.1), tt)

  pub steps_are : (l : Loss) → IsLoss past replay l → AreSteps past (map step_of l.links.items ++ ending_steps l.ending)
  steps_are l is =
      links_are (count_of past.given) is.are.low l.links.items (ending_steps l.ending) is.are.leads (ending_are l.ending is.ending)

  -- ---- data that was stored

  known : (links : List Link) (ending : Ending) → (ending ≡ Nowhere → ⊥)
      → spec.if_known links ending ≡ record { links = links; ending = ending }
  known links Nowhere some = absurd (some refl)
  known links AtTag some = refl
  known links (InCopy granule copy) some = refl
  known links (InStore granule found) some = refl

  pub lost_in_data : (place : Place) (n : ℕ) (links : List Link) (end : spec.DataEnd) (ending : Ending)
      → is_tagged (held place (state_at n past replay)) ≡ false
      → (whole_chain (history past replay).last_writer place n).links ≡ links
      → spec.down_to_tag past replay (whole_chain (history past replay).last_writer place n).links ≡ None
      → Some end ≡ spec.data_end links → ending ≡ spec.data_ending past replay end.granule end.store → (ending ≡ Nowhere → ⊥)
      → record { links = end.above; ending = ending } ≡ spec.loss past replay place n
  lost_in_data place n links end ending untagged all none ends is some =
      let chain = (whole_chain (history past replay).last_writer place n).links in
      sym (known end.above ending some)
      ∙ ap (spec.if_known end.above) is
      ∙ ap (spec.by_data past replay) (ends ∙ ap spec.data_end (sym all))
      ∙ ap (spec.loss_down past replay chain) (sym none)
      ∙ ap (λ b. if b then spec.no_loss else spec.loss_down past replay chain (spec.down_to_tag past replay chain)) (sym untagged)
