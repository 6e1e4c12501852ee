use Rattle.std.proofs.Common.{[], sym, ◌∙◌, subst}
use Rattle.origin_texts.specs.Held.{IsStretch, as_told}
use Rattle.origin_texts.proofs.Stretching.{met_anew, met_on, on_ok}
use Rattle.origin_texts.proofs.stretch.Stretch.meet.Goals as goal
use Rattle.origin_texts.proofs.stretch.Stretch.meet.Goals.{then-not-goes_on+in_ok-put, else-not-goes_on}

pub returns-clause-stretch : goal.returns-clause-stretch
returns-clause-stretch c =
    let t = as_told c.args.older in
    elim c.if-not-goes_on.branch [
      | then-not-goes_on+in_ok-put w ↦ on_ok c.push.result _ _ c.push.ensures (λ pushed links is.
          subst (IsStretch c.push.new.self) (sym (met_anew links t (sym (c.goes_on.ensures links is) ∙ w.if-not-goes_on.true)))
          (pushed [] (subst (λ s. IsStretch s []) (sym w.self-is) w.clear.ensures)))
      | else-not-goes_on w ↦ on_ok c.push.result _ _ c.push.ensures (λ pushed links is.
          subst (IsStretch c.push.new.self) (sym (met_on links t (sym (c.goes_on.ensures links is) ∙ w.if-not-goes_on.false)))
          (pushed links (subst (λ s. IsStretch s links) (sym w.self-is) is)))
    ]
