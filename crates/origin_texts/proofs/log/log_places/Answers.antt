use Rattle.std.proofs.Common.{◌≡◌, ◌<◌, ◌++◌, ◌∙◌, append_assoc, append-nil, ap, arith, get_or, length, sym, take}
use Rattle.std.proofs.lemmas.List.{take_more}
use Rattle.origin_texts.specs.Writes.{entry, made_there, noted, nowhere}
use Rattle.origin_texts.proofs.Growing.{noted-snoc}
use Rattle.origin_texts.proofs.log.log_places.Goals as goal
use Rattle.origin_texts.proofs.log.log_places.Goals.{in-Some+in_ok-push, in_default}

pub loop-place-preserved : goal.loop-place-preserved
loop-place-preserved g c =
    let s = c.args.machine.now in
    let k = c.args.before in
    let l = c.loop-place in
    let places = c.args.places in
    let i = l.place-index in
    let place = get_or places i nowhere in
    let few : i < length places = omega (arith, c.loop-place-test.true) in
    let more : c.match-made_there.log.items ≡ l.log.items ++ entry k place (made_there s place) =
    elim c.match-made_there.branch [
      | in-Some+in_ok-push w ↦
          ap (λ v. v.items) w.log-is ∙ w.in_ok-push.ensures.items
          ∙ ap (λ o. l.log.items ++ entry k place o) (sym w.in-Some.is ∙ c.made_there.ensures)
      | in_default w ↦
          ap (λ v. v.items) w.log-is ∙ sym (append-nil l.log.items)
          ∙ ap (λ o. l.log.items ++ entry k place o) (sym w.in_default.is ∙ c.made_there.ensures)
    ] in
    more
    ∙ ap (λ log. log ++ entry k place (made_there s place)) l.invariant
    ∙ append_assoc c.args.log.now.items (noted (made_there s) k (take i places)) (entry k place (made_there s place))
    ∙ ap (λ log. c.args.log.now.items ++ log) (sym (noted-snoc (made_there s) k (take i places) place))
    ∙ ap (λ ps. c.args.log.now.items ++ noted (made_there s) k ps) (sym (take_more places i nowhere few))
