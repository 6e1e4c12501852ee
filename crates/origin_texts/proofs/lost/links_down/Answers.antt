use Rattle.std.proofs.Common.{◌≡◌, ◌++◌, ◌∙◌, ap, arith, subst, sym, take}
use Rattle.std.specs.Prelude.{false, option_copied, option_map, true}
use Rattle.origin_texts.specs.Down.{IsDown}
use Rattle.origin_texts.specs.Lost as spec
use Rattle.origin_texts.proofs.Descending.{IsGoing, at_end, at_opening, at_tag, going_on, none_gone}
use Rattle.origin_texts.proofs.Histories.{at_first}
use Rattle.origin_texts.proofs.lost.links_down.Goals as goal

pub loop-left-init : goal.loop-left-init
loop-left-init g c =
    let past = c.args.past.now in
    let replay = option_copied c.args.replay in
    record {
      few = omega (arith, c.count-left.ensures.value);
      going = subst (λ ls. IsGoing past replay c.args.place ls c.args.place c.count-left.result) (sym c.new-links.ensures.items)
          (none_gone past replay c.args.place c.count-left.result c.count-left.ensures.value c.requires);
    }

pub returns-in-Some : goal.returns-in-Some
returns-in-Some g c =
    let past = c.args.past.now in
    let replay = option_copied c.args.replay in
    let l = c.loop-left in
    let more = c.in_ok-more.field-0.links.items in
    let down = subst (λ ls. option_map (λ n. take n ls) c.in_ok-count.field-0 ≡ spec.down_to_tag past replay ls) c.deref.ensures.value
    c.in_ok-count.ensures.down in
    subst (λ ls. IsDown past replay c.args.place ls true)
    (sym (c.in_ok-extend_from_slice.ensures.items ∙ ap (λ ls. l.links.items ++ take c.in-Some.count ls) c.deref-in-Some.ensures.value))
    (at_tag past replay c.args.place l.links.items more l.place c.saturating_sub-left.result l.left c.in_ok-more.field-0.next
    l.invariant.going c.in_ok-more.ensures c.in-Some.count
    (sym (ap (option_map (λ n. take n more)) c.in-Some.is) ∙ down))

pub loop-left-preserved : goal.loop-left-preserved
loop-left-preserved g c =
    let past = c.args.past.now in
    let replay = option_copied c.args.replay in
    let l = c.loop-left in
    let more = c.in_ok-more.field-0.links.items in
    let down = subst (λ ls. option_map (λ n. take n ls) c.in_ok-count.field-0 ≡ spec.down_to_tag past replay ls) c.deref.ensures.value
    c.in_ok-count.ensures.down in
    record {
      few = omega (arith, c.saturating_sub-left.ensures, l.invariant.few);
      going = subst (λ ls. IsGoing past replay c.args.place ls c.in-Some-next.from c.saturating_sub-left.result)
          (sym (c.in_ok-extend_from_slice-2.ensures.items ∙ ap (λ ls. l.links.items ++ ls) c.deref-in-loop-left.ensures.value))
          (going_on past replay c.args.place l.links.items more l.place c.saturating_sub-left.result l.left c.in_ok-more.field-0.next
          l.invariant.going c.in_ok-more.ensures (sym (ap (option_map (λ n. take n more)) c.in_default.is) ∙ down) c.in-Some-next.from
          c.in-Some-next.is);
    }

pub returns : goal.returns
returns g c =
    let past = c.args.past.now in
    let replay = option_copied c.args.replay in
    let l = c.loop-left in
    elim c.loop-left-test.branch [
      | goal.else-loop-left-test w ↦
          let none : l.left ≡ 0 = omega (arith, w.loop-left-test.false) in
          subst (λ links. IsDown past replay c.args.place links.items false) (sym w.links-is)
          (at_opening past replay c.args.place l.links.items l.place l.left l.invariant.going (at_first past replay l.place l.left none))
      | goal.then-loop-left-test+in_ok-more+in_ok-count+in_default+in_ok-extend_from_slice-2+in_default-next w ↦
          let more = w.in_ok-more.field-0.links.items in
          let down = subst (λ ls. option_map (λ n. take n ls) w.in_ok-count.field-0 ≡ spec.down_to_tag past replay ls)
          w.deref.ensures.value w.in_ok-count.ensures.down in
          subst (λ links. IsDown past replay c.args.place links.items false) (sym w.links-is)
          (subst (λ ls. IsDown past replay c.args.place ls false)
          (sym (w.in_ok-extend_from_slice-2.ensures.items ∙ ap (λ ls. l.links.items ++ ls) w.deref-in-loop-left.ensures.value))
          (at_end past replay c.args.place l.links.items more l.place w.saturating_sub-left.result l.left w.in_ok-more.field-0.next
          l.invariant.going w.in_ok-more.ensures (sym (ap (option_map (λ n. take n more)) w.in_default.is) ∙ down) w.in_default-next.is))
    ]
