use Rattle.std.proofs.Common.{◌≡◌, ℕ, List, ◌++◌, ap, ◌∙◌, arith}
use Rattle.reach_texts.proofs.Numbered.{after}
use Rattle.reach_texts.specs.Object.{member_object}
use Rattle.reach_texts.proofs.object.put_objects.Goals as goal

pushed : (old new line text said : List ℕ) → new ≡ old ++ line → line ≡ text → text ≡ said → new ≡ old ++ said
pushed old new line text said e f g = e ∙ ap (λ t. old ++ t) (f ∙ g)

pub loop-number-preserved : goal.loop-number-preserved
loop-number-preserved g c =
    let inside = c.loop-number-test.true in
    record {
      within = omega (arith, inside);
      lines = after g.C.CapRep.value (member_object c.args.symbols.now) c.args.members.now c.loop-number.number
          c.index-members-number.result _ _ _ inside c.index-members-number.is
          (pushed _ _ _ _ _ c.in_ok-push_str.ensures.bytes c.as_str.ensures.value c.in_ok-line.ensures) c.loop-number.invariant.lines;
    }
