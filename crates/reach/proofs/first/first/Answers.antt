use Rattle.std.proofs.Common.{◌<◌, map, length, sym, ◌∙◌, arith}
use Rattle.std.proofs.lemmas.Bool.{false≢true}
use Rattle.std.proofs.lemmas.List.{length-map}
use Rattle.reach.specs.Questions.{Answers}
use Rattle.reach.proofs.Places.{below-more, first-here, none-all}
use Rattle.reach.proofs.first.first.Goals as goal

pub loop-place-preserved : goal.loop-place-preserved
loop-place-preserved g c =
    let items = c.args.members.now in
    let below : c.loop-place.place < length items = omega arith in
    below-more (Answers c.args.question.now) (λ m. g.C.CapRep.value m.cap) items c.loop-place.place c.index-members-place.result below
    c.index-members-place.is (λ yes. false≢true (sym c.if-answers.false ∙ c.answers.ensures.1 yes)) c.loop-place.invariant

pub returns-then-answers-clause-some : goal.returns-then-answers-clause-some
returns-then-answers-clause-some g c =
    let items = c.args.members.now in
    let below : c.loop-place.place < length items = omega arith in
    first-here (Answers c.args.question.now) (λ m. g.C.CapRep.value m.cap) items c.loop-place.place c.index-members-place.result below
    c.index-members-place.is (c.answers.ensures.0 c.if-answers.true) c.loop-place.invariant

pub returns-clause-none : goal.returns-clause-none
returns-clause-none g c =
    let value = g.C.CapRep.value in
    let items = c.args.members.now in
    none-all (Answers c.args.question.now) (map (λ m. value m.cap) items) c.loop-place.place
    (omega (arith, length-map items (λ m. value m.cap))) c.loop-place.invariant
