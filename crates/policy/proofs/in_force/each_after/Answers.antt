use Rattle.std.proofs.Common.{◌≡◌, ◌+◌, ◌++◌, ◌∷◌, [], List, append-nil, append_assoc, drop}
use Rattle.std.proofs.Common.{ap, ap₂, sym, refl, ◌∙◌, ℕ, arith}
use Rattle.std.proofs.lemmas.List.{map-append}
use Rattle.std.specs.Prelude.{Option}
use Rattle.cap_bounds.specs.CapValue.{CapValue}
use Rattle.reached.specs.Links.{values}
use Rattle.policy.specs.Terms.{Terms, terms, terms_of}
use Rattle.policy.specs.Lending.{each_after}
use Rattle.policy.proofs.Termed.{termed-none, termed-rest}
use Rattle.policy.proofs.in_force.each_after.Goals.{then-loop-place-test+else-place-now, else-loop-place-test}
use Rattle.policy.proofs.in_force.each_after.Goals as goal

pub loop-place-preserved : goal.loop-place-preserved
loop-place-preserved g c =
    let l = c.loop-place in
    let vs = values g.C.CapRep.value c.args.reach.now in
    let pc = c.args.pc in
    let door = c.args.door in
    let k = l.place in
    let said = c.args.said.now in
    let now = c.args.now.now in
    let old = terms_of l.rules.items in
    let s = c.index-said-place.result in
    let n = c.index-now-place.result in
    let made = c.in_ok-rule_after.field-0 in
    let rest = each_after vs pc door (drop (k + 1) (terms_of said)) (drop (k + 1) (terms_of now)) in
    let pushed : terms_of c.push.new.self.items ≡ old ++ terms made ∷ [] =
    ap terms_of c.in_ok-push.ensures.items ∙ map-append terms l.rules.items (made ∷ []) in
    let saids : drop k (terms_of said) ≡ terms s ∷ drop (k + 1) (terms_of said) =
    termed-rest said k s c.loop-place-test.true ∙ ap (λ t. terms t ∷ drop (k + 1) (terms_of said)) (sym c.index-said-place.is) in
    let nows : drop k (terms_of now) ≡ terms n ∷ drop (k + 1) (terms_of now) =
    termed-rest now k n c.if-place-now.true ∙ ap (λ t. terms t ∷ drop (k + 1) (terms_of now)) (sym c.index-now-place.is) in
    record {
      within = omega (arith, c.loop-place-test.true);
      rules = ap (λ ts. ts ++ rest) pushed
          ∙ append_assoc old (terms made ∷ []) rest
          ∙ ap (λ t. old ++ t ∷ rest) c.in_ok-rule_after.ensures
          ∙ ap (λ ts. old ++ ts) (sym (ap₂ (each_after vs pc door) saids nows))
          ∙ l.invariant.rules;
    }

nothing : (vs : List CapValue) (pc : ℕ) (door : Option ℕ) (saids : List Terms) → each_after vs pc door saids [] ≡ []
nothing vs pc door [] = refl
nothing vs pc door (t ∷ ts) = refl

pub returns : goal.returns
returns g c =
    let l = c.loop-place in
    let vs = values g.C.CapRep.value c.args.reach.now in
    let pc = c.args.pc in
    let door = c.args.door in
    let k = l.place in
    let said = terms_of c.args.said.now in
    let now = terms_of c.args.now.now in
    let none : each_after vs pc door (drop k said) (drop k now) ≡ [] =
    elim c.loop-place-test.branch [
      | then-loop-place-test+else-place-now w ↦
          ap (each_after vs pc door (drop k said)) (termed-none c.args.now.now k (omega (arith, w.if-place-now.false)))
          ∙ nothing vs pc door (drop k said)
      | else-loop-place-test w ↦
          ap (λ ts. each_after vs pc door ts (drop k now)) (termed-none c.args.said.now k (omega (arith, w.loop-place-test.false)))
    ] in
    sym (append-nil (terms_of l.rules.items)) ∙ ap (λ ts. terms_of l.rules.items ++ ts) (sym none) ∙ l.invariant.rules
