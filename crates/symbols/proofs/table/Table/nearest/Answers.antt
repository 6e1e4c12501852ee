use Rattle.std.proofs.Common.{◌≡◌, ℕ, ◌≤◌, Some, sym, ◌∙◌, arith}
use Rattle.std.specs.Prelude.{false, IsSome}
use Rattle.std.specs.BTreeMap.{get}
use Rattle.std.specs.Ordering.{is_gt, nat_cmp}
use Rattle.std.proofs.lemmas.Bool.Decides.{nat_tests}
use Rattle.std.proofs.lemmas.Grind.{common_steps}
use Rattle.symbols.specs.Places.{left_at}
use Rattle.symbols.proofs.PlaceLemmas.{nearest_none, nearest_stands}
use Rattle.symbols.proofs.table.Table.nearest.Goals as goal

at_most : (q address : ℕ) → q ≤ address → is_gt (nat_cmp q address) ≡ false
at_most q address below = grind (arith, nat_tests)

pub returns-in-Some : goal.returns-in-Some
returns-in-Some c =
    let symbols = c.self.inside.entries.items in
    let placed = c.self.inside.placed in
    let address = c.args.address in
    let place = c.in-Some.field-0-0.now in
    let found = (c.range.ensures.in_range tt).3 _ _ c.in-Some.ensures.steps in
    let last = (c.range.ensures.in_range tt).4 _ _ c.in-Some.ensures.steps in
    let at : left_at symbols place ≡ Some c.in-Some.left.now = sym (placed place) ∙ found.1 in
    let below : place ≤ address = grind (arith, common_steps, found) in
    let greatest : (q : ℕ) → q ≤ address → IsSome (left_at symbols q) → q ≤ place = λ q l i.
    let h : IsSome (get nat_cmp c.self.inside.places q) = rw (placed q) i in
    let g = last q (tt, at_most q address l) h in
    grind (arith, common_steps, g) in
    let near = nearest_stands symbols address place c.in-Some.left.now at below greatest in
    c.from_end.ensures ∙ rw (c.entries.ensures, sym c.self.view_is) (sym near)

pub returns-in-None : goal.returns-in-None
returns-in-None c =
    let address = c.args.address in
    let placed = c.self.inside.placed in
    let none = (c.range.ensures.in_range tt).5 c.in-None.ensures.steps.0 in
    rw (sym c.self.view_is)
    (sym (nearest_none c.self.inside.entries.items address (λ q l. sym (placed q) ∙ none q (tt, at_most q address l))))
