use Rattle.std.proofs.Common.{◌≡◌, ◌+◌, ◌-◌, ◌++◌, ◌∷◌, [], ◌∙◌, ap, length, take, arith}
use Rattle.past.specs.Given.{count_of, count_of_one}
use Rattle.past.proofs.InOrder.{last_count, last_set}
use Rattle.past.proofs.cutting.set_last.Goals as goal

pub returns-clause-items : goal.returns-clause-items
returns-clause-items c =
    let gs = c.args.all.now.items in
    let i = c.len-at.result - 1 in
    let all : i + 1 ≡ length gs = omega arith in
    let is : i ≡ length gs - 1 = omega arith in
    last_set gs i c.args.given all ∙ ap (λ n. take n gs ++ c.args.given ∷ []) is

pub returns-clause-count : goal.returns-clause-count
returns-clause-count c =
    let gs = c.args.all.now.items in
    let i = c.len-at.result - 1 in
    let last = c.index-before.result.now in
    let all : i + 1 ≡ length gs = omega arith in
    let is : i ≡ length gs - 1 = omega arith in
    omega (
      arith,
      last_count gs i last all,
      ap count_of_one c.index-before.ensures,
      ap (λ n. count_of (take n gs)) is,
    )
