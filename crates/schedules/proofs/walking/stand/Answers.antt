use Rattle.std.proofs.Common.{◌<◌, ◌≤◌, refl, arith}
use Rattle.schedules.proofs.Blocks.{stand_within, stand_past}
use Rattle.schedules.proofs.walking.stand.Goals as goal

pub returns-then-steps-count-clause-rest : goal.returns-then-steps-count-clause-rest
returns-then-steps-count-clause-rest c =
    stand_within c.args.schedule c.args.input.now c.args.position c.args.count c.args.steps c.requires.owed c.requires.alone
    (omega (arith, c.if-steps-count.true)) c.requires.all

pub returns-else-steps-count-clause-rest : goal.returns-else-steps-count-clause-rest
returns-else-steps-count-clause-rest c =
    stand_past c.args.schedule c.args.input.now c.args.position c.args.count c.args.steps c.requires.owed c.requires.alone
    c.requires.some (omega (arith, c.if-steps-count.false, c.requires.few)) c.requires.all c.is_tick_after.result c.is_tick_after.ensures

pub returns-then-steps-count-clause-next : goal.returns-then-steps-count-clause-next
returns-then-steps-count-clause-next c = λ few. (refl, refl, omega (arith, c.requires.all, few))

pub returns-else-steps-count-clause-next : goal.returns-else-steps-count-clause-next
returns-else-steps-count-clause-next c = λ few. absurd (not_both few c.if-steps-count.false)
  where
    not_both : c.args.steps < c.args.count → c.args.count ≤ c.args.steps → ⊥
    not_both few many = omega (arith, few, many)
