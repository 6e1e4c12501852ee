use Rattle.std.proofs.Common.{rules, ⊎_elim, arith}
use Rattle.std.proofs.lemmas.Bool.{eqb-true}
use Rattle.sim_run.specs.Unhandled.{no_traps}
use Rattle.sim_run.proofs.unhandled.watch.Goals as goal

pub walk_whole-how-requires : goal.walk_whole-how-requires
walk_whole-how-requires g c = (search rules, (c.requires.range, (c.requires.running, c.new-notes.ensures.few 0)))

pub unreachable-requires : goal.unreachable-requires
unreachable-requires g c =
    let met = rw c.in-Stopped.is at c.walk_whole-how.ensures.whole in
    let last = eqb-true c.walk_whole-how.new.watch.number 18446744073709551615 met.2 in
    let few = met.0.few in
    let steps = met.0.met.steps in
    let counted = met.0.met.told.1 in
    let most = c.requires.range.steps in
    omega (arith, last, few, steps, counted, most)

pub returns-in-Done : goal.returns-in-Done
returns-in-Done g c =
    let none = c.new-notes.ensures.told c.args.symbols.now in
    ⊎_elim (λ is. let met = rw is at c.walk_whole-how.ensures.whole in met.0.told.2 no_traps none)
    (λ is. let met = rw is at c.walk_whole-how.ensures.whole in met.0.told.2 no_traps none) c.in-Done.is
