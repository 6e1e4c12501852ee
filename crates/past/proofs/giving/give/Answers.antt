use Rattle.std.proofs.Common.{◌≡◌, ◌∙◌, sym, ap, refl}
use Rattle.std.specs.Prelude.{false, None}
use Rattle.machine.specs.Run.{run_after}
use Rattle.past.specs.declared.given.Given.TheVariants.{Steps}
use Rattle.past.specs.Giving.{place_after, some_of}
use Rattle.past.specs.Position.{at}
use Rattle.past.proofs.OneByOne.{alone_events, alone_place}
use Rattle.past.proofs.giving.give.Goals as goal

pub returns-in-Steps-clause-state : goal.returns-in-Steps-clause-state
returns-in-Steps-clause-state g c =
    let n = c.args.n in
    c.give_steps.ensures.state
    ∙ ap (λ es. run_after es c.args.machine.now) (sym (alone_events n c.in-Steps.field-0))
    ∙ ap (λ p. run_after (some_of n (Steps c.in-Steps.field-0) p) c.args.machine.now) (sym (c.if-is_alone.ensures refl))
    ∙ ap (λ given. run_after (some_of n given c.args.player.now) c.args.machine.now) (sym c.in-Steps.is)

pub returns-in-Steps-clause-position : goal.returns-in-Steps-clause-position
returns-in-Steps-clause-position g c =
    let n = c.args.n in
    let alone : c.args.player.now ≡ at None false = c.if-is_alone.ensures refl in
    alone ∙ sym (alone_place n c.in-Steps.field-0)
    ∙ ap (λ p. place_after n (Steps c.in-Steps.field-0) p) (sym alone)
    ∙ ap (λ given. place_after n given c.args.player.now) (sym c.in-Steps.is)
