use Rattle.std.proofs.Common.{◌∙◌, arith, inl, inr, refl, sym}
use Rattle.std.specs.Prelude.{false}
use Rattle.program.specs.Carrying.FailsToCarry.{at_plan, at_version}
use Rattle.program.specs.Telling.{is_quiet}
use Rattle.program.proofs.Carried.{no_plan}
use Rattle.program.proofs.carrying.status_of.Goals as goal

pub returns-then-asks_version-clause-fault : goal.returns-then-asks_version-clause-fault
returns-then-asks_version-clause-fault g c three =
    let f = c.show.ensures.fault three (λ zero. omega (arith, zero)) in
    (f.0, false, at_version (sym c.asks_version.ensures ∙ c.if-asks_version.true) f.1 refl refl, f.2)

pub returns-in-Ok-clause-refused : goal.returns-in-Ok-clause-refused
returns-in-Ok-clause-refused g c two =
    let kept = c.carry_apart.ensures.refused two in
    inr ((c.in-Ok.plan, c.in-Ok.ensures.taken, c.in-Ok.ensures.ok, kept.0, kept.1), kept.2)

pub returns-in-Ok-clause-fault : goal.returns-in-Ok-clause-fault
returns-in-Ok-clause-fault g c three =
    let f = c.carry_apart.ensures.fault three in
    let plan = c.in-Ok.plan in
    let no = sym c.asks_version.ensures ∙ c.if-asks_version.false in
    (f.1, is_quiet plan, at_plan plan no c.in-Ok.ensures.taken c.in-Ok.ensures.ok c.in-Ok.ensures.sound f.0 refl f.2, f.3)

pub returns-in-Err-clause-refused : goal.returns-in-Err-clause-refused
returns-in-Err-clause-refused g c two =
    inl (λ taken some.
    let three = c.tell_no_plan.ensures.memory (c.in-Err.ensures.err taken some) in
    absurd (omega (arith, two, three)))

pub returns-in-Err-clause-fault : goal.returns-in-Err-clause-fault
returns-in-Err-clause-fault g c three =
    let f = c.tell_no_plan.ensures.fault three in
    let no = sym c.asks_version.ensures ∙ c.if-asks_version.false in
    (f.0, false, no_plan _ _ _ c.in-Err.fault f.0 f.1 no c.in-Err.ensures.err, f.2)
