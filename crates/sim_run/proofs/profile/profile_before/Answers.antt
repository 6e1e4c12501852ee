use Rattle.std.proofs.Common.{◌-◌, ◌∙◌, ap, sym, subst}
use Rattle.std.specs.Prelude.{IfOk, string_bytes}
use Rattle.schedules.specs.Schedule.{byte_before, first_steps, up_to_halt}
use Rattle.sim_run.specs.Profile.{IsProfile, fetches}
use Rattle.sim_run.proofs.Counting.{fetches_then}
use Rattle.sim_run.proofs.FirstSteps.{first_scheduled}
use Rattle.sim_run.proofs.profile.profile_before.Goals as goal

pub returns-in-Some : goal.returns-in-Some
returns-in-Some g c =
    let s = c.args.machine.now in
    let number = c.in-Some.number in
    let same = first_scheduled c.first-first.result c.args.schedule c.args.input.now (number - 1) s c.first-first.ensures.value in
    let before = up_to_halt (first_steps c.args.schedule c.args.input.now (number - 1)) s in
    rw c.in-Some.is
    (subst (λ addresses. IfOk c.profile-in-Some.result (λ text. IsProfile c.args.symbols.now addresses (string_bytes text)))
    (ap (λ events. fetches events s) same ∙ sym (fetches_then before (byte_before c.args.schedule c.args.input.now number) s))
    c.profile-in-Some.ensures)
