use Rattle.std.proofs.Common.{◌≡◌, [], ◌-◌, ◌∙◌, ap, sym, subst}
use Rattle.std.specs.Prelude.{IfOk, string_bytes}
use Rattle.schedules.specs.Schedule.{byte_before, first_steps, up_to_halt}
use Rattle.origin_texts.specs.CallTrace.{call_trace}
use Rattle.origin_texts.proofs.CallTracing.{first_scheduled, told_then}
use Rattle.origin_texts.proofs.call_trace.calls_before.Goals as goal

pub returns-in-Some : goal.returns-in-Some
returns-in-Some g c =
    let s = c.args.machine.now in
    let symbols = c.args.symbols.now in
    let number = c.in-Some.number in
    let same = first_scheduled c.first-first.result c.args.schedule c.args.input.now (number - 1) s c.first-first.ensures.value in
    let before = up_to_halt (first_steps c.args.schedule c.args.input.now (number - 1)) s in
    rw c.in-Some.is
    (subst (λ lines. IfOk c.calls_of-in-Some.result (λ text. string_bytes text ≡ lines))
    (ap (λ events. call_trace symbols 0 [] events s) same
    ∙ sym (told_then symbols before (byte_before c.args.schedule c.args.input.now number) s))
    c.calls_of-in-Some.ensures)
