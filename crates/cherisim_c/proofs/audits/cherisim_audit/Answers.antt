use Rattle.std.proofs.Common.{subst}
use Rattle.std.specs.Prelude.{string_bytes}
use Rattle.cherisim_c.specs.Policies.{IsAuditOf}
use Rattle.cherisim_c.proofs.Buffers.{of_filled, of_long}
use Rattle.cherisim_c.proofs.audits.cherisim_audit.Goals as goal

pub returns-in-Ok-clause-ok : goal.returns-in-Ok-clause-ok
returns-in-Ok-clause-ok c =
    let Tells = IsAuditOf c.args.labels.now c.args.text.now c.args.timetable.now c.args.input.now in
    let told = string_bytes c.in-Ok.told in
    rw c.in-Some.ensures.value
    (λ done. of_filled (Tells c.in-Some.held.value) told c.as_str.result.now _
    (subst (λ s. Tells s told) c.deref.ensures c.in-Ok.ensures.ok) c.as_str.ensures.value _ (c.copy.ensures.ok done))

pub returns-in-Ok-clause-full : goal.returns-in-Ok-clause-full
returns-in-Ok-clause-full c =
    let Tells = IsAuditOf c.args.labels.now c.args.text.now c.args.timetable.now c.args.input.now in
    let told = string_bytes c.in-Ok.told in
    rw c.in-Some.ensures.value
    (λ done. of_long (Tells c.in-Some.held.value) told c.as_str.result.now _
    (subst (λ s. Tells s told) c.deref.ensures c.in-Ok.ensures.ok) c.as_str.ensures.value _ _ c.copy.ensures.size
    (c.copy.ensures.full done))
