use Rattle.std.proofs.Common.{refl, ap}
use Rattle.std.specs.Prelude.{is_err}
use Rattle.cap_bounds.specs.CapValue.{CapValue}
use Rattle.steps.proofs.Fetch.{fetch-Ok, fetch-Err, fetch-refused}
use Rattle.steps.specs.State.{State}
use Rattle.tagged_memory.specs.Memory.{Memory}
use Rattle.sim_run.proofs.stopping.is_unfetched.Goals as goal

abbrev looked_at : State → CapValue → Memory → State
looked_at s pcc memory = record s { scrs = record s.scrs { pcc = pcc }; memory = memory }

pub returns-in-Ok-read : goal.returns-in-Ok-read
returns-in-Ok-read g c = λ s.
    let pcc = g.C.CapRep.value c.args.pcc in
    ap is_err (fetch-Ok (looked_at s pcc c.args.memory.now) pcc c.in-Ok.address c.read.result refl c.in-Ok.ensures.value c.requires
    c.in-Ok.ensures.allowed c.read.ensures.value c.in-Ok-read.field-0 c.in-Ok-read.is)

pub returns-in-Err-read : goal.returns-in-Err-read
returns-in-Err-read g c = λ s.
    let pcc = g.C.CapRep.value c.args.pcc in
    ap is_err (fetch-Err (looked_at s pcc c.args.memory.now) pcc c.in-Ok.address c.read.result refl c.in-Ok.ensures.value c.requires
    c.in-Ok.ensures.allowed c.read.ensures.value c.in-Err-read.field-0 c.in-Err-read.is)

pub returns-in-Err : goal.returns-in-Err
returns-in-Err g c = λ s.
    let pcc = g.C.CapRep.value c.args.pcc in
    ap is_err (fetch-refused (looked_at s pcc c.args.memory.now) pcc c.in-Err.field-0 refl c.in-Err.ensures.refused)
