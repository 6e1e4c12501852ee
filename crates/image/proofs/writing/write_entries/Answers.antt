use Rattle.std.proofs.Common.{suc, ◌++◌, take, drop, get_or, subst}
use Rattle.std.specs.List.{flat_map}
use Rattle.std.proofs.lemmas.Result.{err_from_is_err_and}
use Rattle.image.specs.Devices.{AppendsBeginning}
use Rattle.image.specs.declared.cap_entry.CapEntry.{CapEntry}
use Rattle.image.specs.Grammar.{capability_bytes}
use Rattle.image.specs.BeginningLaws.{beginning_more, beginning_after, cut_at}
use Rattle.image.proofs.writing.write_entries.Goals as goal

abbrev nowhere : CapEntry
nowhere = record { place = 0; base = 0; length = 0; perms = 0; flag = 0 }

pub returns-in_err-write_all-clause-err : goal.returns-in_err-write_all-clause-err
returns-in_err-write_all-clause-err g c =
    let p = err_from_is_err_and c.from_residual.result c.from_residual.ensures.1 in
    let ss = c.args.capabilities.now in
    let i = c.loop-capability.capability-index in
    let s = get_or ss i nowhere in
    let before = flat_map capability_bytes (take i ss) in
    let here =
    beginning_after _ _ _ before (capability_bytes s) c.loop-capability.invariant.written
    (rw c.bytes_of.ensures at c.in_err-write_all.ensures.err) in
    rw p.1 (subst (AppendsBeginning _ _) (cut_at capability_bytes ss i nowhere c.loop-capability-test.true)
    (beginning_more _ _ (before ++ capability_bytes s) (flat_map capability_bytes (drop (suc i) ss)) here))
