use Rattle.std.proofs.Common.{◌≡◌, eqb, false, length}
use Rattle.std.proofs.lemmas.Bool.{ne_eqb}
use Rattle.std.proofs.lemmas.Result.{err_from_is_err_and, on_err_weaker}
use Rattle.std.specs.List.{flat_map}
use Rattle.byteorder.specs.Endian.{little_bytes}
use Rattle.image.specs.Grammar.{capability_bytes, capabilities_bytes}
use Rattle.image.specs.BeginningLaws.{beginning_more, beginning_after}
use Rattle.image.proofs.writing.write_capabilities.Goals as goal

pub returns-in_err-write_all-clause-err : goal.returns-in_err-write_all-clause-err
unfolding capabilities_bytes
returns-in_err-write_all-clause-err g c =
    let p = err_from_is_err_and c.from_residual.result c.from_residual.ensures.1 in
    let cs = c.args.capabilities.now in
    let other : eqb c.args.version 1 ≡ false = ne_eqb c.args.version 1 c.if-version-eq1.false in
    let first = rw c.count_of.ensures at c.in_err-write_all.ensures.err in
    rw (p.1, other) (beginning_more _ _ (little_bytes 4 (length cs)) (flat_map capability_bytes cs) first)

pub returns-clause-err : goal.returns-clause-err
unfolding capabilities_bytes
returns-clause-err g c =
    let cs = c.args.capabilities.now in
    let other : eqb c.args.version 1 ≡ false = ne_eqb c.args.version 1 c.if-version-eq1.false in
    let first = rw c.count_of.ensures at c.in_ok-write_all.ensures.ok in
    rw other
    (on_err_weaker c.write_entries.result
    (λ second. beginning_after _ _ _ (little_bytes 4 (length cs)) (flat_map capability_bytes cs) first second)
    c.write_entries.ensures.err)
