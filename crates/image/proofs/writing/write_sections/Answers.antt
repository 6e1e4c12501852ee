use Rattle.std.proofs.Common.{◌≡◌, suc, ◌++◌, take, drop, get_or, sym, subst}
use Rattle.std.specs.List.{flat_map}
use Rattle.std.proofs.lemmas.Result.{err_from_is_err_and}
use Rattle.image.specs.Devices.{AppendsBeginning}
use Rattle.image.specs.Grammar.{section_bytes}
use Rattle.image.specs.BeginningLaws.{beginning_more, beginning_after, cut_at}
use Rattle.image.proofs.writing.write_sections.Goals as goal

pub returns-in_err-write_section-clause-err : goal.returns-in_err-write_section-clause-err
returns-in_err-write_section-clause-err g c =
    let p = err_from_is_err_and c.from_residual.result c.from_residual.ensures.1 in
    let ss = c.args.sections.now in
    let i = c.loop-section.section-index in
    let s = c.section-item.result in
    let before = flat_map section_bytes (take i ss) in
    let here = beginning_after _ _ _ before (section_bytes s) c.loop-section.invariant.written c.in_err-write_section.ensures.err in
    let found : get_or ss i s ≡ s = sym c.section-item.is in
    let whole = rw found at (cut_at section_bytes ss i s c.loop-section-test.true) in
    rw p.1 (subst (AppendsBeginning _ _) whole
    (beginning_more _ _ (before ++ section_bytes s) (flat_map section_bytes (drop (suc i) ss)) here))
