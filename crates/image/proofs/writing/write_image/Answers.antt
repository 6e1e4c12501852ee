use Rattle.std.proofs.Common.{length, ◌++◌}
use Rattle.std.proofs.KnownBytes.{Appends-trans}
use Rattle.std.proofs.lemmas.Result.{err_from_is_err_and, on_ok_weaker, on_err_weaker}
use Rattle.std.specs.List.{flat_map}
use Rattle.image.specs.Image.{mode_number}
use Rattle.image.specs.Grammar.{header_bytes, section_bytes, capabilities_bytes, spelling}
use Rattle.image.specs.BeginningLaws.{beginning_more, beginning_after}
use Rattle.image.specs.ImageLaws.{few_capabilities}
use Rattle.image.proofs.writing.write_image.Goals as goal

pub write_capabilities-requires-clause-few : goal.write_capabilities-requires-clause-few
write_capabilities-requires-clause-few g c =
    rw c.capabilities.ensures.value (few_capabilities c.args.image.now c.capabilities.ensures.valid)

pub returns-in_err-write_all-clause-err : goal.returns-in_err-write_all-clause-err
unfolding spelling
returns-in_err-write_all-clause-err g c =
    let p = err_from_is_err_and c.from_residual.result c.from_residual.ensures.1 in
    let i = c.args.image.now in
    let header = header_bytes i.version i.pages i.entry (length i.sections) (mode_number i.mode) in
    let first = rw c.header_of.ensures at c.in_err-write_all.ensures.err in
    rw p.1 (beginning_more _ _ header (flat_map section_bytes i.sections ++ capabilities_bytes i.version i.capabilities) first)

pub returns-in_err-write_sections-clause-err : goal.returns-in_err-write_sections-clause-err
unfolding spelling
returns-in_err-write_sections-clause-err g c =
    let p = err_from_is_err_and c.from_residual-in_err-write_sections.result c.from_residual-in_err-write_sections.ensures.1 in
    let i = c.args.image.now in
    let header = header_bytes i.version i.pages i.entry (length i.sections) (mode_number i.mode) in
    let sections = flat_map section_bytes i.sections in
    let capabilities = capabilities_bytes i.version i.capabilities in
    let first = rw c.header_of.ensures at c.in_ok-write_all.ensures.ok in
    let second = rw c.sections.ensures.value at c.in_err-write_sections.ensures.err in
    rw p.1 (beginning_after _ _ _ header (sections ++ capabilities) first (beginning_more _ _ sections capabilities second))

pub returns-clause-ok : goal.returns-clause-ok
unfolding spelling
returns-clause-ok g c =
    let i = c.args.image.now in
    let header = header_bytes i.version i.pages i.entry (length i.sections) (mode_number i.mode) in
    let sections = flat_map section_bytes i.sections in
    let capabilities = capabilities_bytes i.version i.capabilities in
    let first = rw c.header_of.ensures at c.in_ok-write_all.ensures.ok in
    let second = rw c.sections.ensures.value at c.in_ok-write_sections.ensures.ok in
    on_ok_weaker c.write_capabilities.result
    (λ third. Appends-trans _ _ _ header (sections ++ capabilities) first
    (Appends-trans _ _ _ sections capabilities second (rw (c.version.ensures.value, c.capabilities.ensures.value) at third)))
    c.write_capabilities.ensures.ok

pub returns-clause-err : goal.returns-clause-err
unfolding spelling
returns-clause-err g c =
    let i = c.args.image.now in
    let header = header_bytes i.version i.pages i.entry (length i.sections) (mode_number i.mode) in
    let sections = flat_map section_bytes i.sections in
    let capabilities = capabilities_bytes i.version i.capabilities in
    let first = rw c.header_of.ensures at c.in_ok-write_all.ensures.ok in
    let second = rw c.sections.ensures.value at c.in_ok-write_sections.ensures.ok in
    on_err_weaker c.write_capabilities.result
    (λ third. beginning_after _ _ _ header (sections ++ capabilities) first
    (beginning_after _ _ _ sections capabilities second (rw (c.version.ensures.value, c.capabilities.ensures.value) at third)))
    c.write_capabilities.ensures.err
