use Rattle.std.proofs.Common.{List, [], ◌++◌, refl}
use Rattle.std.proofs.lemmas.Result.{err_from_is_err_and}
use Rattle.image.specs.declared.cap_entry.CapEntry.{CapEntry}
use Rattle.image.specs.declared.parts.Header.{Header}
use Rattle.image.specs.Image.{Image, Section}
use Rattle.image.specs.Grammar.{Part, header_at, sections_at, capabilities_at, headed, rest_at, image_at}
use Rattle.image.proofs.Taking.{Got-both, Stopped-first, Stopped-second}
use Rattle.image.proofs.Format.{no_fault_read}
use Rattle.image.proofs.reading.front.Goals as goal

abbrev with_rest : Header → List Section × List CapEntry → Image
with_rest h rest = headed h rest.0 rest.1

abbrev pair : List Section → List CapEntry → List Section × List CapEntry
pair ss cs = (ss, cs)

abbrev after : Header → List Section → Part (List CapEntry)
after h ss = capabilities_at h.version h.pages

pub returns-in_err-sections-clause-part : goal.returns-in_err-sections-clause-part
unfolding image_at
returns-in_err-sections-clause-part g c =
    let p = err_from_is_err_and c.from_residual-in_err-sections.result c.from_residual-in_err-sections.ensures.1 in
    let h = c.in_ok-header.header in
    rw (p.1, p.2)
    (Stopped-second header_at rest_at with_rest _ _ _ h _ c.in_ok-header.ensures.part
    (Stopped-first (sections_at h.pages h.count 0) (after h) pair _ _ _ c.in_err-sections.ensures.part))

pub returns-in_err-capabilities-clause-part : goal.returns-in_err-capabilities-clause-part
unfolding image_at
returns-in_err-capabilities-clause-part g c =
    let p = err_from_is_err_and c.from_residual-in_err-capabilities.result c.from_residual-in_err-capabilities.ensures.1 in
    let h = c.in_ok-header.header in
    rw (p.1, p.2)
    (Stopped-second header_at rest_at with_rest _ _ _ h _ c.in_ok-header.ensures.part
    (Stopped-second (sections_at h.pages h.count 0) (after h) pair _ _ _ c.in_ok-sections.sections.items _
    c.in_ok-sections.ensures.part c.in_err-capabilities.ensures.part))

pub new-requires : goal.new-requires
new-requires g c =
    let h = c.in_ok-header.header in
    let ss = c.in_ok-sections.sections.items in
    let cs = c.in_ok-capabilities.capabilities.items in
    let rest = Got-both (sections_at h.pages h.count 0) (after h) pair _ _ _ ss cs (ss, cs) refl
    c.in_ok-sections.ensures.part c.in_ok-capabilities.ensures.part in
    let first = c.in_ok-header.ensures.part in
    no_fault_read (first.0 ++ []) (rest.0 ++ []) [] h (ss, cs) [] (first.2 []) (rest.2 [])

pub returns-clause-part : goal.returns-clause-part
unfolding image_at
returns-clause-part g c =
    let h = c.in_ok-header.header in
    let ss = c.in_ok-sections.sections.items in
    let cs = c.in_ok-capabilities.capabilities.items in
    Got-both header_at rest_at with_rest _ _ _ h (ss, cs) c.new.result c.new.ensures c.in_ok-header.ensures.part
    (Got-both (sections_at h.pages h.count 0) (after h) pair _ _ _ ss cs (ss, cs) refl
    c.in_ok-sections.ensures.part c.in_ok-capabilities.ensures.part)
