use Rattle.std.proofs.Common.{refl}
use Rattle.std.proofs.lemmas.Result.{IfErr-weaker, on_ok_weaker}
use Rattle.commands.specs.Imaging.FailsToImage.{at_build, at_elf, at_output}
use Rattle.commands.proofs.Flat.{elf_known, fault_known, no_fault, written_whole}
use Rattle.commands.proofs.imaging.image_file.Goals as goal

pub returns-then-is_refused-clause-err : goal.returns-then-is_refused-clause-err
returns-then-is_refused-clause-err g c =
    let part = rw c.most_bytes.ensures at c.in_ok-bytes.ensures.ok in
    let is = rw c.as_slice-read.ensures.value at c.is_refused.ensures in
    at_elf (refl, elf_known c.args.layout c.in_ok-bytes.bytes.items _ _ _ part is c.if-is_refused.true) refl

pub returns-in-Ok-clause-ok : goal.returns-in-Ok-clause-ok
returns-in-Ok-clause-ok g c =
    let part = rw c.most_bytes.ensures at c.in_ok-bytes.ensures.ok in
    let is = rw c.as_slice-read.ensures.value at c.is_refused.ensures in
    let taken = elf_known c.args.layout c.in_ok-bytes.bytes.items _ _ _ part is c.if-is_refused.false in
    let builds = rw c.as_slice-read.ensures.value at c.in-Ok.ensures in
    on_ok_weaker c.write_image.result
    (λ gains. written_whole c.args.layout c.args.output.now c.in_ok-bytes.bytes.items _ c.in-Ok.image _ _ part taken builds gains)
    c.write_image.ensures.ok

pub returns-in-Ok-clause-err : goal.returns-in-Ok-clause-err
returns-in-Ok-clause-err g c =
    let part = rw c.most_bytes.ensures at c.in_ok-bytes.ensures.ok in
    let is = rw c.as_slice-read.ensures.value at c.is_refused.ensures in
    let taken = elf_known c.args.layout c.in_ok-bytes.bytes.items _ _ _ part is c.if-is_refused.false in
    let builds = rw c.as_slice-read.ensures.value at c.in-Ok.ensures in
    let none = no_fault c.args.layout c.in_ok-bytes.bytes.items _ c.in-Ok.image part builds in
    IfErr-weaker c.write_image.result _ _ (λ fault cut. at_output taken none cut) c.write_image.ensures.err

pub returns-clause-err : goal.returns-clause-err
returns-clause-err g c =
    let part = rw c.most_bytes.ensures at c.in_ok-bytes.ensures.ok in
    let is = rw c.as_slice-read.ensures.value at c.is_refused.ensures in
    let taken = elf_known c.args.layout c.in_ok-bytes.bytes.items _ _ _ part is c.if-is_refused.false in
    let builds = rw c.as_slice-read.ensures.value at c.in-Err.ensures in
    at_build taken (refl, fault_known c.args.layout c.in_ok-bytes.bytes.items _ c.in-Err.fault part builds) refl
