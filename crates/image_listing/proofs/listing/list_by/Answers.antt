use Rattle.std.proofs.Common.{◌≡◌, suc, ◌++◌, ◌<◌, length, take, drop, get_or, sym, subst, rules, add-one}
use Rattle.std.specs.List.{flat_map}
use Rattle.std.specs.Option.{option_copied}
use Rattle.std.specs.Io.KnownBytes.{Appends}
use Rattle.std.proofs.KnownBytes.{Appends-trans}
use Rattle.std.proofs.lemmas.Result.{err_from_is_err_and}
use Rattle.image.specs.Devices.{AppendsBeginning}
use Rattle.image_listing.specs.Listing.{section_lines}
use Rattle.image.specs.BeginningLaws.{beginning_more, beginning_after, cut_at}
use Rattle.image_listing.proofs.Listed.{next_item, ends_below}
use Rattle.image_listing.proofs.listing.list_by.Goals as goal

pub list_section-requires-clause-fits : goal.list_section-requires-clause-fits
list_section-requires-clause-fits g c =
    let image = c.args.image.now in
    let k = c.loop-section.section-index in
    let s = c.section-item.result in
    let below : k < length image.sections = rw c.sections-section-items.ensures.value at c.loop-section-test.true in
    let is = rw c.sections-section-items.ensures.value at c.section-item.is in
    let found : get_or image.sections k s ≡ s = sym is in
    rw found at (ends_below image c.mode.ensures.valid k s below)

pub returns-in_err-list_section-clause-err : goal.returns-in_err-list_section-clause-err
returns-in_err-list_section-clause-err g c =
    let p = err_from_is_err_and c.from_residual.result c.from_residual.ensures.1 in
    let image = c.args.image.now in
    let f = section_lines (option_copied c.args.table) image.mode in
    let k = c.loop-section.section-index in
    let s = c.section-item.result in
    let below : k < length image.sections = rw c.sections-section-items.ensures.value at c.loop-section-test.true in
    let is = rw c.sections-section-items.ensures.value at c.section-item.is in
    let found : get_or image.sections k s ≡ s = sym is in
    let before = flat_map f (take k image.sections) in
    let line = rw c.mode.ensures.value at c.in_err-list_section.ensures.err in
    let here = beginning_after _ _ _ before (f s) c.loop-section.invariant.written line in
    let whole = rw found at (cut_at f image.sections k s below) in
    rw p.1 (subst (AppendsBeginning _ _) whole (beginning_more _ _ (before ++ f s) (flat_map f (drop (suc k) image.sections)) here))

pub loop-section-preserved : goal.loop-section-preserved
loop-section-preserved g c = record {
  written =
      let image = c.args.image.now in
      let f = section_lines (option_copied c.args.table) image.mode in
      let k = c.loop-section.section-index in
      let s = c.section-item.result in
      let below : k < length image.sections = rw c.sections-section-items.ensures.value at c.loop-section-test.true in
      let is = rw c.sections-section-items.ensures.value at c.section-item.is in
      let found : get_or image.sections k s ≡ s = sym is in
      let line = rw c.mode.ensures.value at c.in_ok-list_section.ensures.ok in
      let more = rw found at (next_item f image.sections k s below) in
      rw (add-one k)
      (subst (Appends _ _) more (Appends-trans _ _ _ (flat_map f (take k image.sections)) (f s) c.loop-section.invariant.written line));
  count = search rules;
}
