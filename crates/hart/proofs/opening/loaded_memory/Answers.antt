use Rattle.std.proofs.Common.{length, refl, ap, ◌∙◌}
use Rattle.std.proofs.lemmas.List.{length-replicate}
use Rattle.tagged_memory.specs.Memory.{zeroed}
use Rattle.image.specs.ImageLaws.{AllInRam-image}
use Rattle.hart.proofs.Loading.{rest-cons, section-fits, length-with_sections, with_sections-rest}
use Rattle.hart.proofs.opening.loaded_memory.Goals as goal

pub loop-section-init : goal.loop-section-init
loop-section-init c =
    let image = c.args.image.now in
    let made = c.in-Ok.ensures.ok ∙ ap zeroed c.pages.ensures.value in
    record {
      whole = ap (λ m. length m.bytes) made ∙ length-replicate _ _;
      inside = rw c.sections-section-items.ensures.value (AllInRam-image image c.pages.ensures.valid);
      rest = rw (c.sections-section-items.ensures.value, made) refl;
    }

pub store_bytes-requires : goal.store_bytes-requires
store_bytes-requires c =
    let i = c.loop-section.invariant in
    let x = c.section-item.result in
    let e = rest-cons c.sections-section-items.result.now c.loop-section.section-index x c.loop-section-test.true c.section-item.is in
    rw (c.address.ensures, c.bytes.ensures) (section-fits c.loop-section.memory _ x _ i.whole (rw e at i.inside))

pub loop-section-preserved : goal.loop-section-preserved
loop-section-preserved c =
    let i = c.loop-section.invariant in
    let x = c.section-item.result in
    let e = rest-cons c.sections-section-items.result.now c.loop-section.section-index x c.loop-section-test.true c.section-item.is in
    let all = rw e at i.inside in
    let filled = rw (c.address.ensures, c.bytes.ensures) at c.store_bytes.ensures.value in
    record {
      whole = length-with_sections c.loop-section.memory _ x _ i.whole all c.store_bytes.new.self filled;
      inside = all.1;
      rest = with_sections-rest c.loop-section.memory _ x _ i.whole all c.store_bytes.new.self _ filled (rw e at i.rest);
    }
