use Rattle.std.proofs.Common.{◌≡◌, ◌*◌, drop, length}
use Rattle.image.specs.ImageLaws.{AllInRam}
use Rattle.hart.specs.Opening.{with_sections, loaded_memory}
use Rattle.hart.proofs.opening.loaded_memory.Given as goal

-- loading the rest gives what loading all gives, and the rest lies in RAM
abbrev pub invariant-loop-section : goal.invariant-loop-section
invariant-loop-section l = record {
  whole : length l.memory.bytes ≡ 4096 * l.image.pages;
  inside : AllInRam l.image.pages (drop l.section-index l.section-items);
  rest : with_sections (drop l.section-index l.section-items) l.memory ≡ loaded_memory l.image;
}
