use Rattle.std.proofs.Common.{◌≤◌, length, arith}
use Rattle.image.specs.ImageLaws.{few_sections}
use Rattle.image.proofs.writing.header_of.Goals as goal

pub overflow_cast-sections : goal.overflow_cast-sections
overflow_cast-sections c =
    let few : length c.args.image.now.sections ≤ 64 = few_sections c.args.image.now c.sections.ensures.valid in
    rw c.sections.ensures.value (omega (arith, few))
