use Rattle.std.proofs.Common.{◌≡◌, ◌+◌, ◌-◌, ◌*◌, ◌/◌, ◌≤◌, max, min, take, drop, length, ap, ◌∙◌, arith}
use Rattle.base.specs.Ram.{ram_base}
use Rattle.tag_planes.specs.Planes.{tags_of}
use Rattle.tagged_memory.specs.Tagged.{addresses_of}
use Rattle.tag_planes.specs.PlanesLaws.{length-tags_of, range-of_first_words}
use Rattle.tagged_memory.proofs.Granules.{addresses_of-is}
use Rattle.tagged_memory.proofs.memory.Memory.tagged.Goals as goal

pub returns : goal.returns
returns c =
    let first = c.granules_below.result in
    let end = c.granules_below-end.result in
    let words = c.div_ceil.result in
    let planes = c.self.inside.planes in
    let granules : 64 * c.len-granules.result ≡ length (tags_of planes.items) =
    omega (arith, c.len-granules.ensures, planes.ok.0, length-tags_of planes.items) in
    let begin : first ≡ min (length (tags_of planes.items)) ((c.args.from - ram_base + 15) / 16) = c.granules_below.ensures
    ∙ ap (λ n. min n ((c.args.from - ram_base + 15) / 16)) granules in
    let below : end ≡ min (length (tags_of planes.items)) ((c.args.to - ram_base + 15) / 16) = c.granules_below-end.ensures
    ∙ ap (λ n. min n ((c.args.to - ram_base + 15) / 16)) granules in
    let last : first + (end - first) ≡ max (min (length (tags_of planes.items)) ((c.args.to - ram_base + 15) / 16)) first =
    omega (arith, below) in
    let room : words ≤ length planes.items = omega (arith, c.div_ceil.ensures, below, length-tags_of planes.items) in
    let inside : end ≤ 64 * words = omega (arith, c.div_ceil.ensures) in
    c.new.ensures
    ∙ ap (λ xs. addresses_of (ram_base + 16 * first) (take (end - first) (drop first (tags_of (take words xs))))) c.deref.ensures.value
    ∙ ap (addresses_of (ram_base + 16 * first)) (range-of_first_words planes.items first end words room inside)
    ∙ addresses_of-is c.self.inside.bytes.items planes.items c.args.from c.args.to first (end - first) c.self.view_is c.self.invariant
    begin last
