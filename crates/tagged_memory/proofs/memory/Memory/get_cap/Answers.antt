use Rattle.std.proofs.Common.{◌≡◌, ◌/◌, ap, ◌∙◌}
use Rattle.tagged_memory.specs.Memory.{word_at, has_tag}
use Rattle.tag_planes.specs.Planes.{tag_at}
use Rattle.tagged_memory.proofs.Written.{word_here, tag_here}
use Rattle.tagged_memory.proofs.memory.Memory.get_cap.Goals as goal

pub returns : goal.returns
returns c =
    let p = c.args.place in
    let bytes = c.self.inside.bytes.items in
    let planes = c.self.inside.planes.items in
    let place = c.requires.within in
    let word : c.read_word.result ≡ word_at c.args.self.now c.args.address = c.read_word.ensures
    ∙ word_here bytes planes c.deref.result.now c.args.address p c.self.view_is c.deref.ensures.value place.from_base in
    let tag : c.has_tag.result ≡ has_tag c.args.self.now c.args.address = c.has_tag.ensures
    ∙ ap (λ xs. tag_at xs (p / 16)) c.deref-2.ensures.value
    ∙ tag_here bytes planes c.args.address p c.self.view_is place.from_base c.requires.aligned in
    λ i. (word i, tag i)
