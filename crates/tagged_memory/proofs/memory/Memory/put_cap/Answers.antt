use Rattle.std.proofs.Common.{◌≡◌, ◌+◌, ◌*◌, ◌/◌, ◌<◌, ◌≤◌, cond, eqb, length, refl, ap, sym, ◌∙◌, subst, arith}
use Rattle.std.proofs.lemmas.List.{with_items_is}
use Rattle.std.specs.Vec.{with_items}
use Rattle.cap_format.specs.Word.{memory_bytes}
use Rattle.tag_planes.specs.Planes.{tag_at}
use Rattle.tagged_memory.specs.Layout.{memory_of}
use Rattle.tagged_memory.specs.Memory.{IsMemory}
use Rattle.tagged_memory.specs.MemoryLaws.{in_ram-from, IsMemory-capability_written}
use Rattle.tagged_memory.proofs.Sound.{sound}
use Rattle.tagged_memory.proofs.Written.{stored, capability_written-is}
use Rattle.tagged_memory.proofs.memory.Memory.put_cap.Goals as goal

pub returns-clause-value : goal.returns-clause-value
returns-clause-value c =
    let p = c.args.place in
    let bytes = c.self.inside.bytes in
    let planes = c.self.inside.planes in
    let place = c.requires.within in
    let room : length c.args.self.now.bytes ≡ length bytes.items = sym (ap (λ m. length m.bytes) c.self.view_is) in
    let fits : p + 16 ≤ length bytes.items = omega (arith, place.within) in
    let inside : p / 16 < 64 * length planes.items =
    omega (arith, fits, c.self.invariant.whole_pages, c.self.invariant.four_a_page) in
    let words : length c.put_tag.new.planes ≡ length planes.items = c.put_tag.ensures.len ∙ ap length c.deref_mut-2.ensures.value in
    let all = stored bytes c.deref_mut.result.now c.write_word.new.bytes p 16
    (memory_bytes c.args.word) c.deref_mut.ensures.value bytes.ok.0 refl fits c.write_word.ensures in
    let put : (with_items planes c.put_tag.new.planes).items ≡ c.put_tag.new.planes =
    with_items_is planes c.put_tag.new.planes (words ∙ sym planes.ok.0) in
    (λ i. memory_of (all i) (put i))
    ∙ capability_written-is bytes.items planes.items c.put_tag.new.planes c.args.address p c.args.word c.args.tag c.self.view_is
    place.from_base c.requires.aligned inside words (λ k.
    c.put_tag.ensures.value k ∙ ap (λ xs. cond (eqb k (p / 16)) c.args.tag (tag_at xs k)) c.deref_mut-2.ensures.value)

pub returns-clause-sound : goal.returns-clause-sound
returns-clause-sound c =
    let place = c.requires.within in
    let room : length c.args.self.now.bytes ≡ length c.self.inside.bytes.items = sym (ap (λ m. length m.bytes) c.self.view_is) in
    let same : length c.self.inside.bytes.items ≡ length c.args.self.now.bytes = ap (λ m. length m.bytes) c.self.view_is in
    let inside =
    in_ram-from c.args.self.now c.args.address 16 (omega (arith, place.from_base)) (omega (arith, place.from_base, place.within)) in
    subst IsMemory (sym (returns-clause-value c))
    (IsMemory-capability_written c.args.self.now c.args.address c.args.word c.args.tag
    (subst IsMemory c.self.view_is (sound _ _ c.self.invariant)) c.requires.aligned inside)

pub returns-clause-was_sound : goal.returns-clause-was_sound
returns-clause-was_sound c = subst IsMemory c.self.view_is (sound _ _ c.self.invariant)
