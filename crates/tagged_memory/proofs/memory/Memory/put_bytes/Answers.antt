use Rattle.std.specs.Vec.{with_items}
use Rattle.std.proofs.Common.{◌≡◌, ℕ, ◌+◌, ◌*◌, ◌<◌, ◌≤◌, List, slice_index, ◌&&◌, not, length, ap, sym, ◌∙◌, subst, arith}
use Rattle.std.proofs.lemmas.List.{with_items_is}
use Rattle.tagged_memory.specs.Layout.{memory_of}
use Rattle.base.specs.Ram.{ram_base}
use Rattle.tagged_memory.specs.Memory.{touches, IsMemory}
use Rattle.tag_planes.specs.Planes.{tag_at}
use Rattle.tagged_memory.specs.MemoryLaws.{in_ram-from, bytes_replaced, IsMemory-data_written}
use Rattle.tagged_memory.specs.Replaced.{replaced, length-same}
use Rattle.tagged_memory.proofs.Sound.{sound}
use Rattle.tagged_memory.proofs.Written.{data_written-is}
use Rattle.tagged_memory.proofs.memory.Memory.put_bytes.Goals as goal

pub returns-clause-value : goal.returns-clause-value
returns-clause-value c =
    let p = c.args.place in
    let bytes = c.self.inside.bytes in
    let planes = c.self.inside.planes in
    let place = c.requires in
    let room : length c.args.self.now.bytes ≡ length bytes.items = sym (ap (λ m. length m.bytes) c.self.view_is) in
    let fits : p + length c.args.contents.now ≤ length bytes.items = omega (arith, place.within) in
    let written : c.write_bytes.new.bytes ≡ replaced bytes.items p c.args.contents.now = c.write_bytes.ensures
    ∙ ap (λ xs. replaced xs p c.args.contents.now) c.deref_mut.ensures.value in
    let all : (with_items bytes c.write_bytes.new.bytes).items ≡ replaced bytes.items p c.args.contents.now =
    with_items_is bytes c.write_bytes.new.bytes (ap length written ∙ length-same bytes.items p c.args.contents.now fits ∙ sym bytes.ok.0)
    ∙ written in
    let size : length c.clear_granules.new.planes ≡ length planes.items = c.clear_granules.ensures.len
    ∙ ap length c.deref_mut-2.ensures.value in
    let cleared : (with_items planes c.clear_granules.new.planes).items ≡ c.clear_granules.new.planes =
    with_items_is planes c.clear_granules.new.planes (size ∙ sym planes.ok.0) in
    (λ i. memory_of (all i) (cleared i))
    ∙ data_written-is bytes.items planes.items c.clear_granules.new.planes c.args.address p c.args.contents.now
    c.self.view_is place.from_base
    size (λ k.
    c.clear_granules.ensures.cleared k
    ∙ ap (λ xs. tag_at xs k && not
    (touches (ram_base + p) (length c.args.contents.now) (ram_base + 16 * k))) c.deref_mut-2.ensures.value
    ∙ ap (λ a. tag_at planes.items k && not (touches a (length c.args.contents.now) (ram_base + 16 * k))) place.from_base)

pub returns-clause-sound : goal.returns-clause-sound
returns-clause-sound c =
    let place = c.requires in
    let room : length c.args.self.now.bytes ≡ length c.self.inside.bytes.items = sym (ap (λ m. length m.bytes) c.self.view_is) in
    let same : length c.self.inside.bytes.items ≡ length c.args.self.now.bytes = ap (λ m. length m.bytes) c.self.view_is in
    let inside =
    in_ram-from c.args.self.now c.args.address (length c.args.contents.now) (omega (arith, place.from_base))
    (omega (arith, place.from_base, place.within)) in
    subst IsMemory (sym (returns-clause-value c))
    (IsMemory-data_written c.args.self.now c.args.address c.args.contents.now
    (subst IsMemory c.self.view_is (sound _ _ c.self.invariant)) inside (λ k. (c.type_inv.contents k).fits))

pub invariant_of-self : goal.invariant_of-self
invariant_of-self c =
    let p = c.args.place in
    let bytes = c.self.inside.bytes in
    let planes = c.self.inside.planes in
    let place = c.requires in
    let room : length c.args.self.now.bytes ≡ length bytes.items = sym (ap (λ m. length m.bytes) c.self.view_is) in
    let fits : p + length c.args.contents.now ≤ length bytes.items = omega (arith, place.within) in
    let written : c.write_bytes.new.bytes ≡ replaced bytes.items p c.args.contents.now = c.write_bytes.ensures
    ∙ ap (λ xs. replaced xs p c.args.contents.now) c.deref_mut.ensures.value in
    let long : length c.write_bytes.new.bytes ≡ length bytes.items = ap length written
    ∙ length-same bytes.items p c.args.contents.now fits in
    let all : (with_items bytes c.write_bytes.new.bytes).items ≡ replaced bytes.items p c.args.contents.now =
    with_items_is bytes c.write_bytes.new.bytes (long ∙ sym bytes.ok.0) ∙ written in
    let size : length c.clear_granules.new.planes ≡ length planes.items = c.clear_granules.ensures.len
    ∙ ap length c.deref_mut-2.ensures.value in
    let cleared : (with_items planes c.clear_granules.new.planes).items ≡ c.clear_granules.new.planes =
    with_items_is planes c.clear_granules.new.planes (size ∙ sym planes.ok.0) in
    record {
      pages = c.self.invariant.pages;
      whole_pages = ap length all ∙ length-same bytes.items p c.args.contents.now fits ∙ c.self.invariant.whole_pages;
      four_a_page = ap length cleared ∙ size ∙ c.self.invariant.four_a_page;
      some_page = c.self.invariant.some_page;
      not_too_many = c.self.invariant.not_too_many;
      are_bytes = λ k. let P : List ℕ
          → Type 0 =
          λ xs. slice_index xs k < 256 in subst P (sym all)
          (bytes_replaced bytes.items c.args.contents.now p fits c.self.invariant.are_bytes (λ j. (c.type_inv.contents j).fits) k);
    }

pub returns-clause-was_sound : goal.returns-clause-was_sound
returns-clause-was_sound c = subst IsMemory c.self.view_is (sound _ _ c.self.invariant)
