-- What is true of every memory follows from how its fields lie.
use Rattle.std.proofs.Common.{◌≡◌, ℕ, zero, suc, ◌+◌, ◌*◌, ◌/◌, ◌%◌, ◌<◌, ◌≤◌, true, eqb, List, length, replicate, slice_index, sym, ap}
use Rattle.std.proofs.Common.{◌∙◌}
use Rattle.std.proofs.Common.{subst, refl, arith}
use Rattle.std.proofs.lemmas.List.{length-replicate}
use Rattle.std.proofs.lemmas.Bool.{and_from, le-leb, eq-eqb, eqb-true}
use Rattle.std.specs.Int.{bit_at}
use Rattle.base.specs.Ram.{ram_base}
use Rattle.tagged_memory.specs.Memory.{Memory, is_in_ram, has_tag, zeroed, IsMemory}
use Rattle.tagged_memory.specs.Layout.{memory_of, tags_from, IsLaidOut}
use Rattle.tag_planes.specs.Planes.{tags_of}
use Rattle.tagged_memory.specs.Planes.{ArePlanes}
use Rattle.tagged_memory.proofs.Tags.{contains_at, place_of_contained, tags_from-replicate}
use Rattle.tag_planes.specs.PlanesLaws.{length-tags_of, get_or-tags_of, tags_of-zeros}

tagged_in_ram : (bytes planes : List ℕ) → IsLaidOut bytes planes → (a : ℕ) → has_tag (memory_of bytes planes) a ≡ true
    → is_in_ram (memory_of bytes planes) a 16 ≡ true
unfolding is_in_ram
tagged_in_ram bytes planes laid a e =
    let place = place_of_contained ram_base (tags_of planes) a e in
    let low : ram_base ≤ a = omega (arith, place.1) in
    let high : a + 16 ≤ ram_base + length bytes =
    omega (arith, place.1, place.2, laid.whole_pages, laid.four_a_page, length-tags_of planes) in
    and_from _ _ (le-leb _ _ low) (le-leb _ _ high)

pub sound : (bytes planes : List ℕ) → IsLaidOut bytes planes → IsMemory (memory_of bytes planes)
sound bytes planes laid = record {
  pages = laid.pages;
  whole_pages = laid.whole_pages;
  some_page = laid.some_page;
  not_too_many = laid.not_too_many;
  are_bytes = laid.are_bytes;
  granules_aligned = λ a e. let place = place_of_contained ram_base (tags_of planes) a e in omega (arith, place.1);
  granules_in_ram = tagged_in_ram bytes planes laid;
}

bytes_of_zeros : (n k : ℕ) → slice_index (replicate n 0) k < 256
bytes_of_zeros zero k = omega arith
bytes_of_zeros (suc n) zero = omega arith
bytes_of_zeros (suc n) (suc k) = bytes_of_zeros n k

-- zeros and no tag lie as a memory's fields do, and are the memory that it begins as
pub laid_out-zeroed : (pages : ℕ) (bytes planes : List ℕ) → bytes ≡ replicate (pages * 4096) 0 → planes ≡ replicate (pages * 4) 0
    → 1 ≤ pages → pages ≤ 65536
    → IsLaidOut bytes planes
laid_out-zeroed pages bytes planes b t some most = record {
  pages = pages;
  whole_pages = omega (arith, ap length b, length-replicate {A = ℕ} (pages * 4096) 0);
  four_a_page = omega (arith, ap length t, length-replicate {A = ℕ} (pages * 4) 0);
  some_page = some;
  not_too_many = most;
  are_bytes = λ k. let P : List ℕ → Type 0 = λ xs. slice_index xs k < 256 in subst P (sym b) (bytes_of_zeros (pages * 4096) k);
}

pub memory_of-zeroed : (pages : ℕ) (bytes planes : List ℕ) → bytes ≡ replicate (pages * 4096) 0 → planes ≡ replicate (pages * 4) 0
    → memory_of bytes planes ≡ zeroed pages
memory_of-zeroed pages bytes planes b t =
    let swapped : pages * 4096 ≡ 4096 * pages = omega arith in
    ap (λ xs. memory_of xs planes) (b ∙ ap (λ n. replicate n 0) swapped)
    ∙ ap (λ s. record { bytes = replicate (4096 * pages) 0; tags = s })
    (ap (tags_from ram_base) (ap tags_of t ∙ tags_of-zeros (pages * 4)) ∙ tags_from-replicate ram_base (64 * (pages * 4)))

-- the bit planes of a memory are its tags
pub are_planes : {m : Memory} (bytes planes : List ℕ) → memory_of bytes planes ≡ m → IsLaidOut bytes planes → ArePlanes planes m
are_planes {m} bytes planes view laid =
    let tag : (k j : ℕ) → j < 64 → has_tag m (ram_base + 16 * (64 * k + j)) ≡ eqb (bit_at (slice_index planes k) j) 1 = λ k j few.
    let index : (64 * k + j) / 64 ≡ k = omega arith in
    let place : (64 * k + j) % 64 ≡ j = omega arith in
    sym (ap (λ x. has_tag x (ram_base + 16 * (64 * k + j))) view)
    ∙ contains_at ram_base (tags_of planes) (64 * k + j) (ram_base + 16 * (64 * k + j)) refl
    ∙ get_or-tags_of planes (64 * k + j)
    ∙ ap (λ i. eqb (bit_at (slice_index planes i) ((64 * k + j) % 64)) 1) index
    ∙ ap (λ i. eqb (bit_at (slice_index planes k) i) 1) place in
    record {
      four_a_page = omega (arith, ap (λ x. length x.bytes) view, laid.whole_pages, laid.four_a_page);
      bit_each = λ k j few. (λ set. tag k j few ∙ eq-eqb _ _ set, λ tagged. eqb-true _ _ (sym (tag k j few) ∙ tagged));
    }
