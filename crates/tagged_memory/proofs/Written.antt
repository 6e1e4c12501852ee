-- What the code reads and writes, as the definitions of memory have it.
use Rattle.std.proofs.Common.{◌≡◌, ℕ, ◌+◌, ◌-◌, ◌*◌, ◌/◌, ◌%◌, ◌<◌, ◌≤◌, Bool, true, false, cond, eqb, not, ◌&&◌, List, [], ◌++◌, length}
use Rattle.std.proofs.Common.{take}
use Rattle.std.proofs.Common.{drop, set, Vec, refl, sym, ap, ◌∙◌, arith, ⊎_elim}
use Rattle.std.proofs.lemmas.Bool.{cases_eq, eq-eqb, ne_eqb, lt-ltb, le-ltb, and_from, and_left, and_right, cases_lt}
use Rattle.std.proofs.lemmas.List.{take_rest, drop-drop, drop_all, append-nil, append_assoc, length-drop}
use Rattle.std.proofs.lemmas.List.{with_items_is}
use Rattle.std.specs.FinSet as finite
use Rattle.std.specs.Vec.{with_items}
use Rattle.byteorder.specs.Endian.{little_number}
use Rattle.cap_format.specs.Word.{memory_bytes, word_of_memory}
use Rattle.base.specs.Ram.{ram_base}
use Rattle.tagged_memory.specs.Memory.{Memory, number_at, word_at, has_tag, touches, data_written, capability_written}
use Rattle.tagged_memory.specs.Layout.{memory_of, tags_from}
use Rattle.tagged_memory.specs.Replaced.{replaced, length-same}
use Rattle.base.specs.Size.{bytes_of}
use Rattle.base.specs.declared.size.Size.{Size}
use Rattle.base.specs.declared.size.Size.TheVariants.{Byte, Half, Word, Double}
use Rattle.tag_planes.specs.Planes.{tag_at, tags_of}
use Rattle.tag_planes.specs.PlanesLaws.{length-tags_of, get_or-tags_of, tags_of-set}
use Rattle.tagged_memory.proofs.Tags.{contains_at, tags_from-retained, tags_from-inserted, tags_from-removed}

-- a number that is read at its place is the number at its address
pub number_here : {m : Memory} (bytes planes slice : List ℕ) (address n place : ℕ) → memory_of bytes planes ≡ m
    → slice ≡ bytes → ram_base + place ≡ address
    → little_number n (take (length slice - place) (drop place slice)) ≡ number_at m address n
number_here bytes planes slice address n place view read at =
    let back : place ≡ address - ram_base = omega arith in
    ap (little_number n) (take_rest slice place ∙ ap (drop place) read ∙ ap (λ k. drop k bytes) back)
    ∙ ap (λ x. number_at x address n) view

-- a write to the first part of the rest of a slice replaces that part
pub overwritten : (bytes : List ℕ) (place : ℕ) (new part : List ℕ) → place ≤ length bytes
    → part ≡ new ++ drop (length new) (take (length bytes - place) (drop place bytes))
    → take place bytes ++ (part ++ drop (length bytes - place) (drop place bytes)) ≡ replaced bytes place new
overwritten bytes place new part h e =
    let none : drop (length bytes - place) (drop place bytes) ≡ [] =
    drop_all (length bytes - place) (drop place bytes) (omega (arith, length-drop place bytes)) in
    let rest : part ≡ new ++ drop (place + length new) bytes =
    e ∙ ap (λ xs. new ++ drop (length new) xs) (take_rest bytes place) ∙ ap (λ xs. new ++ xs) (drop-drop (length new) place bytes) in
    ap (λ xs. take place bytes ++ (part ++ xs)) none
    ∙ ap (λ xs. take place bytes ++ xs) (append-nil part ∙ rest)
    ∙ sym (append_assoc (take place bytes) new (drop (place + length new) bytes))

and_not_true : (x b : Bool) → b ≡ true → false ≡ (x && not b)
and_not_true true b e = sym (ap not e)
and_not_true false b e = refl

and_not_false : (x b : Bool) → b ≡ false → x ≡ (x && not b)
and_not_false true b e = sym (ap not e)
and_not_false false b e = refl

-- a write inside one granule touches that granule alone
pub granule_cleared : (planes : List ℕ) (place n address granule k : ℕ) → ram_base + place ≡ address → 1 ≤ n → granule * 16 ≤ place
    → place + n ≤ granule * 16 + 16
    → cond (eqb k granule) false (tag_at planes k) ≡ (tag_at planes k && not (touches address n (ram_base + 16 * k)))
granule_cleared planes place n address granule k at some low high = ⊎_elim (λ same.
    let first : ram_base + 16 * k < address + n = omega arith in
    let second : address < ram_base + 16 * k + 16 = omega arith in
    ap (λ b. cond b false (tag_at planes k)) (eq-eqb k granule same)
    ∙ and_not_true (tag_at planes k) (touches address n (ram_base + 16 * k))
    (and_from _ _ (lt-ltb _ _ some) (and_from _ _ (lt-ltb _ _ first) (lt-ltb _ _ second)))) (λ other.
    ap (λ b. cond b false (tag_at planes k)) (ne_eqb k granule other)
    ∙ and_not_false (tag_at planes k) (touches address n (ram_base + 16 * k))
    (⊎_elim (λ below. let h : ram_base + 16 * k + 16 ≤ address = omega arith in and_right _ _ (and_right _ _ (le-ltb _ _ h)))
    (λ above. let h : address + n ≤ ram_base + 16 * k = omega (arith, other) in and_right _ _ (and_left _ _ (le-ltb _ _ h)))
    (cases_lt k granule))) (cases_eq k granule)

-- bytes and tags that changed as a write of data says are the memory that it makes
pub data_written-is : {m : Memory} (bytes planes new_planes : List ℕ) (address place : ℕ) (new : List ℕ) → memory_of bytes planes ≡ m
    → ram_base + place ≡ address → length new_planes ≡ length planes
    → ((k : ℕ) → tag_at new_planes k ≡ (tag_at planes k && not (touches address (length new) (ram_base + 16 * k))))
    → memory_of (replaced bytes place new) new_planes ≡ data_written m address new
unfolding data_written
data_written-is bytes planes new_planes address place new view at same each =
    let back : place ≡ address - ram_base = omega arith in
    let long : length (tags_of new_planes) ≡ length (tags_of planes) = omega (arith, length-tags_of new_planes, length-tags_of planes) in
    ap (λ k. memory_of (replaced bytes k new) new_planes) back
    ∙ ap (λ s. record { bytes = replaced bytes (address - ram_base) new; tags = s })
    (tags_from-retained ram_base (tags_of planes) (tags_of new_planes) (λ g. not (touches address (length new) g)) long (λ k.
    get_or-tags_of new_planes k ∙ each k
    ∙ ap (λ tag. tag && not (touches address (length new) (ram_base + 16 * k))) (sym (get_or-tags_of planes k))))
    ∙ ap (λ x. data_written x address new) view

-- what a `Vec` holds after a write to the first part of the rest of it
pub stored : {Z : Type 0} (vec : Vec ℕ Z) (slice part : List ℕ) (place n : ℕ) (new : List ℕ) → slice ≡ vec.items
    → vec.len ≡ length vec.items → length new ≡ n → place + n ≤ length vec.items
    → part ≡ new ++ drop n (take (length slice - place) (drop place slice))
    → (with_items vec (take place slice ++ (part ++ drop (length slice - place) (drop place slice)))).items ≡ replaced vec.items place new
stored vec slice part place n new read len size fits e =
    let room : length slice ≡ length vec.items = ap length read in
    let part_is : part ≡ new ++ drop (length new) (take (length slice - place) (drop place slice)) = e
    ∙ ap (λ k. new ++ drop k (take (length slice - place) (drop place slice))) (sym size) in
    let all = overwritten slice place new part (omega arith) part_is in
    let same : length (take place slice ++ (part ++ drop (length slice - place) (drop place slice))) ≡ vec.len =
    ap length all ∙ length-same slice place new (omega arith) ∙ room ∙ sym len in
    with_items_is vec (take place slice ++ (part ++ drop (length slice - place) (drop place slice))) same
    ∙ all ∙ ap (λ xs. replaced xs place new) read

-- an aligned number lies in one granule
pub number_in_granule : (size : Size) (address place : ℕ) → ram_base + place ≡ address → address % bytes_of size ≡ 0
    → (1 ≤ bytes_of size) × (place + bytes_of size ≤ place / 16 * 16 + 16)
number_in_granule Byte address place at aligned = (omega arith, omega arith)
number_in_granule Half address place at aligned = (omega arith, omega arith)
number_in_granule Word address place at aligned = (omega arith, omega arith)
number_in_granule Double address place at aligned = (omega arith, omega arith)

-- the tag of the granule that a place is in
pub tag_here : {m : Memory} (bytes planes : List ℕ) (address place : ℕ) → memory_of bytes planes ≡ m → ram_base + place ≡ address
    → address % 16 ≡ 0
    → tag_at planes (place / 16) ≡ has_tag m address
tag_here bytes planes address place view at aligned =
    let granule : address ≡ ram_base + 16 * (place / 16) = omega arith in
    sym (contains_at ram_base (tags_of planes) (place / 16) address granule ∙ get_or-tags_of planes (place / 16))
    ∙ ap (λ m. has_tag m address) view

-- the word that is read at its place is the word at its address
pub word_here : {m : Memory} (bytes planes slice : List ℕ) (address place : ℕ) → memory_of bytes planes ≡ m
    → slice ≡ bytes → ram_base + place ≡ address
    → word_of_memory (take 16 (take (length slice - place) (drop place slice))) ≡ word_at m address
word_here bytes planes slice address place view read at =
    let back : place ≡ address - ram_base = omega arith in
    ap (λ xs. word_of_memory (take 16 xs)) (take_rest slice place ∙ ap (drop place) read ∙ ap (λ k. drop k bytes) back)
    ∙ ap (λ x. word_at x address) view

tags_after : (tags : List Bool) (i address : ℕ) (tag : Bool) → i < length tags → ram_base + 16 * i ≡ address
    → tags_from ram_base (set tags i tag)
    ≡ cond tag (finite.insert (tags_from ram_base tags) address) (finite.remove (tags_from ram_base tags) address)
tags_after tags i address true h at = tags_from-inserted ram_base tags i address h at
tags_after tags i address false h at = tags_from-removed ram_base tags i address h at

-- bytes and tags that changed as a write of a capability says are the memory that it makes
pub capability_written-is : {m : Memory} (bytes planes new_planes : List ℕ) (address place word : ℕ) (tag : Bool)
    → memory_of bytes planes ≡ m → ram_base + place ≡ address → address % 16 ≡ 0 → place / 16 < 64 * length planes
    → length new_planes ≡ length planes
    → ((k : ℕ) → tag_at new_planes k ≡ cond (eqb k (place / 16)) tag (tag_at planes k))
    → memory_of (replaced bytes place (memory_bytes word)) new_planes ≡ capability_written m address word tag
unfolding capability_written
capability_written-is bytes planes new_planes address place word tag view at aligned within same each =
    let back : place ≡ address - ram_base = omega arith in
    ap (λ k. memory_of (replaced bytes k (memory_bytes word)) new_planes) back
    ∙ ap (λ s. record { bytes = replaced bytes (address - ram_base) (memory_bytes word); tags = s })
    (ap (tags_from ram_base) (tags_of-set planes new_planes (place / 16) tag within same each)
    ∙ tags_after (tags_of planes) (place / 16) address tag (omega (arith, length-tags_of planes)) (omega arith))
    ∙ ap (λ x. capability_written x address word tag) view
