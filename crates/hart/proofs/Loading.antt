-- Loading an image's sections one after the other.
use Rattle.std.proofs.Common.{◌≡◌, ℕ, suc, ◌+◌, ◌*◌, ◌<◌, true, List, ◌∷◌, length, get_or, drop, None}
use Rattle.std.proofs.Common.{refl, sym, ap, ◌∙◌, add-one, drop-cons}
use Rattle.tagged_memory.specs.Memory.{Memory, is_in_ram, data_written, fill_fault}
use Rattle.tagged_memory.specs.MemoryLaws.{in_ram-from, length-data_written}
use Rattle.image.specs.Image.{Section}
use Rattle.image.specs.ImageLaws.{AllInRam}
use Rattle.hart.specs.Opening.{with_sections}

-- the rest of the sections from one on
pub rest-cons : (xs : List Section) (i : ℕ) (x : Section) → i < length xs → x ≡ get_or xs i x → drop i xs ≡ x ∷ drop (i + 1) xs
rest-cons xs i x below is = rw add-one (drop-cons xs i x below ∙ ap (λ y. y ∷ drop (suc i) xs) (sym is))

no_fault : (m : Memory) (address size : ℕ) → is_in_ram m address size ≡ true → fill_fault m address size ≡ None
unfolding fill_fault
no_fault m address size inside = rw inside refl

module _ (m : Memory) (pages : ℕ) (x : Section) (rest : List Section) (whole : length m.bytes ≡ 4096 * pages)
    (all : AllInRam pages (x ∷ rest)) where
  inside : is_in_ram m x.address (length x.bytes) ≡ true
  inside = in_ram-from m x.address (length x.bytes) all.0.0 (rw whole all.0.1)

  -- the section's bytes fit into RAM
  pub section-fits : fill_fault m x.address (length x.bytes) ≡ None
  section-fits = no_fault m x.address (length x.bytes) inside

  pub length-with_sections : (n : Memory) → n ≡ data_written m x.address x.bytes → length n.bytes ≡ 4096 * pages
  length-with_sections n e = ap (λ k. length k.bytes) e ∙ length-data_written m x.address x.bytes inside ∙ whole

  pub with_sections-rest : (n after : Memory) → n ≡ data_written m x.address x.bytes → with_sections (x ∷ rest) m ≡ after
      → with_sections rest n ≡ after
  with_sections-rest n after e whole_list = ap (with_sections rest) e ∙ whole_list
