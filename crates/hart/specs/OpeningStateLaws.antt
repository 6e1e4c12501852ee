-- The state in which a valid image is opened is a state.
use Rattle.std.proofs.Common.{◌≡◌, ℕ, zero, suc, ◌+◌, ◌*◌, ◌^◌, ◌<◌, ◌≤◌, true, false, List, [], ◌∷◌, length, refl, ◌∙◌, arith, lit<}
use Rattle.std.specs.Prelude.{All, slice_index, replicate}
use Rattle.std.proofs.lemmas.List.{length-replicate}
use Rattle.base.specs.Ram.{ram_end}
use Rattle.cap_bounds.specs.CapValue.{IsSound}
use Rattle.cap_bounds.specs.Root.{root}
use Rattle.cap_bounds.specs.RootLaws.{IsWellFormed-root}
use Rattle.cap_bounds.specs.SoundLaws.{IsSound-integer}
use Rattle.tagged_memory.specs.Memory.{Memory, IsMemory, is_in_ram, zeroed, data_written}
use Rattle.tagged_memory.specs.MemoryLaws.{in_ram-from, length-data_written, IsMemory-data_written}
use Rattle.tagged_memory.specs.ReadLaws.{IsMemory-zeroed}
use Rattle.devices.specs.SoundLaws.{AreSound-idle}
use Rattle.special_regs.specs.Sound.{AreSound}
use Rattle.special_regs.specs.SoundLaws.{AreInRange-zero}
use Rattle.image.specs.Image.{Image, Section, IsImage, is_good_header, mode_number}
use Rattle.image.specs.ImageLaws.{AllInRam, AllInRam-image, AreGoodCapabilities-image, image_parts, entry_aligned, header_ranges}
use Rattle.image.specs.ImageLaws.{pages_some}
use Rattle.registers.specs.Registers.{null, register}
use Rattle.steps.specs.State.{HoldsCapabilities}
use Rattle.hart.specs.Opening.{with_sections, loaded_memory, opening_memory, opening_scrs, opening}
use Rattle.hart.specs.OpeningLaws.{HoldsCapabilities-loaded, capabilities-put}
use Rattle.steps.specs.IsState.{IsState}

IsSound-null : IsSound null
IsSound-null = IsSound-integer 0 (lit< tt)

nulls : (n k : ℕ) → IsSound (register (replicate n null) k)
nulls zero k = IsSound-null
nulls (suc n) zero = IsSound-null
nulls (suc n) (suc k) = nulls n k

-- the bytes of each section are bytes
abbrev HoldBytes : List Section → Type 0
HoldBytes sections = All (λ section. (k : ℕ) → slice_index section.bytes k < 256) sections

IsMemory-with_sections : (sections : List Section) (m : Memory) (pages : ℕ) → IsMemory m → length m.bytes ≡ 4096 * pages
    → AllInRam pages sections → HoldBytes sections → IsMemory (with_sections sections m)
IsMemory-with_sections [] m pages memory whole inside bytes = memory
IsMemory-with_sections (s ∷ ss) m pages memory whole inside bytes =
    let here : is_in_ram m s.address (length s.bytes) ≡ true = in_ram-from m s.address (length s.bytes) inside.0.0 (rw whole inside.0.1) in
    IsMemory-with_sections ss (data_written m s.address s.bytes) pages
    (IsMemory-data_written m s.address s.bytes memory here (bytes 0 s (omega arith)))
    (length-data_written m s.address s.bytes here ∙ whole) inside.1 (λ k d below. bytes (suc k) d (omega arith))

-- sections that lie in RAM leave its length
pub length-loaded : (sections : List Section) (m : Memory) (pages : ℕ) → length m.bytes ≡ 4096 * pages → AllInRam pages sections
    → length (with_sections sections m).bytes ≡ 4096 * pages
length-loaded [] m pages whole inside = whole
length-loaded (s ∷ ss) m pages whole inside =
    let here : is_in_ram m s.address (length s.bytes) ≡ true = in_ram-from m s.address (length s.bytes) inside.0.0 (rw whole inside.0.1) in
    length-loaded ss (data_written m s.address s.bytes) pages (length-data_written m s.address s.bytes here ∙ whole) inside.1

module _ (i : Image) (valid : IsImage i) where
  good : is_good_header i.version i.pages i.entry (mode_number i.mode) ≡ true
  good = (image_parts i valid).header

  entry-below : i.entry < 2 ^ 64
  entry-below =
      let ranges = header_ranges i.version i.pages i.entry (mode_number i.mode) good in
      let few : i.pages ≤ 65536 = ranges.0 in
      let inside : i.entry + 4 ≤ ram_end i.pages = ranges.1 in
      omega arith

  AreSound-opening : AreSound (opening_scrs i)
  AreSound-opening =
      let root_sound : IsSound (root 0 false) = IsWellFormed-root 0 false (lit< tt) in
      record {
        pcc = IsWellFormed-root i.entry i.mode entry-below;
        ddc = root_sound;
        mtcc = root_sound;
        mtdc = IsSound-null;
        mscratchc = IsSound-null;
        mepcc = root_sound;
        aligned = entry_aligned i valid;
      }

  IsMemory-opening : HoldBytes i.sections → IsMemory (opening_memory i) × HoldsCapabilities (opening_memory i)
  IsMemory-opening bytes =
      let ranges = header_ranges i.version i.pages i.entry (mode_number i.mode) good in
      let some = pages_some i.version i.pages i.entry (mode_number i.mode) good in
      let zeros = length-replicate (4096 * i.pages) 0 in
      let memory = IsMemory-with_sections i.sections (zeroed i.pages) i.pages (IsMemory-zeroed i.pages some ranges.0)
      zeros (AllInRam-image i valid) bytes in
      capabilities-put i.capabilities (loaded_memory i) i.pages memory
      (length-loaded i.sections (zeroed i.pages) i.pages zeros (AllInRam-image i valid)) (AreGoodCapabilities-image i valid)
      (HoldsCapabilities-loaded i)

  pub IsState-opening : HoldBytes i.sections → IsState (opening i)
  IsState-opening bytes = record {
    registers = record { count = refl; first = refl };
    values = nulls 32;
    scrs = AreSound-opening;
    csrs = AreInRange-zero;
    memory = (IsMemory-opening bytes).0;
    capabilities = (IsMemory-opening bytes).1;
    devices = AreSound-idle;
  }
