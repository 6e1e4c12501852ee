-- What is assembled of lines without a fault: an image can be built of it.
use Rattle.std.specs.Prelude.{◌≡◌, ℕ, ◌+◌, ◌<◌, ◌≤◌, Bool, true, false, ◌&&◌, nat_le, List, [], ◌∷◌, length, Option, Some, None}
use Rattle.base.specs.Ram.{ram_base, ram_end, most_pages}
use Rattle.image.specs.declared.cap_entry.CapEntry.{CapEntry}
use Rattle.image.specs.Image.{Section, is_good_header, sections_fault}
use Rattle.image.specs.ImageLaws.{IsGoodCapability}
use Rattle.asm_lines.specs.declared.fault.LineFault.{LineFault}
use Rattle.asm_lines.specs.Statement.{Statement, setting, pages}
use Rattle.asm_lines.specs.Line.{Line}
use Rattle.assembler.specs.Faults.{Assembled, given, page_count, is_taken, closed}

-- a number of pages, where no fault says that it is out of range, is 1 to the most
abbrev pub is_paged : Statement → Bool
is_paged (setting (pages n)) = nat_le 1 n && nat_le n most_pages
is_paged other = true

abbrev pub is_paged_or_none : Option Statement → Bool
is_paged_or_none None = true
is_paged_or_none (Some s) = is_paged s

abbrev pub is_paged_unless : Option LineFault → Option Statement → Bool
is_paged_unless None s = is_paged_or_none s
is_paged_unless (Some fault) s = true

abbrev pub is_paged_line : Line → Bool
is_paged_line l = is_paged_unless l.fault l.statement

-- each of the sections has a byte
abbrev pub AreFilled : List Section → Type 0
AreFilled [] = Unit {0}
AreFilled (s ∷ ss) = (0 < length s.bytes) × AreFilled ss

-- a section lies in RAM, apart from those that are finished, and they leave room for it
pub record HasRoom (pages : ℕ) (done : List Section) (s : Section) : Type 0 where
  pub above : ram_base ≤ s.address
  pub below : s.address + length s.bytes ≤ ram_end pages
  pub apart : is_taken s.address (s.address + length s.bytes) done ≡ false
  pub few : length done < 64

-- capabilities without fault, in ascending order of place from one on
abbrev pub AreAscending : ℕ → ℕ → List CapEntry → Type 0
AreAscending count before [] = Unit {0}
AreAscending count before (c ∷ cs) = (before < c.place) × IsGoodCapability count c × AreAscending count c.place cs

-- bytes of the sections stand where each of the capabilities does
abbrev pub AreHeld : List Section → List CapEntry → Type 0
AreHeld sections [] = Unit {0}
AreHeld sections (c ∷ cs) = (is_taken c.place (c.place + 16) sections ≡ true) × AreHeld sections cs

-- nothing is placed, and the entry is not set
pub record IsUnbegun (s : Assembled) : Type 0 where
  pub done : s.done ≡ []
  pub current : s.current.bytes ≡ []
  pub entry : s.entry ≡ None
  pub capabilities : s.capabilities ≡ []

pub record IsBuildable (s : Assembled) : Type 0 where
  pub header : is_good_header 2 (page_count s) (given ram_base s.entry) 0 ≡ true
  pub apart : sections_fault (page_count s) 0 s.done ≡ None
  pub filled : AreFilled s.done
  pub few : length s.done ≤ 64
  pub place : s.places.place ≡ s.current.address + length s.current.bytes
  pub current : 0 < length s.current.bytes → HasRoom (page_count s) s.done s.current
  pub unbegun : s.begun ≡ false → IsUnbegun s
  pub ascending : AreAscending (page_count s) 0 s.capabilities
  pub held : AreHeld (closed s.done s.current) s.capabilities
  pub few_capabilities : length s.capabilities ≤ 1024
