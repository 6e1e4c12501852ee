-- What a whole text means: the first fault of its first faulty line, or an image and its labels.
use Rattle.std.specs.Prelude.{ℕ, ◌+◌, false, ◌&&◌, ◌==◌, nat_le, if◌then◌else◌, List, [], ◌∷◌, length, Option, Some, None}
use Rattle.base.specs.Ram.{ram_base, most_pages_version_1}
use Rattle.image.specs.Image.{Image}
use Rattle.asm_lines.specs.Line.{Line}
use Rattle.assembler.specs.declared.fault.AsmCode.{AsmCode}
use Rattle.assembler.specs.Places.{Symbols, lines_of, symbols_of}
use Rattle.assembler.specs.Faults.{Assembled, given, page_count, line_fault, closed, assembled_after, opening}

-- the first faulty line, counted from a number on, and its first fault
abbrev pub found_or : Option AsmCode → ℕ → Option (ℕ × AsmCode) → Option (ℕ × AsmCode)
found_or (Some code) number later = Some (number, code)
found_or None number later = later

abbrev pub first_faulty_line : Symbols → Assembled → ℕ → List Line → Option (ℕ × AsmCode)
first_faulty_line symbols s number [] = None
first_faulty_line symbols s number (l ∷ ls) =
    found_or (line_fault symbols s l) number (first_faulty_line symbols (assembled_after symbols s l) (number + 1) ls)

abbrev pub all_assembled : Symbols → Assembled → List Line → Assembled
all_assembled symbols s [] = s
all_assembled symbols s (l ∷ ls) = all_assembled symbols (assembled_after symbols s l) ls

-- the fault of a text, its line counted from 1; a text without one is correct
abbrev pub text_fault : List ℕ → Option (ℕ × AsmCode)
text_fault bytes = first_faulty_line (symbols_of bytes) opening 1 (lines_of bytes)

-- version 2 where there is a capability or more pages than version 1 has
abbrev pub version_for : ℕ → ℕ → ℕ
version_for page_count capability_count = if (capability_count == 0) && nat_le page_count most_pages_version_1 then 1 else 2

abbrev pub version_of : Assembled → ℕ
version_of s = version_for (page_count s) (length s.capabilities)

-- the image of a correct text: a page, integer mode and the beginning of RAM where it says nothing else
abbrev pub image_of : Assembled → Image
image_of s =
    record {
      version = version_of s;
      pages = page_count s;
      entry = given ram_base s.entry;
      mode = given false s.mode;
      sections = closed s.done s.current;
      capabilities = s.capabilities;
    }

abbrev pub text_image : List ℕ → Image
text_image bytes = image_of (all_assembled (symbols_of bytes) opening (lines_of bytes))
