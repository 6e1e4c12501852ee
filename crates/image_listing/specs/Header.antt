-- The comments that a listing may begin with: an image's header, and its capabilities in the words of the directive `.cap`.
use Rattle.std.specs.Prelude.{List, ℕ, ◌++◌, codes, decimal}
use Rattle.std.specs.List.{flat_map}
use Rattle.image.specs.declared.cap_entry.CapEntry.{CapEntry}
use Rattle.image.specs.Image.{Image, mode_number}
use Rattle.texts.specs.Hex.{hex_of}

-- version, pages, entry, and the mode's number
abbrev pub header_line : Image → List ℕ
header_line image =
    codes "# version " ++ decimal image.version ++ codes ", pages " ++ decimal image.pages
    ++ codes ", entry " ++ hex_of 16 image.entry ++ codes ", mode " ++ decimal (mode_number image.mode) ++ codes "\n"

-- where a capability stands; its base, length, permissions and flag
abbrev pub capability_line : CapEntry → List ℕ
capability_line c =
    codes "# " ++ hex_of 16 c.place ++ codes " .cap 0x" ++ hex_of 16 c.base ++ codes ", " ++ decimal c.length
    ++ codes ", 0x" ++ hex_of 5 c.perms ++ codes ", " ++ decimal c.flag ++ codes "\n"

-- the header, and the capabilities in the image's order
abbrev pub header_text : Image → List ℕ
header_text image = header_line image ++ flat_map capability_line image.capabilities
