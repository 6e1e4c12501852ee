-- What the text of a word means as the whole text of a program: an image with the word at the beginning of RAM, and nothing else.
use Rattle.std.specs.Prelude.{◌≡◌, ℕ, Bool, false, [], ◌∷◌, None}
use Rattle.byteorder.specs.Endian.{little_bytes}
use Rattle.base.specs.Ram.{ram_base}
use Rattle.image.specs.Image.{Image}
use Rattle.assembler.specs.Text.{text_fault, text_image}
use Rattle.disassembler.specs.Shown.{shown_word}

abbrev pub image_of_word : ℕ → Image
image_of_word word =
    record {
      version = 1;
      pages = 1;
      entry = ram_base;
      mode = false;
      sections = (record { address = ram_base; bytes = little_bytes 4 word }) ∷ [];
      capabilities = [];
    }

-- The text is correct, and means the word.
pub record IsWordAgain (mode : Bool) (word : ℕ) : Type 0 where
  pub correct : text_fault (shown_word mode word) ≡ None
  pub image : text_image (shown_word mode word) ≡ image_of_word word
