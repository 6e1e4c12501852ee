-- The line of a word at an address: its label after it, the word, its text in a mode, and the line of a source that places it, where that
-- is known.
use Rattle.std.specs.Prelude.{ℕ, Bool, List, ◌++◌, codes}
use Rattle.texts.specs.Hex.{hex_of}
use Rattle.disassembler.specs.Shown.{shown_word}
use Rattle.symbols.specs.Symbols.{Symbol}
use Rattle.symbols.specs.Labels.{labelled}
use Rattle.symbols.specs.Sources.{source_of}

abbrev pub labelled_word : List Symbol → Bool → ℕ → ℕ → List ℕ
labelled_word symbols mode address word =
    labelled symbols address ++ codes " " ++ hex_of 8 word ++ codes " " ++ shown_word mode word ++ source_of symbols address
    ++ codes "\n"
