-- A line of a trace: the step's number, PCC's address, the word of the instruction there and its text in PCC's mode, and what the step
-- comes to: `1 0000000080000000 10000597 auipc a1, 0x10000: ca1 = v:0 a:..`. After each address stands its label, where there is one; after
-- all the line of a source that places the instruction, where it is known.
use Rattle.std.specs.Prelude.{ℕ, Bool, List, ◌++◌, codes, decimal}
use Rattle.cap_bounds.specs.CapValue.{value_flag}
use Rattle.texts.specs.Hex.{hex_of}
use Rattle.disassembler.specs.Shown.{shown_word}
use Rattle.symbols.specs.Sources.{source_of}
use Rattle.symbols.specs.Symbols.{Symbol}
use Rattle.symbols.specs.Labels.{labelled}
use Rattle.steps.specs.declared.fetched.Fetched.{Fetched}
use Rattle.steps.specs.declared.fetched.Fetched.TheVariants.{Word}
use Rattle.steps.specs.State.{State, pc_of}
use Rattle.steps.specs.Step.{step_effect, step_fetched}
use Rattle.explain.specs.EffectText.{effect_text}

-- the word that is fetched and its text in a mode; `-` where none is, as at an interrupt
abbrev pub word_part : Bool → Fetched → List ℕ
word_part mode (Word word insn) = hex_of 8 word ++ codes " " ++ shown_word mode word
word_part mode _ = codes "-"

unfoldable pub step_word : State → List ℕ
step_word s = word_part (value_flag s.scrs.pcc) (step_fetched s)

-- the line of the next step of a machine that is not halted, with the step's number
abbrev pub trace_line : List Symbol → ℕ → State → List ℕ
trace_line symbols number s =
    decimal number ++ codes " " ++ labelled symbols (pc_of s) ++ codes " " ++ step_word s ++ codes ": "
    ++ effect_text symbols (step_effect s) ++ source_of symbols (pc_of s) ++ codes "\n"
