-- How far a chain is told.
use Rattle.std.specs.Prelude.{◌≡◌, ℕ, List, ◌++◌, Option}
use Rattle.past.specs.Given.{PastState}
use Rattle.past.specs.Replay.{ReplayState}
use Rattle.symbols.specs.Symbols.{Symbol}
use Rattle.origin_texts.specs.Chain.{Chain}
use Rattle.origin_texts.specs.Held.{IsStretch}
use Rattle.origin_texts.specs.Origin.{chain_text}
use Rattle.origin_texts.specs.Stretches.{Told}
use Rattle.origin_texts.specs.declared.stretch.Stretch.{Stretch}

-- a text to which the rest of a chain is still to be appended, after the links of a stretch
pub record IsPut (symbols : List Symbol) (past : PastState) (replay : Option ReplayState) (text : List ℕ) (stretch : Stretch) (rest : Chain)
    (whole : List ℕ) : Type 0 where
  pub links : List Told
  pub is : IsStretch stretch links
  pub text_is : text ++ chain_text symbols past replay links rest ≡ whole
