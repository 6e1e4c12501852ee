-- What a correct text makes.
use Rattle.image.specs.Image.{Image}
use Rattle.std.specs.Prelude.{List}
use Rattle.assembler.specs.declared.placed.PlacedLine.{PlacedLine}
use Rattle.assembler.specs.Places.{Symbols}

pub record Assembly : Type 0 where
  pub image : Image
  pub symbols : Symbols
  pub placed : List PlacedLine
