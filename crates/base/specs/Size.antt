use Rattle.std.specs.Prelude.{ℕ}
use Rattle.base.specs.declared.size.Size.{Size}
use Rattle.base.specs.declared.size.Size.TheVariants.{Byte, Half, Word, Double}

-- the number of bytes that a size stands for
abbrev pub bytes_of : Size → ℕ
bytes_of Byte = 1
bytes_of Half = 2
bytes_of Word = 4
bytes_of Double = 8
