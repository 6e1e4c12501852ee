-- The directives that place zeros, by a number.
use Rattle.std.specs.Prelude.{ℕ, ◌+◌, ◌-◌, ◌*◌, ◌/◌, ◌^◌, Bool, nat_eq, List, [], ◌∷◌, find, Option, codes}
use Rattle.std.specs.Cmp.Lexicographic.{pointwise}
use Rattle.asm_lines.specs.declared.parsed.Fill.{Fill}
use Rattle.asm_lines.specs.declared.parsed.Fill.TheVariants as fill

-- its name, the greatest number that it takes, and how many zeros it places, by the place where it stands and its number
pub record FillRow : Type 0 where
  pub name : List ℕ
  pub most : ℕ
  pub count : ℕ → ℕ → ℕ

abbrev pub row : List ℕ → ℕ → (ℕ → ℕ → ℕ) → FillRow
row name most count = record { name = name; most = most; count = count }

-- the next multiple of a power of two
abbrev pub aligned : ℕ → ℕ → ℕ
aligned place bits = (place + 2 ^ bits - 1) / 2 ^ bits * 2 ^ bits

abbrev pub row_of : Fill → FillRow
row_of fill.Align = row (codes ".align") 12 (λ place n. aligned place n - place)
row_of fill.Zero = row (codes ".zero") 268435456 (λ place n. n)

abbrev pub fills : List Fill
fills = fill.Align ∷ fill.Zero ∷ []

abbrev pub is_fill_named : List ℕ → Fill → Bool
is_fill_named word f = pointwise nat_eq word (row_of f).name

abbrev pub fill_named : List ℕ → Option Fill
fill_named word = find (is_fill_named word) fills
