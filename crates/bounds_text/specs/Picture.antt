-- The picture of bounds: one line of 64 columns, which are the window to scale.
use Rattle.std.specs.Prelude.{ℕ, zero, suc, ◌-◌, ◌/◌, ◌||◌, ◌==◌, nat_lt, max, if◌then◌else◌, List, [], ◌++◌, codes}
use Rattle.cap_bounds.specs.WindowEnds.{window_size, window_place}
use Rattle.bounds_text.specs.declared.window.Span.{Span}

-- how many addresses a column stands for: a 64th of the window
unfoldable pub column_size : ℕ → ℕ
column_size e = window_size e / 64

-- the column that an address of the window falls in, counted from 0
unfoldable pub column_of : ℕ → ℕ → ℕ → ℕ
column_of e base address = window_place e base address / column_size e

-- the columns of the first and of the last address of bounds; empty bounds lie in their base's column
abbrev pub first_column : ℕ → ℕ → ℕ
first_column e base = column_of e base base

abbrev pub last_column : ℕ → ℕ → ℕ → ℕ
last_column e base top = column_of e base (max base (top - 1))

-- A column: `-` has no address of the bounds, `=` has some. The bounds' first and last column are `[` and `]`, or `<` and `>` where
-- rounding added bytes at that end, which are too few for a column. Bounds in one column are `|`.
unfoldable pub mark : Span → ℕ → List ℕ
mark span column =
    if nat_lt column span.first || nat_lt span.last column then codes "-"
    else if span.first == span.last then codes "|"
    else if column == span.first then (if span.lowered then codes "<" else codes "[")
    else if column == span.last then (if span.raised then codes ">" else codes "]")
    else codes "="

-- the first columns, so many
abbrev pub marks : Span → ℕ → List ℕ
marks span zero = []
marks span (suc n) = marks span n ++ mark span n

unfoldable pub picture : Span → List ℕ
picture span = marks span 64
