-- What holds of each statement that a line says.
use Rattle.std.specs.Prelude.{ℕ, ◌+◌, ◌^◌, ◌<◌, ◌≤◌, ◌⊎◌, Bool, true, ◌&&◌, nat_le, length, Option, Some, None}
use Rattle.asm_lines.specs.Statement.{Statement, contents, Data, item, is_in_bounds}
use Rattle.asm_lines.specs.Line.{Line}

-- no number is one that the directive refuses, and operands are part of a line
abbrev pub is_modest_data : Data → Bool
is_modest_data (item d number text) = is_in_bounds (item d number text) && nat_le (length text) 255

abbrev pub is_modest : Statement → Bool
is_modest (contents d) = is_modest_data d
is_modest other = true

abbrev pub is_modest_or_none : Option Statement → Bool
is_modest_or_none None = true
is_modest_or_none (Some s) = is_modest s

abbrev pub is_modest_line : Line → Bool
is_modest_line l = is_modest_or_none l.statement

-- where such a statement ends: not far after the place where it stands, or where it says
abbrev pub IsNear : ℕ → ℕ → Type 0
IsNear place end = (end ≤ place + 2 ^ 28) ⊎ (end < 2 ^ 64)
