-- The capabilities that a text puts into RAM.
use Rattle.std.specs.Prelude.{ℕ, Bool, false, not, nat_lt, if◌then◌else◌, List, [], ◌∷◌, Option, Some, None}
use Rattle.image.specs.declared.cap_entry.CapEntry.{CapEntry}
use Rattle.image.specs.Image.{is_exact_range}
use Rattle.asm_lines.specs.declared.parsed.Directive.TheVariants.{Capability}
use Rattle.asm_lines.specs.Operand.{wrapped}
use Rattle.asm_lines.specs.Statement.{Statement, contents, item}
use Rattle.assembler.specs.Places.{Symbols}
use Rattle.assembler.specs.Values.{part_of}
use Rattle.assembler.specs.Bytes.{value_at}

-- the operands of .cap
abbrev pub capability_in : Statement → Option (List ℕ)
capability_in (contents (item Capability n operands)) = Some operands
capability_in other = None

abbrev pub part_value : Symbols → ℕ → List ℕ → ℕ → ℕ
part_value symbols here operands i = wrapped (value_at symbols here (part_of operands i))

-- the capability that .cap says at a place
abbrev pub capability_at : Symbols → ℕ → List ℕ → CapEntry
capability_at symbols here operands =
    record {
      place = here;
      base = part_value symbols here operands 0;
      length = part_value symbols here operands 1;
      perms = part_value symbols here operands 2;
      flag = part_value symbols here operands 3;
    }

-- a range that ends above 2^64, or that rounding out changes (A11)
abbrev pub has_inexact_range : Symbols → ℕ → Option (List ℕ) → Bool
has_inexact_range symbols here None = false
has_inexact_range symbols here (Some operands) =
    not (is_exact_range (part_value symbols here operands 0) (part_value symbols here operands 1))

unfoldable pub is_inexact : Symbols → ℕ → Statement → Bool
is_inexact symbols here s = has_inexact_range symbols here (capability_in s)

-- a capability among capabilities in ascending order of place
abbrev pub entered : CapEntry → List CapEntry → List CapEntry
entered c [] = c ∷ []
entered c (d ∷ ds) = if nat_lt c.place d.place then c ∷ d ∷ ds else (d ∷ entered c ds)

abbrev pub with_capability : Symbols → ℕ → Option (List ℕ) → List CapEntry → List CapEntry
with_capability symbols here None capabilities = capabilities
with_capability symbols here (Some operands) capabilities = entered (capability_at symbols here operands) capabilities
