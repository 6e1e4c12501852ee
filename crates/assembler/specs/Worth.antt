-- A value as it is looked at: unknown, beyond the limits of numbers, or known.
use Rattle.std.specs.Prelude.{if◌then◌else◌, ℤ, Option, Some, None}
use Rattle.asm_lines.specs.Number.{is_in_limits}
use Rattle.assembler.specs.declared.values.Worth.{Worth}
use Rattle.assembler.specs.declared.values.Worth.TheVariants.{Unknown, Beyond, Known}

abbrev pub worth : Option ℤ → Worth
worth None = Unknown
worth (Some value) = if is_in_limits value then Known value else Beyond
