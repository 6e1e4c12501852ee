-- What the structures stand for that C passes.
use Rattle.std.specs.Prelude.{ℕ}
use Rattle.cap_bounds.specs.CapValue.{CapValue, value_of}
use Rattle.cap_bounds.specs.Record.{Record, record_with}
use Rattle.c_types.specs.Halves.{joined}
use Rattle.c_types.specs.declared.types.CheriWord.{CheriWord}
use Rattle.c_types.specs.declared.types.CheriNumber.{CheriNumber}
use Rattle.c_types.specs.declared.types.CheriCap.{CheriCap}
use Rattle.c_types.specs.declared.types.CheriFields.{CheriFields}

abbrev pub number : CheriNumber → ℕ
number n = joined n.high n.low

-- the 128 bits in logical form
abbrev pub bits : CheriWord → ℕ
bits word = joined word.upper word.address

-- a capability, or 128 bits of data
abbrev pub capability_of : CheriCap → CapValue
capability_of cap = value_of (joined cap.upper cap.address) cap.tag

abbrev pub record_of : CheriFields → Record
record_of f = record_with f.base (joined f.top_high f.top_low) f.address f.perms f.flag f.otype
