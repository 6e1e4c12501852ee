-- A value with another object type, and an unsealed one (UCAM-CL-TR-987, sealed capabilities and sentries).
use Rattle.std.specs.Prelude.{ℕ}
use Rattle.cap_format.specs.Word.{with_field}
use Rattle.base.specs.ObjectType.{unsealed_type}
use Rattle.cap_bounds.specs.CapValue.{CapValue, Cap, Data}

-- the value with this type, and its tag as it is
abbrev pub with_type : CapValue → ℕ → CapValue
with_type (Cap r) otype = Cap (record r { otype = otype })
with_type (Data n) otype = Data (with_field n 91 18 otype)

-- the value unsealed, and its tag as it is
unfoldable pub opened : CapValue → CapValue
opened v = with_type v unsealed_type
