-- What an allocator asks of a length, as an object.
use Rattle.std.specs.Prelude.{ℕ, ◌-◌, List, ◌++◌, codes}
use Rattle.cap_bounds.specs.Rounding.{length_granule}
use Rattle.cap_insns.specs.CapabilityRows.{alignment_mask}
use Rattle.bounds_text.specs.LengthText.{whole_length}
use Rattle.objects.specs.Items.{address_field, object_line, wide_field}

unfoldable pub length_object : ℕ → List ℕ
length_object length =
    object_line
    (address_field (codes "length") length ++ wide_field (codes "rounded") (whole_length length)
    ++ wide_field (codes "align") (length_granule length) ++ address_field (codes "mask") (alignment_mask length)
    ++ wide_field (codes "padding") (whole_length length - length))
