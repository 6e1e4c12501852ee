-- What an allocator asks of a length, as a text: which length it has to reserve, and where.
use Rattle.std.specs.Prelude.{ℕ, ◌-◌, ◌*◌, List, ◌++◌, codes, decimal}
use Rattle.cap_bounds.specs.Rounding.{granules_up_to, length_granule}
use Rattle.cap_insns.specs.CapabilityRows.{alignment_mask}
use Rattle.texts.specs.Hex.{hex_of}

-- the length rounded up to what a capability with an aligned base has; CRRL gives it modulo 2 ^ 64
unfoldable pub whole_length : ℕ → ℕ
whole_length length = granules_up_to (length_granule length) length * length_granule length

-- the lines of a length, by its granule, its mask, the rounded length and the padding
unfoldable pub length_lines : ℕ → ℕ → ℕ → ℕ → ℕ → List ℕ
length_lines length granule mask rounded padding =
    codes "asked    length " ++ decimal length ++ codes "\nrounded  length " ++ decimal rounded
    ++ codes "\nalign    " ++ decimal granule ++ codes ", mask " ++ hex_of 16 mask ++ codes "\npadding  " ++ decimal padding
    ++ codes "\nbounds   0000000000000000 " ++ hex_of 17 rounded ++ codes ", and so from each multiple of " ++ decimal granule ++ codes "\n"

unfoldable pub length_text : ℕ → List ℕ
length_text length =
    length_lines length (length_granule length) (alignment_mask length) (whole_length length) (whole_length length - length)
