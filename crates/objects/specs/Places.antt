-- Places: an address, the label at it or fewer than 4096 bytes below it, and the line of a source that places its instruction.
use Rattle.std.specs.Prelude.{ℕ, ◌-◌, nat_lt, if◌then◌else◌, List, ◌++◌, Option, Some, None, codes}
use Rattle.json.specs.Token.{Token}
use Rattle.symbols.specs.Symbols.{Symbol, nearest, source_at}
use Rattle.objects.specs.Items.{address_field, null_field, number_field, object_field, text_field}

abbrev pub no_label : List Token
no_label = null_field (codes "label") ++ null_field (codes "offset")

abbrev pub label_and_offset : Option Symbol → ℕ → List Token
label_and_offset None address = no_label
label_and_offset (Some s) address =
    if nat_lt (address - s.address) 4096
    then text_field (codes "label") s.name ++ number_field (codes "offset") (address - s.address) else no_label

unfoldable pub label_fields : List Symbol → ℕ → List Token
label_fields symbols address = label_and_offset (nearest symbols address) address

abbrev pub line_field : Option (List ℕ) → List Token
line_field None = null_field (codes "source")
line_field (Some line) = text_field (codes "source") line

unfoldable pub source_field : List Symbol → ℕ → List Token
source_field symbols address = line_field (source_at symbols address)

unfoldable pub place_field : List ℕ → List Symbol → ℕ → List Token
place_field name symbols address =
    object_field name (address_field (codes "address") address ++ label_fields symbols address ++ source_field symbols address)
