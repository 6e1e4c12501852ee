-- The members of a reach as objects, one a line: its number, where it was found, the member that led there, and the capability.
use Rattle.std.specs.Prelude.{ℕ, List, ◌++◌, codes}
use Rattle.json.specs.Token.{Token}
use Rattle.symbols.specs.Symbols.{Symbol}
use Rattle.reached.specs.declared.member.Place.{Place}
use Rattle.reached.specs.declared.member.Place.TheVariants.{Root, Granule}
use Rattle.reached.specs.Order.{Found}
use Rattle.objects.specs.Items.{null_field, number_field, object_line, text_field}
use Rattle.objects.specs.Places.{place_field}
use Rattle.bounds_objects.specs.Value.{value_field}
use Rattle.reach_texts.specs.Text.{numbered, place_name}

-- the register or the granule of a member
unfoldable pub found_fields : List Symbol → Place → List Token
found_fields symbols (Granule address) = null_field (codes "register") ++ place_field (codes "granule") symbols address
found_fields symbols other = text_field (codes "register") (place_name symbols other) ++ null_field (codes "granule")

-- the member that led there; a root needs none
abbrev pub from_field : Place → ℕ → List Token
from_field (Root n) from = null_field (codes "from")
from_field other from = number_field (codes "from") from

unfoldable pub link_fields : ℕ → Place → ℕ → List Token
link_fields number place from = number_field (codes "member") number ++ from_field place from

unfoldable pub member_fields : List Symbol → ℕ → Found → List Token
member_fields symbols number x =
    link_fields number x.place x.from ++ found_fields symbols x.place ++ value_field (codes "capability") x.value

abbrev pub member_object : List Symbol → ℕ → Found → List ℕ
member_object symbols number x = object_line (member_fields symbols number x)

abbrev pub objects_text : List Symbol → List Found → List ℕ
objects_text symbols xs = numbered (member_object symbols) 0 xs
