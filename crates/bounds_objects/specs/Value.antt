-- A capability that a register or memory holds, tagged or not, as an object (UCAM-CL-TR-987, capability fields).
use Rattle.std.specs.Prelude.{List, ◌++◌, ℕ, codes}
use Rattle.json.specs.Token.{Token}
use Rattle.cap_bounds.specs.CapValue.{CapValue, is_tagged, value_address, value_base, value_top, value_perms, value_flag, value_otype}
use Rattle.cap_rights.specs.Perms.{hardware_view}
use Rattle.bounds_text.specs.Letters.{permission_letters}
use Rattle.objects.specs.Items.{address_field, number_field, object_field, text_field, truth_field, wide_field}
use Rattle.bounds_text.specs.WordText.{sealing_of}
use Rattle.bounds_objects.specs.Word.{sealing_word}

-- its tag, its address and its bounds
unfoldable pub bound_fields : CapValue → List Token
bound_fields v =
    truth_field (codes "tag") (is_tagged v) ++ address_field (codes "address") (value_address v)
    ++ address_field (codes "base") (value_base v) ++ wide_field (codes "top") (value_top v)

-- its permissions as CGetPerm gives them, and in letters; its flag and its type
unfoldable pub kind_fields : CapValue → List Token
kind_fields v =
    number_field (codes "perms") (hardware_view (value_perms v)) ++ text_field (codes "letters") (permission_letters (value_perms v))
    ++ truth_field (codes "flag") (value_flag v) ++ number_field (codes "otype") (value_otype v)
    ++ text_field (codes "sealing") (sealing_word (sealing_of (value_otype v)))

unfoldable pub value_field : List ℕ → CapValue → List Token
value_field name v = object_field name (bound_fields v ++ kind_fields v)
