-- The text of a register's value: every field of it, whether it is tagged or not (UCAM-CL-TR-987, capability fields).
use Rattle.std.specs.Prelude.{ℕ, Bool, if◌then◌else◌, List, ◌++◌, codes}
use Rattle.cap_bounds.specs.CapValue.{CapValue, is_tagged, value_address, value_base, value_top, value_perms, value_flag, value_otype}
use Rattle.cap_rights.specs.Perms.{hardware_view}
use Rattle.texts.specs.Hex.{hex_of}

-- a truth value as a digit
abbrev pub digit : Bool → List ℕ
digit b = if b then codes "1" else codes "0"

-- tag, address, base, top, the permissions as CGetPerm gives them, flag and type
unfoldable pub shown_value : CapValue → List ℕ
shown_value v =
    codes "v:" ++ digit (is_tagged v) ++ codes " a:" ++ hex_of 16 (value_address v) ++ codes " b:" ++ hex_of 16 (value_base v)
    ++ codes " t:" ++ hex_of 17 (value_top v) ++ codes " p:" ++ hex_of 5 (hardware_view (value_perms v))
    ++ codes " f:" ++ digit (value_flag v) ++ codes " o:" ++ hex_of 5 (value_otype v)

-- a line that shows a value under a name
abbrev pub value_line : List ℕ → CapValue → List ℕ
value_line name v = name ++ codes " " ++ shown_value v ++ codes "\n"
