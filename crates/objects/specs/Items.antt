-- What objects say, and their lines: JSON (RFC 8259), an object a line.
use Rattle.std.specs.Prelude.{ℕ, Bool, List, [], ◌∷◌, ◌++◌, codes, decimal}
use Rattle.json.specs.Token.{Token, begin_object, end_object, key, string, number, boolean, null}
use Rattle.json.specs.Print.{print}
use Rattle.texts.specs.Hex.{hex_of}
use Rattle.objects.specs.declared.item.Item.{Item}
use Rattle.objects.specs.declared.item.Item.TheVariants.{Null, Truth, Number, Address, Half, Wide, Text, Begin, End}

-- ---- fields

abbrev pub null_field : List ℕ → List Token
null_field name = key name ∷ null ∷ []

abbrev pub truth_field : List ℕ → Bool → List Token
truth_field name truth = key name ∷ boolean truth ∷ []

abbrev pub number_field : List ℕ → ℕ → List Token
number_field name n = key name ∷ number (decimal n) ∷ []

-- a number as a string: `0x` and its lowest digits, with leading zeros
abbrev pub digits_field : ℕ → List ℕ → ℕ → List Token
digits_field width name n = key name ∷ string (codes "0x" ++ hex_of width n) ∷ []

-- the lowest 64 bits of one, and one that may have more
abbrev pub address_field : List ℕ → ℕ → List Token
address_field name n = digits_field 16 name n

abbrev pub wide_field : List ℕ → ℕ → List Token
wide_field name n = digits_field 17 name n

abbrev pub text_field : List ℕ → List ℕ → List Token
text_field name text = key name ∷ string text ∷ []

-- an object inside
abbrev pub object_field : List ℕ → List Token → List Token
object_field name fields = key name ∷ begin_object ∷ (fields ++ end_object ∷ [])

-- ---- items, of which objects are written

abbrev pub item_tokens : Item → List Token
item_tokens (Null name) = null_field name.now
item_tokens (Truth name truth) = truth_field name.now truth
item_tokens (Number name n) = number_field name.now n
item_tokens (Address name n) = address_field name.now n
item_tokens (Half name n) = address_field name.now n
item_tokens (Wide name n) = wide_field name.now n
item_tokens (Text name text) = text_field name.now text.now
item_tokens (Begin name) = key name.now ∷ begin_object ∷ []
item_tokens End = end_object ∷ []

abbrev pub tokens_of : List Item → List Token
tokens_of [] = []
tokens_of (i ∷ is) = item_tokens i ++ tokens_of is

-- ---- the line

-- of what was said after the beginning of an object
abbrev pub line_of : List Token → List ℕ
line_of said = print (said ++ end_object ∷ []) ++ codes "\n"

abbrev pub object_line : List Token → List ℕ
object_line fields = line_of (begin_object ∷ fields)
