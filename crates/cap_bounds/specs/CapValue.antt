-- What a register or a granule holds: a capability, or 128 bits of data.
use Rattle.std.specs.Prelude.{◌≡◌, ℕ, ◌^◌, ◌<◌, Bool, true, false, if◌then◌else◌, ◌==◌}
use Rattle.base.specs.ObjectType.{unsealed_type}
use Rattle.cap_format.specs.Word.{address_of, perms_of, flag_of, otype_of, with_address_of, null_word}
use Rattle.cap_bounds.specs.Window.{base_of_word, top_of_word}
use Rattle.cap_bounds.specs.Record.{Record, IsWellFormed, encoded, decoded}

-- tagged: a record; untagged: any 128 bits, which may be no record's word
pub data CapValue : Type 0 where
  Cap : Record → CapValue
  Data : ℕ → CapValue

-- a tagged value is a well-formed record, an untagged one a word
abbrev pub IsSound : CapValue → Type 0
IsSound (Cap r) = IsWellFormed r
IsSound (Data n) = n < 2 ^ 128

abbrev pub is_tagged : CapValue → Bool
is_tagged (Cap r) = true
is_tagged (Data n) = false

-- the 128 bits of a value
abbrev pub word_of : CapValue → ℕ
word_of (Cap r) = encoded r
word_of (Data n) = n

-- what a word and a tag mean
abbrev pub value_of : ℕ → Bool → CapValue
value_of word tag = if tag then Cap (decoded word) else Data word

-- the fields of a value; those of data are those that its bits decode to
abbrev pub value_base : CapValue → ℕ
value_base (Cap r) = r.base
value_base (Data n) = base_of_word n

abbrev pub value_top : CapValue → ℕ
value_top (Cap r) = r.top
value_top (Data n) = top_of_word n

abbrev pub value_address : CapValue → ℕ
value_address (Cap r) = r.address
value_address (Data n) = address_of n

abbrev pub value_perms : CapValue → ℕ
value_perms (Cap r) = r.perms
value_perms (Data n) = perms_of n

abbrev pub value_flag : CapValue → Bool
value_flag (Cap r) = r.flag
value_flag (Data n) = flag_of n

abbrev pub value_otype : CapValue → ℕ
value_otype (Cap r) = r.otype
value_otype (Data n) = otype_of n

abbrev pub is_sealed : CapValue → Bool
is_sealed v = if value_otype v == unsealed_type then false else true

-- the value without its tag
abbrev pub without_tag : CapValue → CapValue
without_tag v = Data (word_of v)

-- an integer in a register: null with that address
abbrev pub integer : ℕ → CapValue
integer n = Data (with_address_of null_word n)

-- a sound value is what its word and its tag mean
abbrev pub ValueIsItsWordAndTag : Type 0
ValueIsItsWordAndTag = (v : CapValue) → IsSound v → value_of (word_of v) (is_tagged v) ≡ v
