-- What some values open that rules speak of.
use Rattle.std.specs.Prelude.{ℕ, ◌+◌, Bool, not, ◌&&◌, ◌==◌, nat_le, nat_lt, if◌then◌else◌, List, [], ◌∷◌, map}
use Rattle.std.specs.List.{list_any}
use Rattle.base.specs.declared.otype.TheConstants.{FIRST_RESERVED}
use Rattle.base.specs.ObjectType.{is_reserved}
use Rattle.base.specs.Ram.{ram_base}
use Rattle.cap_bounds.specs.CapValue.{CapValue, is_sealed, value_base, value_top, value_otype}
use Rattle.cap_rights.specs.declared.permission.Permission.TheVariants.{Execute}
use Rattle.cap_rights.specs.Permission.{permits}
use Rattle.reach.specs.declared.range.Range.{Range}
use Rattle.reach.specs.declared.right.Right.{Right}
use Rattle.reach.specs.Ranges.{ranges_of}
use Rattle.policy.specs.Rule.{entry}

-- object types that are not reserved, to a right
abbrev pub opens_types : Right → List CapValue → Bool
opens_types right vs = list_any (λ r. nat_lt r.from FIRST_RESERVED) (ranges_of right vs)

-- puts a number among ascending ones, if it is not there
abbrev pub put_type : ℕ → List ℕ → List ℕ
put_type t [] = t ∷ []
put_type t (u ∷ us) = if nat_lt u t then u ∷ put_type t us else (if u == t then u ∷ us else t ∷ u ∷ us)

-- the types of the values that are sealed with one that is not reserved, ascending and each once, and others
abbrev pub with_type : List ℕ → CapValue → List ℕ
with_type types v = if is_sealed v && not (is_reserved (value_otype v)) then put_type (value_otype v) types else types

abbrev pub types_with : List ℕ → List CapValue → List ℕ
types_with types [] = types
types_with types (v ∷ vs) = types_with (with_type types v) vs

-- sealed, with Execute, and where a jump through its seal leads is an instruction in RAM and in its bounds
abbrev pub is_enterable : CapValue → Bool
is_enterable c =
    is_sealed c
    && (permits c Execute
    && (nat_le ram_base (entry c)
    && (nat_le (value_base c) (entry c)
    && nat_le (entry c + 4) (value_top c))))

-- where jumps through the seals of values lead, ascending and each once, and others
abbrev pub with_entry : List ℕ → CapValue → List ℕ
with_entry entries v = if is_enterable v then put_type (entry v) entries else entries

abbrev pub entries_with : List ℕ → List CapValue → List ℕ
entries_with entries [] = entries
entries_with entries (v ∷ vs) = entries_with (with_entry entries v) vs

-- each as the range of its first byte
abbrev pub entry_range : ℕ → Range
entry_range a = record { from = a; to = a + 1 }

abbrev pub entered_by : List CapValue → List Range
entered_by vs = map entry_range (entries_with [] vs)
