-- What a run enters: ranges of code, that is PCC's bounds, and what the code in each could do when it was entered, as rules of a policy.
use Rattle.std.specs.Prelude.{ℕ, ◌-◌, ◌^◌, Bool, true, not, ◌&&◌, ◌||◌, ◌==◌, nat_lt, if◌then◌else◌, List, [], ◌∷◌, ◌++◌}
use Rattle.std.specs.Prelude.{Option, Some, None, bytes_eq, codes, decimal}
use Rattle.std.specs.List.{flat_map, list_any}
use Rattle.cap_bounds.specs.CapValue.{CapValue}
use Rattle.devices.specs.Devices.{halt, timer_compare, transmit}
use Rattle.texts.specs.Hex.{hex_of}
use Rattle.steps.specs.declared.event.Event.{Event}
use Rattle.steps.specs.State.{State}
use Rattle.reach.specs.declared.range.Range.{Range}
use Rattle.reach.specs.declared.right.Right.{Right}
use Rattle.reach.specs.declared.right.Right.TheVariants.{Store, Load, Execute, Keep, Seal, Unseal}
use Rattle.reach.specs.Ranges.{bounds_of, ranges_of}
use Rattle.policy.specs.Watch.{values_in}
use Rattle.cap_rights.specs.Opens.{opens_store, opens_system}
use Rattle.policy.specs.Opened.{entered_by, opens_types, types_with}
use Rattle.policy_audit.specs.Object.{rule_object}
use Rattle.policy_audit.specs.Told.{told}

-- ---- ranges

unfoldable pub from_to : ℕ → ℕ → List ℕ
from_to from to = codes "0x" ++ hex_of 16 from ++ codes "..0x" ++ hex_of 16 to

-- from an address on, by how many there are
unfoldable pub from_on : ℕ → List ℕ
from_on from = codes "0x" ++ hex_of 16 from ++ codes "..+0x" ++ hex_of 16 (2 ^ 64 - from)

-- all addresses are two ranges, since their number has no text
unfoldable pub range_text : Range → List ℕ
range_text r =
    if nat_lt r.to (2 ^ 64) then from_to r.from r.to
    else (if r.from == 0 then from_to 0 (2 ^ 63) ++ codes " " ++ from_on (2 ^ 63) else from_on r.from)

unfoldable pub next_range : Range → List ℕ
next_range r = codes " " ++ range_text r

abbrev pub within_text : List Range → List ℕ
within_text [] = codes " no"
within_text (r ∷ rs) = codes " within" ++ flat_map next_range (r ∷ rs)

-- ---- what some values open

-- the addresses, to a right
unfoldable pub bytes_part : List ℕ → Right → List CapValue → List ℕ
bytes_part name right vs = name ++ within_text (ranges_of right vs)

-- where jumps through their seals lead
unfoldable pub enter_part : List CapValue → List ℕ
enter_part vs = codes ", enter" ++ within_text (entered_by vs)

abbrev pub yes_or_no : Bool → List ℕ
yes_or_no b = if b then codes "yes" else codes "no"

-- the registers of the devices and of the system, and object types that are not reserved
unfoldable pub rights_part : List CapValue → List ℕ
rights_part vs =
    codes ", transmit " ++ yes_or_no (list_any (opens_store transmit) vs) ++ codes ", halt " ++ yes_or_no (list_any (opens_store halt) vs)
    ++ codes ", timer " ++ yes_or_no (list_any (opens_store timer_compare) vs) ++ codes ", system "
    ++ yes_or_no (list_any opens_system vs) ++ codes ", seal " ++ yes_or_no (opens_types Seal vs || opens_types Unseal vs)

unfoldable pub next_type : ℕ → List ℕ
next_type t = codes " " ++ decimal t

abbrev pub types_text : List ℕ → List ℕ
types_text [] = codes " none"
types_text (t ∷ ts) = flat_map next_type (t ∷ ts)

unfoldable pub types_part : List CapValue → List ℕ
types_part vs = codes ", types" ++ types_text (types_with [] vs)

-- ---- rules

unfoldable pub code_part : Range → List ℕ
code_part code = codes "when pc in " ++ range_text code ++ codes ": "

unfoldable pub ranges_part : List CapValue → List ℕ
ranges_part vs =
    bytes_part (codes "store") Store vs ++ bytes_part (codes ", load") Load vs ++ bytes_part (codes ", execute") Execute vs
    ++ bytes_part (codes ", keep") Keep vs ++ enter_part vs

unfoldable pub entry_rule : Range → List CapValue → List ℕ
entry_rule code vs = code_part code ++ ranges_part vs ++ rights_part vs ++ types_part vs

-- ---- entries

-- what is remembered: PCC's bounds before the last step, if there was one, and the rules so far
pub record Entered : Type 0 where
  pub code : Option Range
  pub rules : List (List ℕ)

-- whether a range of code is entered: it has an address, and is not the one before
abbrev pub is_other : Option Range → Range → Bool
is_other None code = true
is_other (Some last) code = not (last.from == code.from && last.to == code.to)

abbrev pub is_entered : Option Range → Range → Bool
is_entered last code = nat_lt code.from code.to && is_other last code

-- a rule, if it is not among those so far
abbrev pub new_rule : List (List ℕ) → List ℕ → List (List ℕ)
new_rule rules rule = if list_any (λ r. bytes_eq r rule) rules then [] else rule ∷ []

-- the rule of an entry, or none
unfoldable pub entry_rules : Entered → State → List (List ℕ)
entry_rules e s =
    if is_entered e.code (bounds_of s.scrs.pcc) then new_rule e.rules (entry_rule (bounds_of s.scrs.pcc) (values_in s)) else []

-- the line of a rule, as an object or as a policy has it
unfoldable pub rule_told : Bool → List ℕ → List ℕ
rule_told json rule = if json then rule_object rule else rule ++ codes "\n"

abbrev pub says_entry : Bool → Entered → ℕ → State → List ℕ
says_entry json e step s = flat_map (rule_told json) (entry_rules e s)

abbrev pub adds_entry : Entered → State → Entered
adds_entry e s = record { code = Some (bounds_of s.scrs.pcc); rules = e.rules ++ entry_rules e s }

-- what is remembered before the first step
abbrev pub none_entered : Entered
none_entered = record { code = None; rules = [] }

-- the lines of a run's entries, each once
abbrev pub entries_text : Bool → List Event → State → List ℕ
entries_text json events s = told (says_entry json) adds_entry 0 events none_entered s
